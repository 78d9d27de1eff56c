-- What a search for a free container finds, in a range and on the way round.
use Rattle.std.proofs.Common.{◌≡◌, ℕ, zero, suc, ◌+◌, ◌-◌, ◌<◌, ◌≤◌, true, cond, ltb, ◌⊎◌, length, Some, None, Option, refl, ap, inl, inr, ⊎_elim, arith}
use Rattle.std.proofs.lemmas.List.{nil_from_length}
use Rattle.std.proofs.lemmas.Bool.{ltb-true, eqb-true, lt-ltb, le-ltb, eq-eqb, cases_lt, and_parts, and_from, both_ways, cond_both}
use Rattle.records.specs.Records.{Contents}
use Rattle.std.specs.List.{range_with_len, find}
use Rattle.std.specs.Option.{option_or}
use Rattle.devices.specs.Questions.{records_of, unused, is_free}
use Rattle.placing.specs.Openings.{free_in, behind, next_free, Free, Before, up, across, round}

-- the question answers yes of exactly the free containers
pub free_true : (cs : Contents) (c : ℕ) → is_free cs c ≡ true → Free cs c
free_true cs c e =
    let p = and_parts (ltb c (length cs)) (unused (records_of cs c)) e in
    record { here = ltb-true c (length cs) p.0; none = nil_from_length (records_of cs c) (eqb-true (length (records_of cs c)) 0 p.1) }

pub true_free : (cs : Contents) (c : ℕ) → Free cs c → is_free cs c ≡ true
true_free cs c f = and_from _ _ (lt-ltb c (length cs) f.here) (eq-eqb (length (records_of cs c)) 0 (ap length f.none))

-- c is the first free container from a to before b
record FirstIn (cs : Contents) (a b c : ℕ) : Type 0 where
  free : Free cs c
  low : a ≤ c
  high : c < b
  first : (k : ℕ) → a ≤ k → k < c → Free cs k → ⊥

-- what a search from a to before b finds
abbrev Found : Contents → ℕ → ℕ → Option ℕ → Type 0
Found cs a b None = (k : ℕ) → a ≤ k → k < b → Free cs k → ⊥
Found cs a b (Some c) = FirstIn cs a b c

-- where a itself is not free, a free container from a on stands behind it
past_used : (cs : Contents) (a k : ℕ) → (Free cs a → ⊥) → a ≤ k → Free cs k → a + 1 ≤ k
past_used cs a k used low free =
    ⊎_elim
    (λ (l : a < k). omega arith)
    (λ (l : k ≤ a). absurd (let e : k ≡ a = omega arith in used (rw e at free)))
    (cases_lt a k)

-- so a search from a on finds what one from the next on finds
from_next : (cs : Contents) (a b : ℕ) (o : Option ℕ) → (Free cs a → ⊥) → Found cs (a + 1) b o → Found cs a b o
from_next cs a b None used f = λ k low high free. f k (past_used cs a k used low free) high free
from_next cs a b (Some c) used f =
    let l = f.low in
    record { free = f.free; low = omega arith; high = f.high; first = λ k low high free. f.first k (past_used cs a k used low free) high free }

found_among : (cs : Contents) (a b n : ℕ) → n ≡ b - a → Found cs a b (find (is_free cs) (range_with_len a n))
found_among cs a b zero e = λ k low high free. absurd (omega arith)
found_among cs a b (suc n) e =
    let later = find (is_free cs) (range_with_len (a + 1) n) in
    cond_both (is_free cs a) (Some a) later (Found cs a b)
    (λ t. record { free = free_true cs a t; low = omega arith; high = omega arith; first = λ k low high free. absurd (omega arith) })
    (λ f. from_next cs a b later (λ free. both_ways (is_free cs a) f (true_free cs a free)) (found_among cs (a + 1) b n (omega arith)))

found_in : (cs : Contents) (a b : ℕ) → Found cs a b (free_in cs a b)
found_in cs a b = found_among cs a b (b - a) refl

-- where the way round begins
start_cases : (last n : ℕ) → ((last < n) × (behind last n ≡ last + 1)) ⊎ ((n ≤ last) × (behind last n ≡ 0))
start_cases last n =
    ⊎_elim
    (λ h. inl (h, ap (λ b. cond b (last + 1) 0) (lt-ltb last n h)))
    (λ h. inr (h, ap (λ b. cond b (last + 1) 0) (le-ltb last n h)))
    (cases_lt last n)

-- c is free, and no container before it on the way round is
pub record FirstRound (cs : Contents) (last c : ℕ) : Type 0 where
  pub free : Free cs c
  pub first : (k : ℕ) → Before last k c → Free cs k → ⊥

-- what the search on the way round finds
abbrev pub FoundRound : Contents → ℕ → Option ℕ → Type 0
FoundRound cs last None = (k : ℕ) → Free cs k → ⊥
FoundRound cs last (Some c) = FirstRound cs last c

module _ (cs : Contents) (last s : ℕ) (start : ((last < length cs) × (s ≡ last + 1)) ⊎ ((length cs ≤ last) × (s ≡ 0))) where
  -- found before the turn
  first_half : (c k : ℕ) → FirstIn cs s (length cs) c → Before last k c → Free cs k → ⊥
  first_half c k f (up a b) free = let l = f.low in f.first k (let h = free.here in ⊎_elim (λ x. omega arith) (λ x. omega arith) start) b free
  first_half c k f (across a b) free = let l = f.low in let h = free.here in ⊎_elim (λ x. omega arith) (λ x. omega arith) start
  first_half c k f (round a b) free = let l = f.low in f.first k (let h = free.here in ⊎_elim (λ x. absurd (omega arith)) (λ x. omega arith) start) a free

  -- found after the turn
  second_half : (c k : ℕ) → ((j : ℕ) → s ≤ j → j < length cs → Free cs j → ⊥) → FirstIn cs 0 s c → Before last k c → Free cs k → ⊥
  second_half c k none f (up a b) free = let l = f.high in ⊎_elim (λ x. omega arith) (λ x. omega arith) start
  second_half c k none f (across a b) free = none k (⊎_elim (λ x. omega arith) (λ x. omega arith) start) free.here free
  second_half c k none f (round a b) free = f.first k (omega arith) a free

  halves : (o p : Option ℕ) → Found cs s (length cs) o → Found cs 0 s p → FoundRound cs last (option_or o p)
  halves None None f g = λ k free. ⊎_elim (λ h. g k (omega arith) h free) (λ h. f k h free.here free) (cases_lt k s)
  halves None (Some c) f g = record { free = g.free; first = λ k b free. second_half c k f g b free }
  halves (Some c) p f g = record { free = f.free; first = λ k b free. first_half c k f b free }

pub found_round : (cs : Contents) (last : ℕ) → FoundRound cs last (next_free cs last)
found_round cs last =
    let s = behind last (length cs) in
    halves cs last s (start_cases last (length cs)) (free_in cs s (length cs)) (free_in cs 0 s) (found_in cs s (length cs)) (found_in cs 0 s)
