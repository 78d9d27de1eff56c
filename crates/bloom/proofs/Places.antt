-- Bits that are set stay set, and cleared bytes have none.
use Rattle.std.proofs.Common.{◌≡◌, ℕ, zero, suc, ◌*◌, ◌/◌, ◌%◌, ◌^◌, ◌<◌, ◌≤◌, min, Bool, true, false, cond, ◌&&◌, ◌||◌, eqb, ◌⊎◌, List, ◌++◌, length, get_or, take, drop, set, replicate, take-append-drop, sym, refl, ap, ◌∙◌, subst, inl, inr, arith}
use native.Mathlib.Nat.{zero-div}
use lib.Bits.{bit_or, or_comm}
use Rattle.std.proofs.lemmas.Nat.Bits.{bit_at-lt, bit_at_or, bit_at-pow_same}
use Rattle.std.specs.Int.{bit_at}
use Rattle.std.proofs.lemmas.List.{get_or-set_same, get_or-set_other, length-set, length-replicate, length-append, length-drop, get_or_append_left, get_or-replicate, drop-set-lt, get_or-take, length-take-le, set-append_left}
use Rattle.std.proofs.lemmas.Nat.{mod_below}
use Rattle.std.proofs.lemmas.Bool.{cases_eq, eqb-true, eqb-false, eq-eqb, ne_eqb, and_parts, and_from, and_left, and_right, or_from}
use Rattle.std.specs.List.{list_all, range_with_len}
use Rattle.keys.specs.Encodings.{home_number}
use Rattle.bloom.specs.Bits.{is_set, with_bit, with_bits, all_set, used, place, all_four, with_four, cleared}

-- a bit of the first stands in the join
or_bit : (a b k : ℕ) → bit_at a k ≡ 1 → bit_at (bit_or a b) k ≡ 1
or_bit a b k e = omega (arith, bit_at_or a b k, bit_at-lt b k)

same_length : (f : ℕ → ℕ) (n : ℕ) (bs : List ℕ) → length (with_bits f n bs) ≡ length bs
same_length f zero bs = refl
same_length f (suc n) bs = length-set (with_bits f n bs) (f n / 8) _ ∙ same_length f n bs

keeps_by : (bs : List ℕ) (p q : ℕ) → p / 8 < length bs → (q / 8 ≡ p / 8) ⊎ (q / 8 ≡ p / 8 → ⊥) → get_or bs (q / 8) 0 / 2 ^ (q % 8) % 2 ≡ 1 → get_or (with_bit bs p) (q / 8) 0 / 2 ^ (q % 8) % 2 ≡ 1
keeps_by bs p q lt (inl e) h =
    let byte : get_or (with_bit bs p) (q / 8) 0 ≡ bit_or (get_or bs (q / 8) 0) (2 ^ (p % 8)) =
    ap (λ i. get_or (with_bit bs p) i 0) e ∙ get_or-set_same bs (p / 8) _ 0 lt ∙ ap (λ i. bit_or (get_or bs i 0) (2 ^ (p % 8))) (sym e) in
    ap (λ n. n / 2 ^ (q % 8) % 2) byte ∙ or_bit (get_or bs (q / 8) 0) (2 ^ (p % 8)) (q % 8) h
keeps_by bs p q lt (inr n) h = ap (λ n. n / 2 ^ (q % 8) % 2) (get_or-set_other bs (p / 8) (q / 8) _ 0 n) ∙ h

keeps : (bs : List ℕ) (p q : ℕ) → p / 8 < length bs → is_set bs q ≡ true → is_set (with_bit bs p) q ≡ true
keeps bs p q lt h = eq-eqb _ 1 (keeps_by bs p q lt (cases_eq (q / 8) (p / 8)) (eqb-true _ 1 h))

here : (bs : List ℕ) (p : ℕ) → p / 8 < length bs → is_set (with_bit bs p) p ≡ true
here bs p lt =
    let k = p % 8 in
    let a = get_or bs (p / 8) 0 in
    let byte : get_or (with_bit bs p) (p / 8) 0 ≡ bit_or (2 ^ k) a = get_or-set_same bs (p / 8) _ 0 lt ∙ or_comm a (2 ^ k) in
    eq-eqb _ 1 (ap (λ n. n / 2 ^ k % 2) byte ∙ or_bit (2 ^ k) a k (bit_at-pow_same k))

all_step : (g : ℕ → ℕ) (m : ℕ) (xs : List ℕ) (p : ℕ) → p / 8 < length xs → all_set g m xs ≡ true → all_set g m (with_bit xs p) ≡ true
all_step g zero xs p lt h = refl
all_step g (suc m) xs p lt h =
    let both = and_parts (all_set g m xs) (is_set xs (g m)) h in
    and_from _ _ (all_step g m xs p lt both.0) (keeps xs p (g m) lt both.1)

all_stay : (f : ℕ → ℕ) (bs : List ℕ) → ((s : ℕ) → f s / 8 < length bs) → (g : ℕ → ℕ) (n m : ℕ) → all_set g m bs ≡ true → all_set g m (with_bits f n bs) ≡ true
all_stay f bs within g zero m h = h
all_stay f bs within g (suc n) m h =
    let lt : f n / 8 < length (with_bits f n bs) = rw (same_length f n bs) (within n) in
    all_step g m (with_bits f n bs) (f n) lt (all_stay f bs within g n m h)

pub all_set_lem : (f : ℕ → ℕ) (bs : List ℕ) → ((s : ℕ) → f s / 8 < length bs) → (n : ℕ) → all_set f n (with_bits f n bs) ≡ true
all_set_lem f bs within zero = refl
all_set_lem f bs within (suc n) =
    let lt : f n / 8 < length (with_bits f n bs) = rw (same_length f n bs) (within n) in
    and_from _ _ (all_step f n (with_bits f n bs) (f n) lt (all_set_lem f bs within n)) (here (with_bits f n bs) (f n) lt)

less_by : (f : ℕ → ℕ) (n s : ℕ) (bs : List ℕ) → (s < n → all_set f n bs ≡ false) → s < suc n → is_set bs (f s) ≡ false → (s ≡ n) ⊎ (s ≡ n → ⊥) → all_set f (suc n) bs ≡ false
less_by f n s bs ih lt i (inl e) = and_right _ _ (subst (λ (q : ℕ). is_set bs (f q) ≡ false) e i)
less_by f n s bs ih lt i (inr d) = and_left _ _ (ih (omega arith))

pub all_less : (f : ℕ → ℕ) (n s : ℕ) (bs : List ℕ) → s < n → is_set bs (f s) ≡ false → all_set f n bs ≡ false
all_less f zero s bs lt i = absurd (omega arith)
all_less f (suc n) s bs lt i = less_by f n s bs (λ h. all_less f n s bs h i) lt i (cases_eq s n)

-- the tests of a key's four bits, first to last
four_by : (a b c d : Bool) → (a && (b && (c && (d && true)))) ≡ (true && a && b && c && d)
four_by true true true true = refl
four_by true true true false = refl
four_by true true false d = refl
four_by true false c d = refl
four_by false b c d = refl

pub four_tests : (f : ℕ → ℕ) (bs : List ℕ) → list_all (λ s. is_set bs (f s)) (range_with_len 0 4) ≡ all_set f 4 bs
four_tests f bs = four_by (is_set bs (f 0)) (is_set bs (f 1)) (is_set bs (f 2)) (is_set bs (f 3))

same_used : (xs ys : List ℕ) → length xs ≡ length ys → used xs ≡ used ys
unfolding used
same_used xs ys e = ap (λ n. min n 65536) e

place_below : (key bs : List ℕ) → (used bs ≡ 0 → ⊥) → (s : ℕ) → place key (used bs) s / 8 < used bs
unfolding place used
place_below key bs n s =
    let pos : 0 < 8 * min (length bs) 65536 = omega arith in
    let lt = mod_below (home_number s key) (8 * min (length bs) 65536) pos in
    omega arith

used_le : (bs : List ℕ) → used bs ≤ length bs
unfolding used
used_le bs = omega arith

-- bits among the first bytes
all_taken : (f : ℕ → ℕ) (L : ℕ) (bs : List ℕ) → ((s : ℕ) → f s / 8 < L) → (n : ℕ) → all_set f n (take L bs) ≡ all_set f n bs
all_taken f L bs below zero = refl
all_taken f L bs below (suc n) =
    ap (λ m. m && is_set (take L bs) (f n)) (all_taken f L bs below n)
    ∙ ap (λ v. all_set f n bs && eqb (v / 2 ^ (f n % 8) % 2) 1) (get_or-take L bs (f n / 8) 0 (below n))

with_taken : (f : ℕ → ℕ) (L : ℕ) (bs : List ℕ) → L ≤ length bs → ((s : ℕ) → f s / 8 < L) → (n : ℕ) → with_bits f n (take L bs) ++ drop L bs ≡ with_bits f n bs
with_taken f L bs le below zero = take-append-drop L bs
with_taken f L bs le below (suc n) =
    let front = with_bits f n (take L bs) in
    let lt : f n / 8 < length front = rw (same_length f n (take L bs), length-take-le L bs le) (below n) in
    ap (λ v. set front (f n / 8) (bit_or v (2 ^ (f n % 8))) ++ drop L bs) (sym (get_or_append_left front (drop L bs) 0 (f n / 8) lt))
    ∙ sym (set-append_left front (drop L bs) (f n / 8) _ lt)
    ∙ ap (λ ys. with_bit ys (f n)) (with_taken f L bs le below n)

-- a key's four bits among the bytes that serve, if there are any
module _ (key bs : List ℕ) (L : ℕ) (e : L ≡ used bs) (n : false ≡ eqb (length (take L bs)) 0) where
  used_within : L ≤ length bs
  used_within = omega (arith, used_le bs, e)

  long : length (take L bs) ≡ L
  long = length-take-le L bs used_within

  some : used bs ≡ 0 → ⊥
  some z = eqb-false (length (take L bs)) 0 (sym n) (long ∙ e ∙ z)

  below : (s : ℕ) → place key L s / 8 < L
  below s = subst (λ (m : ℕ). place key m s / 8 < m) (sym e) (place_below key bs some s)

  pub bits_say : (v : Bool) → v ≡ all_set (place key (length (take L bs))) 4 (take L bs) → v ≡ all_four key bs
  bits_say v h =
      h ∙ ap (λ m. all_set (place key m) 4 (take L bs)) long ∙ all_taken (place key L) L bs below 4 ∙ ap (λ m. all_set (place key m) 4 bs) e
      ∙ sym (ap (λ c. c || (all_set (place key (used bs)) 4 bs)) (ne_eqb (used bs) 0 some))

  pub bits_set : (ws : List ℕ) → ws ≡ with_bits (place key (length (take L bs))) 4 (take L bs) → ws ++ drop L bs ≡ with_four key bs
  bits_set ws h =
      ap (λ ys. ys ++ drop L bs) (h ∙ ap (λ m. with_bits (place key m) 4 (take L bs)) long)
      ∙ with_taken (place key L) L bs used_within below 4
      ∙ ap (λ m. with_bits (place key m) 4 bs) e
      ∙ sym (ap (λ c. cond c bs (with_bits (place key (used bs)) 4 bs)) (ne_eqb (used bs) 0 some))

mark_length_by : (t : Bool) (f : ℕ → ℕ) (bs : List ℕ) → length (cond t bs (with_bits f 4 bs)) ≡ length bs
mark_length_by true f bs = refl
mark_length_by false f bs = same_length f 4 bs

-- a yes stays a yes, and the key gets one
stay_by : (t : Bool) (f g : ℕ → ℕ) (bs : List ℕ) → (t ≡ false → (s : ℕ) → f s / 8 < length bs) → t || (all_set g 4 bs) ≡ true → t || (all_set g 4 (cond t bs (with_bits f 4 bs))) ≡ true
stay_by true f g bs w h = refl
stay_by false f g bs w h = all_stay f bs (w refl) g 4 4 h

yes_by : (t : Bool) (f : ℕ → ℕ) (bs : List ℕ) → (t ≡ false → (s : ℕ) → f s / 8 < length bs) → t || (all_set f 4 (cond t bs (with_bits f 4 bs))) ≡ true
yes_by true f bs w = refl
yes_by false f bs w = all_set_lem f bs (w refl) 4

tested : (key bs : List ℕ) → eqb (used bs) 0 ≡ false → (s : ℕ) → place key (used bs) s / 8 < length bs
tested key bs t s = omega (arith, used_le bs, place_below key bs (eqb-false (used bs) 0 t) s)

marked-used : (key bs : List ℕ) → used (with_four key bs) ≡ used bs
marked-used key bs = same_used (with_four key bs) bs (mark_length_by (eqb (used bs) 0) (place key (used bs)) bs)

pub say_stays : (key x bs : List ℕ) → all_four x bs ≡ true → all_four x (with_four key bs) ≡ true
say_stays key x bs h =
    subst (λ (L : ℕ). eqb L 0 || (all_set (place x L) 4 (with_four key bs)) ≡ true) (sym (marked-used key bs))
    (stay_by (eqb (used bs) 0) (place key (used bs)) (place x (used bs)) bs (tested key bs) h)

pub say_yes : (key bs : List ℕ) → all_four key (with_four key bs) ≡ true
say_yes key bs =
    subst (λ (L : ℕ). eqb L 0 || (all_set (place key L) 4 (with_four key bs)) ≡ true) (sym (marked-used key bs))
    (yes_by (eqb (used bs) 0) (place key (used bs)) bs (tested key bs))

-- cleared bytes have no bit
zero_bit : (n : ℕ) (rest : List ℕ) (p : ℕ) → p / 8 < n → is_set (replicate n 0 ++ rest) p ≡ false
zero_bit n rest p lt =
    let lt' : p / 8 < length (replicate n 0) = rw (length-replicate {A = ℕ} n 0) lt in
    let byte : get_or (replicate n 0 ++ rest) (p / 8) 0 ≡ 0 = get_or_append_left (replicate n 0) rest 0 (p / 8) lt' ∙ get_or-replicate n (p / 8) 0 0 lt in
    ap (λ v. eqb (v / 2 ^ (p % 8) % 2) 1) byte ∙ ap (λ v. eqb (v % 2) 1) (zero-div (2 ^ (p % 8)))

cleared-used : (bs : List ℕ) → used (cleared bs) ≡ used bs
unfolding used
cleared-used bs =
    let n = min (length bs) 65536 in
    let e : length (replicate n 0 ++ drop n bs) ≡ length bs = length-append (replicate n 0) (drop n bs) ∙ omega (arith, length-replicate {A = ℕ} n 0, length-drop n bs) in
    ap (λ m. min m 65536) e

pub cleared_none : (key bs : List ℕ) → (used bs ≡ 0 → ⊥) → all_four key (cleared bs) ≡ false
cleared_none key bs some =
    subst (λ (L : ℕ). (eqb L 0 || all_set (place key L) 4 (cleared bs)) ≡ false) (sym (cleared-used bs))
    (or_from (eqb (used bs) 0) _ (ne_eqb (used bs) 0 some) (all_less (place key (used bs)) 4 0 (cleared bs) (omega arith) (zero_bit (used bs) (drop (used bs) bs) _ (place_below key bs some 0))))

-- a mark reaches no byte beyond those that serve
bits_beyond : (f : ℕ → ℕ) (L : ℕ) (bs : List ℕ) → ((s : ℕ) → f s / 8 < L) → (n : ℕ) → drop L (with_bits f n bs) ≡ drop L bs
bits_beyond f L bs within zero = refl
bits_beyond f L bs within (suc n) = drop-set-lt L (with_bits f n bs) (f n / 8) _ (within n) ∙ bits_beyond f L bs within n

beyond_by : (t : Bool) (f : ℕ → ℕ) (L : ℕ) (bs : List ℕ) → (t ≡ false → (s : ℕ) → f s / 8 < L) → drop L (cond t bs (with_bits f 4 bs)) ≡ drop L bs
beyond_by true f L bs w = refl
beyond_by false f L bs w = bits_beyond f L bs (w refl) 4

pub mark_beyond : (key bs : List ℕ) → drop (used bs) (with_four key bs) ≡ drop (used bs) bs
mark_beyond key bs = beyond_by (eqb (used bs) 0) (place key (used bs)) (used bs) bs (λ t. place_below key bs (eqb-false (used bs) 0 t))
