-- A tape as its kind of fingerprint sees it, before and after a change.
use Rattle.std.specs.Prelude.{◌≡◌, ℕ, ◌+◌, ◌<◌, ◌≤◌, Bool, true, false, cond, List, [], ◌++◌, length, take, drop, Some, None, Option, not, nat_eq, Vec, ◌==◌, nat_le, slice_index_or, refl}
use Rattle.std.proofs.Common.{sym, ap, subst, ◌∙◌, ⊎_elim, rules, tests, arith}
use Rattle.std.proofs.lemmas.Bool.{cases_eq, and_parts, leb-true}
use Rattle.std.specs.Option.{option_eq}
use Rattle.std.specs.Vec.{with_items}
use Rattle.std.proofs.lemmas.List.{with_items_is}
use Rattle.records.specs.Records.{payload_bytes}
use Rattle.devices.specs.Questions.{records_of}
use Rattle.devices.specs.Changes.{appended, erased}
use Rattle.tape.specs.Log.{Entry, Sound, Logged, laid_before, entry_size, log_of, records_in, gathered}
use Rattle.tape.specs.Meaning.{held_at}
use Rattle.tape.specs.Sizes.{Good, countable}
use Rattle.tape.specs.Gathering.{length-gathered, get_or-gathered}
use Rattle.tape.specs.Holding.{good_from, held_same, held_none}
use Rattle.tape.proofs.Keeping.{space_more, good_more, good_without}
use Rattle.tape.proofs.Entries.{count_size, length-log_of}
use Rattle.tape.proofs.Sweeps.{Left}

-- what a size that is told says
pub sized : (n size z : ℕ) → Some size ≡ cond (countable n) (Some z) None → (countable n ≡ true) × (size ≡ z)
sized n size z e = go (countable n) e
  where
    go : (b : Bool) → Some size ≡ cond b (Some z) None → (b ≡ true) × (size ≡ z)
    go true p = (refl, cc)
    go false p = absurd (let q : ◌≡◌ {A = ℕ} 0 1 = cc in omega arith)

-- a length that compares as equal to the size that is told
pub sized_alike : (n len z : ℕ) (r : Option ℕ) → r ≡ cond (countable n) (Some z) None → false ≡ not (option_eq nat_eq r (Some len)) → (countable n ≡ true) × (len ≡ z)
sized_alike n len z r told e = let same : Some len ≡ r = search (rules, tests) in sized n len z (same ∙ told)

pub countable_few : (n : ℕ) → countable n ≡ true → n ≤ 32
countable_few n e = leb-true n 32 (and_parts (nat_le 2 n) (nat_le n 32) e).1

-- a walk reads the bytes at the width of the tape or of the kind, which are the same
pub logged_seen : (w v n k used : ℕ) (bs was : List ℕ) → ∥ Good v n k used bs ∥₁ → v ≡ w → was ≡ bs → Logged w k was
logged_seen w v n k used bs was good s e = subst (λ x. x) (λ i. Logged (s i) k (sym e i)) (good_from v n k used bs good).logged

-- a container that the kind sees
pub record Here (w v n k c : ℕ) (bs : List ℕ) : Type 0 where
  pub same : v ≡ w
  pub inside : c < n
  pub records : records_of (held_at w v n k bs) c ≡ records_in c (log_of v k bs)

pub held_here : (w v n k c : ℕ) (bs : List ℕ) → c < length (held_at w v n k bs) → Here w v n k c bs
held_here w v n k c bs h =
    ⊎_elim
    (λ e.
    let s = held_same w v n k bs e in
    let b : c < n = (let l = ap length s ∙ length-gathered n (log_of v k bs) in omega arith) in
    record { same = e; inside = b; records = ap (λ x. slice_index_or x c []) s ∙ get_or-gathered n c (log_of v k bs) b })
    (λ ne. absurd (let l = ap length (held_none w v n k bs ne) in omega arith))
    (cases_eq v w)

-- what a Vec holds after its bytes were changed in place
pub refill : {Z : Type 0} (v : Vec ℕ Z) (was last : List ℕ) → was ≡ v.items → length last ≡ length was → (with_items v last).items ≡ last
refill v was last e l = with_items_is v last (l ∙ ap length e ∙ sym v.ok.0)

-- one entry more, as the kind sees it
module _ (w v n k used : ℕ) (bs : List ℕ) (good : ∥ Good v n k used bs ∥₁) (e : Entry) (here : e.container < length (held_at w v n k bs))
    (one : length (records_of (held_at w v n k bs) e.container) < 63) (all : payload_bytes (records_of (held_at w v n k bs) e.container) + length e.stored.payload ≤ 7168) where
  abbrev g : Good v n k used bs
  g = good_from v n k used bs good

  abbrev at : Here w v n k e.container bs
  at = held_here w v n k e.container bs here

  abbrev es : List Entry
  es = log_of v k bs

  sound_v : Sound w e → Sound v e
  sound_v sound = subst (λ x. Sound x e) (sym at.same) sound

  one_v : length (records_in e.container es) < 63
  one_v = let r = ap length at.records in omega arith

  all_v : payload_bytes (records_in e.container es) + length e.stored.payload ≤ 7168
  all_v = let r = ap payload_bytes at.records in omega arith

  pub push_small : e.container < 256
  push_small = let a = at.inside in let b = g.few in omega arith

  pub push_space : used + entry_size w e ≤ length bs
  push_space = let s = at.same in let r = space_more v n k used bs g e at.inside one_v all_v in omega arith

  pub push_few : k ≤ length bs
  push_few = let a = count_size v es in let b = length-log_of v k bs in let c = g.logged.space in omega arith

  -- the front of the tape before and after the write
  pub pushed : Sound w e → (used' : ℕ) (was last bs' : List ℕ) → used' ≡ used + entry_size w e → was ≡ bs → length last ≡ length was → bs' ≡ last → last ≡ take used was ++ laid_before e (drop (entry_size w e) (drop used was)) →
      Good v n (k + 1) used' bs' × (held_at w v n (k + 1) bs' ≡ appended (held_at w v n k bs) e.container e.stored)
  pushed sound used' was last bs' uu ww ll bb is =
      let s = at.same in
      let z : entry_size w e ≡ entry_size v e = omega arith in
      let is' : bs' ≡ take used bs ++ laid_before e (drop (entry_size v e) (drop used bs)) = bb ∙ is ∙ (λ i. take used (ww i) ++ laid_before e (drop (z i) (drop used (ww i)))) in
      let made = good_more v n k used bs g e at.inside one_v all_v (sound_v sound) (k + 1) used' bs' refl (uu ∙ ap (λ x. used + x) z) (ap length bb ∙ ll ∙ ap length ww) is' in
      (made.0, held_same w v n (k + 1) bs' s ∙ made.1 ∙ ap (λ x. appended x e.container e.stored) (sym (held_same w v n k bs s)))

-- a container less, as the kind sees it
pub swept : (w v n k used c k' used' : ℕ) (bs was last bs' : List ℕ) → ∥ Good v n k used bs ∥₁ → was ≡ bs → length last ≡ length was → bs' ≡ last → Left v c k' used' last (log_of v k was) →
    Good v n k' used' bs' × (held_at w v n k' bs' ≡ erased (held_at w v n k bs) c)
swept w v n k used c k' used' bs was last bs' good ww ll bb left =
    let l : Left v c k' used' bs' (log_of v k bs) = subst (λ x. x) (λ i. Left v c k' used' (sym bb i) (log_of v k (ww i))) left in
    let made = good_without v n k used c k' used' bs bs' (good_from v n k used bs good) l.entries l.size (ap length bb ∙ ll ∙ ap length ww) l.after in
    (made.0, go (v == w) made.1) where
      go : (b : Bool) → gathered n (log_of v k' bs') ≡ erased (gathered n (log_of v k bs)) c → cond b (gathered n (log_of v k' bs')) [] ≡ erased (cond b (gathered n (log_of v k bs)) []) c
      go true p = p
      go false p = refl
