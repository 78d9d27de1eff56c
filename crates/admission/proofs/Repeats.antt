-- How often a fingerprint stands where no record repeats an earlier one: once at most.
use Rattle.std.proofs.Common.{◌≡◌, ℕ, suc, ◌+◌, ◌<◌, ◌≤◌, true, false, cond, eqb, ltb, List, [], ◌∷◌, Some, None, count_by, Option, sym, refl, ap, ◌∙◌, ⊎_elim, arith}
use Rattle.std.proofs.lemmas.List.Sums.{sum_by-cons, sum_by-append}
use Rattle.std.proofs.lemmas.Bool.{cases_Bool, and_parts, and_from, or_cases, or_left, or_right, eqb-true, eq-eqb, ltb-true, lt-ltb}
use Rattle.std.specs.Bool.{then_some}
use Rattle.keys.specs.Octets.{same_bytes}
use Rattle.keys.specs.Little.{same_equal}
use Rattle.records.specs.Records.{Rec, Contents, place_among, place_from, first_place}
use Rattle.records.specs.declared.refusal.Cause.TheVariants.{RepeatedFingerprint}
use Rattle.records.specs.declared.refusal.Place.{Place}
use Rattle.trees.specs.Holding.{if_some, all, first, standing, Single}
use Rattle.trees.proofs.Places.{place_tells}
use Rattle.admission.specs.Causes.{earlier, is_earlier, repeat_of}
use Rattle.admission.specs.Admission.{refused_at, refused_among, refused_from}
use Rattle.admission.proofs.Searching.{placed, none_both, none_told}

-- how many records have a fingerprint
abbrev count : List ℕ → List Rec → ℕ
count f rs = count_by (λ r. same_bytes r.fingerprint f) rs

count_yes : (f : List ℕ) (r : Rec) (rs : List Rec) → same_bytes r.fingerprint f ≡ true → count f (r ∷ rs) ≡ 1 + count f rs
count_yes f r rs e = let v : cond {A = ℕ} (same_bytes r.fingerprint f) 1 0 ≡ 1 = ap (λ b. cond b 1 0) e in omega (arith, sum_by-cons (λ z. cond (same_bytes z.fingerprint f) 1 0) r rs)

count_no : (f : List ℕ) (r : Rec) (rs : List Rec) → same_bytes r.fingerprint f ≡ false → count f (r ∷ rs) ≡ count f rs
count_no f r rs e = let v : cond {A = ℕ} (same_bytes r.fingerprint f) 1 0 ≡ 0 = ap (λ b. cond b 1 0) e in omega (arith, sum_by-cons (λ z. cond (same_bytes z.fingerprint f) 1 0) r rs)

count_both : (f : List ℕ) (rs : List Rec) (cs : Contents) → count f (all (rs ∷ cs)) ≡ count f rs + count f (all cs)
count_both f rs cs = sum_by-append (λ z. cond (same_bytes z.fingerprint f) 1 0) rs (all cs)

count_none : (f : List ℕ) (rs : List Rec) → first f rs ≡ None → count f rs ≡ 0
count_none f [] e = refl
count_none f (r ∷ rs) e =
    elim (same_bytes r.fingerprint f) as (λ b. same_bytes r.fingerprint f ≡ b → cond b (Some r) (first f rs) ≡ None → count f (r ∷ rs) ≡ 0) [
      | true ↦ λ v u. absurd (let z : ◌≡◌ {A = ℕ} 0 1 = cc in omega arith)
      | false ↦ λ v u. count_no f r rs v ∙ count_none f rs u
    ] refl e

-- a place in an earlier container, or at an earlier index of the same
before_container : (q : Place) (c i : ℕ) → q.container < c → earlier q (placed c i) ≡ true
before_container q c i h = or_left (ltb q.container c) _ (lt-ltb q.container c h)

before_index : (q : Place) (c i : ℕ) → q.container ≡ c → q.index < i → earlier q (placed c i) ≡ true
before_index q c i e h = or_right (ltb q.container c) _ (and_from _ _ (eq-eqb q.container c e) (lt-ltb q.index i h))

before_more : (q : Place) (c i : ℕ) → earlier q (placed c i) ≡ true → earlier q (placed c (suc i)) ≡ true
before_more q c i e =
    ⊎_elim
    (λ t. or_left (ltb q.container c) _ t)
    (λ t. let s = and_parts (eqb q.container c) _ t in before_index q c (suc i) (eqb-true q.container c s.0) (let l = ltb-true q.index i s.1 in omega arith))
    (or_cases (ltb q.container c) _ e)

-- behind the first place of a fingerprint no record has it, if none repeats an earlier one
module _ (full : Contents) (f : List ℕ) (q : Place) (at : first_place full f ≡ Some q) where
  none_later : (c i : ℕ) (rs : List Rec) → earlier q (placed c i) ≡ true → refused_among (repeat_of full) c i rs ≡ None → count f rs ≡ 0
  none_later c i [] b e = refl
  none_later c i (r ∷ rs) b e =
      let p = placed c i in
      let s = none_both _ _ e in
      ⊎_elim
      (λ yes.
      let j : repeat_of full p r ≡ Some RepeatedFingerprint = ap (λ o. then_some (is_earlier o p) RepeatedFingerprint) (ap (first_place full) (same_equal _ _ yes) ∙ at) ∙ ap (λ t. then_some t RepeatedFingerprint) b in
      let n : repeat_of full p r ≡ None = none_told p _ s.0 in
      absurd (let z : ◌≡◌ {A = ℕ} 0 1 = cc in omega arith))
      (λ no. count_no f r rs no ∙ none_later c (suc i) rs (before_more q c i b) s.1)
      (cases_Bool (same_bytes r.fingerprint f))

  none_from : (c : ℕ) (cs : Contents) → q.container < c → refused_from (repeat_of full) c cs ≡ None → count f (all cs) ≡ 0
  none_from c [] h e = refl
  none_from c (rs ∷ cs) h e =
      let s = none_both _ _ e in
      let a = none_later c 0 rs (before_container q c 0 h) s.0 in
      let b = none_from (suc c) cs (omega arith) s.1 in
      omega (arith, count_both f rs cs)

  -- up to there at most one has it; `rest` more have it in the containers behind
  one_among : (c i : ℕ) (rs : List Rec) (rest : ℕ) (later : Option Place) → place_among f c i rs later ≡ Some q → refused_among (repeat_of full) c i rs ≡ None → (later ≡ Some q → rest ≤ 1) → (q.container ≡ c → rest ≡ 0) → count f rs + rest ≤ 1
  one_among c i [] rest later e n behind alone = let h = behind e in omega arith
  one_among c i (r ∷ rs) rest later e n behind alone =
      let p = placed c i in
      let s = none_both (refused_at p (repeat_of full p r)) (refused_among (repeat_of full) c (suc i) rs) n in
      elim (same_bytes r.fingerprint f) as (λ b. same_bytes r.fingerprint f ≡ b → cond b (Some (placed c i)) (place_among f c (suc i) rs later) ≡ Some q → count f (r ∷ rs) + rest ≤ 1) [
        | true ↦ λ v u.
            let here : placed c i ≡ q = cc in
            let k : q.container ≡ c = sym (ap (λ x. x.container) here) in
            let j : q.index ≡ i = sym (ap (λ x. x.index) here) in
            let a = none_later c (suc i) rs (before_index q c (suc i) k (omega arith)) s.1 in
            let b = alone k in
            omega (arith, count_yes f r rs v)
        | false ↦ λ v u. let a = one_among c (suc i) rs rest later u s.1 behind alone in omega (arith, count_no f r rs v)
      ] refl e

  one_from : (c : ℕ) (cs : Contents) → place_from f c cs ≡ Some q → refused_from (repeat_of full) c cs ≡ None → count f (all cs) ≤ 1
  one_from c [] e n = omega arith
  one_from c (rs ∷ cs) e n =
      let s = none_both _ _ n in
      let a = one_among c 0 rs (count f (all cs)) (place_from f (suc c) cs) e s.0 (λ t. one_from (suc c) cs t s.1) (λ t. none_from (suc c) cs (omega arith) s.1) in
      omega (arith, count_both f rs cs)

-- where no record repeats an earlier one, no two have equal fingerprints
pub single_from : (cs : Contents) → refused_from (repeat_of cs) 0 cs ≡ None → Single cs
single_from cs n f =
    elim (first_place cs f) as (λ o. first_place cs f ≡ o → count f (all cs) ≤ 1) [
      | None ↦ λ e. let z = count_none f (all cs) (sym (place_tells f cs) ∙ ap (if_some None (standing cs)) e) in omega arith
      | Some q ↦ λ e. one_from cs f q e 0 cs e n
    ] refl
