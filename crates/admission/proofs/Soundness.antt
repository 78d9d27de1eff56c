-- What holds of a device that is not refused.
use Rattle.std.proofs.Common.{◌≡◌, ℕ, zero, suc, ◌<◌, ◌≤◌, Bool, true, false, cond, leb, List, [], ◌∷◌, length, Some, None, Ok, Option, refl, ⊎_elim, arith}
use Rattle.std.proofs.lemmas.Bool.{and_parts, or_cases, leb-true, eqb-true}
use Rattle.std.proofs.lemmas.List.{nil_from_length}
use Rattle.std.specs.List.{AllByRecursion}
use Rattle.keys.specs.Little.{same_equal}
use Rattle.records.specs.Records.{Rec, Contents}
use Rattle.records.specs.Shapes.{Shape}
use Rattle.records.specs.declared.refusal.Cause.{Cause}
use Rattle.records.specs.declared.refusal.Place.{Place}
use Rattle.records.proofs.Shaping.{shape_from}
use Rattle.devices.specs.Questions.{records_of, unused}
use Rattle.admission.specs.Causes.{fault_of}
use Rattle.admission.specs.Admission.{refused_among, refused_from, some_free, wrong_size, first_fault, first_repeat, admission_answer, Admitted}
use Rattle.admission.proofs.Searching.{none_refused, none_both, none_told}
use Rattle.admission.proofs.Repeats.{single_from}

none_when : {X : Type 0} (b : Bool) (x : X) → cond b None (Some x) ≡ None → b ≡ true
none_when true x e = refl
none_when false x e = absurd (let z : ◌≡◌ {A = ℕ} 0 1 = cc in omega arith)

neither_when : {X : Type 0} (a b : Bool) (x y : X) → cond a (cond b None (Some x)) (Some y) ≡ None → (a ≡ true) × (b ≡ true)
neither_when true b x y e = (refl, none_when b x e)
neither_when false b x y e = absurd (let z : ◌≡◌ {A = ℕ} 0 1 = cc in omega arith)

-- where a judge refuses nothing, what it sees to holds of every record
module _ (judge : Place → Rec → Option Cause) (P : Rec → Type 0) (sees : (p : Place) (r : Rec) → judge p r ≡ None → P r) where
  all_among : (c i : ℕ) (rs : List Rec) → refused_among judge c i rs ≡ None → AllByRecursion P rs
  all_among c i [] e = tt
  all_among c i (r ∷ rs) e = let s = none_both _ _ e in (sees _ r (none_told _ _ s.0), all_among c (suc i) rs s.1)

  all_from : (c : ℕ) (cs : Contents) → refused_from judge c cs ≡ None → AllByRecursion (AllByRecursion P) cs
  all_from c [] e = tt
  all_from c (rs ∷ cs) e = let s = none_both _ _ e in (all_among c 0 rs s.0, all_from (suc c) cs s.1)

free_from : (cs : Contents) → some_free cs ≡ true → (c : ℕ) × (c < length cs) × (records_of cs c ≡ [])
free_from [] e = absurd (let z : ◌≡◌ {A = ℕ} 0 1 = cc in omega arith)
free_from (rs ∷ cs) e =
    ⊎_elim
    (λ t. (zero, omega arith, nil_from_length rs (eqb-true (length rs) 0 t)))
    (λ t. let k = free_from cs t in (suc k.0, (let l = k.1 in omega arith), k.2))
    (or_cases (unused rs) _ e)

-- a device that is not refused is as an admitted one has to be
pub admitted : (w : ℕ) (name : ℕ → List ℕ → List ℕ) (cs : Contents) → 1 ≤ w → Ok tt ≡ admission_answer w name cs → Admitted w name cs
admitted w name cs h e =
    let s = none_both (wrong_size cs) _ (none_refused _ e) in
    let t = none_both (first_fault w name cs) _ s.1 in
    let u = none_both (first_repeat cs) _ t.1 in
    let size = and_parts (leb 2 (length cs)) _ (none_when _ _ s.0) in
    record {
      some = leb-true 2 (length cs) size.0;
      few = leb-true (length cs) 32 size.1;
      shaped = all_from (λ p r. fault_of w name r) (λ r. Shape w r.level (length r.payload)) (λ p r n. shape_from w _ _ h (neither_when _ _ _ _ n).0) 0 cs t.0;
      named = all_from (λ p r. fault_of w name r) (λ r. r.fingerprint ≡ name r.level r.payload) (λ p r n. same_equal _ _ (neither_when _ _ _ _ n).1) 0 cs t.0;
      single = single_from cs u.0;
      free = free_from cs (none_when _ _ u.1);
    }
