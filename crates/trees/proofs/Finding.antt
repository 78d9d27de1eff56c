-- The first record of a fingerprint, and in which container a record stands.
use Rattle.std.proofs.Common.{◌≡◌, ℕ, zero, suc, ◌≤◌, Bool, true, false, cond, ◌⊎◌, List, [], ◌∷◌, ◌++◌, get_or, Some, count_by, sym, refl, ap, ◌∙◌, inl, inr, ⊎_elim, arith}
use Rattle.std.proofs.lemmas.List.Sums.{sum_by-cons}
use Rattle.keys.specs.Octets.{same_bytes}
use Rattle.keys.specs.Little.{same_self}
use Rattle.records.specs.Records.{Rec, Contents}
use Rattle.trees.specs.Holding.{In, all, first, record_of, Single}
use Rattle.trees.specs.Trees.{Reaches, Whole}
use Rattle.trees.specs.Trees.Reaches.{itself, onward}

pub in_left : {X : Type 0} (x : X) (xs ys : List X) → In x xs → In x (xs ++ ys)
in_left x [] ys h = elim h [ ]
in_left x (y ∷ xs) ys h = ⊎_elim (λ e. inl e) (λ i. inr (in_left x xs ys i)) h

pub in_right : {X : Type 0} (x : X) (xs ys : List X) → In x ys → In x (xs ++ ys)
in_right x [] ys h = h
in_right x (y ∷ xs) ys h = inr (in_right x xs ys h)

pub in_either : {X : Type 0} (x : X) (xs ys : List X) → In x (xs ++ ys) → In x xs ⊎ In x ys
in_either x [] ys h = inr h
in_either x (y ∷ xs) ys h = ⊎_elim (λ e. inl (inl e)) (λ i. ⊎_elim (λ a. inl (inr a)) (λ b. inr b) (in_either x xs ys i)) h

pub in_all : (r : Rec) (cs : Contents) (e : ℕ) → In r (get_or cs e []) → In r (all cs)
in_all r [] e h = elim h [ ]
in_all r (b ∷ cs) zero h = in_left r b (all cs) h
in_all r (b ∷ cs) (suc e) h = in_right r b (all cs) (in_all r cs e h)

pub container_of : (r : Rec) (cs : Contents) → In r (all cs) → (e : ℕ) × In r (get_or cs e [])
container_of r [] h = elim h [ ]
container_of r (b ∷ cs) h =
    ⊎_elim (λ i. (zero, i)) (λ i. let c = container_of r cs i in (suc c.0, c.1)) (in_either r b (all cs) h)

pub in_count : {X : Type 0} (test : X → Bool) (x : X) (xs : List X) → In x xs → test x ≡ true → 1 ≤ count_by test xs
in_count test x [] h t = elim h [ ]
in_count test x (y ∷ xs) h t =
    let s = sum_by-cons (λ z. cond (test z) 1 0) y xs in
    ⊎_elim
    (λ e. let u : cond {A = ℕ} (test y) 1 0 ≡ 1 = ap (λ b. cond b 1 0) (ap test (sym e) ∙ t) in omega arith)
    (λ i. omega (arith, in_count test x xs i t)) h

pub first_in : (p : List ℕ) (r : Rec) (rs : List Rec) → first p rs ≡ Some r → In r rs × (same_bytes r.fingerprint p ≡ true)
first_in p r [] e = absurd (let z : ◌≡◌ {A = ℕ} 0 1 = cc in omega arith)
first_in p r (x ∷ rs) e =
    elim (same_bytes x.fingerprint p) as (λ b. same_bytes x.fingerprint p ≡ b → cond b (Some x) (first p rs) ≡ Some r → In r (x ∷ rs) × (same_bytes r.fingerprint p ≡ true)) [
      | true ↦ λ v u. let s : r ≡ x = cc in (inl s, ap (λ y. same_bytes y.fingerprint p) s ∙ v)
      | false ↦ λ v u. let i = first_in p r rs u in (inr i.0, i.1)
    ] refl e

pub in_first : (p : List ℕ) (r : Rec) (rs : List Rec) → In r rs → same_bytes r.fingerprint p ≡ true → count_by (λ x. same_bytes x.fingerprint p) rs ≤ 1 → first p rs ≡ Some r
in_first p r [] h t c = elim h [ ]
in_first p r (x ∷ rs) h t c =
    let s = sum_by-cons (λ z. cond (same_bytes z.fingerprint p) 1 0) x rs in
    elim (same_bytes x.fingerprint p) as (λ b. same_bytes x.fingerprint p ≡ b → cond b (Some x) (first p rs) ≡ Some r) [
      | true ↦ λ v. ⊎_elim (λ e. ap Some (sym e)) (λ i.
          let u : cond {A = ℕ} (same_bytes x.fingerprint p) 1 0 ≡ 1 = ap (λ b. cond b 1 0) v in
          absurd (omega (arith, in_count (λ y. same_bytes y.fingerprint p) r rs i t))) h
      | false ↦ λ v. ⊎_elim
          (λ e. absurd (let f : same_bytes r.fingerprint p ≡ false = ap (λ y. same_bytes y.fingerprint p) e ∙ v in let z : ◌≡◌ {A = ℕ} 0 1 = cc in omega arith))
          (λ i. in_first p r rs i t (omega arith)) h
    ] refl

-- where fingerprints are single, a record that stands is the record of its fingerprint
pub record_of_in : (cs : Contents) → Single cs → (r : Rec) → In r (all cs) → record_of cs r.fingerprint ≡ Some r
record_of_in cs single r h = in_first r.fingerprint r (all cs) h (same_self r.fingerprint) (single r.fingerprint)

-- each reached fingerprint is stored
pub reached_stored : (w : ℕ) (cs : Contents) (root : List ℕ) → Whole w cs root → (p : List ℕ) → Reaches w cs root p → (r : Rec) × (record_of cs p ≡ Some r)
reached_stored w cs root whole _ itself = (whole.top.0, whole.top.1)
reached_stored w cs root whole q (onward {p} h r e l i) = let c = whole.below p q r h e l i in (c.0, c.1)
