-- The records that a clear loses.
use Rattle.std.proofs.Common.{◌≡◌, ℕ, ◌+◌, ◌≤◌, Bool, true, false, cond, ◌&&◌, eqb, ◌↔◌, List, [], ◌∷◌, get_or, count_by, sym, refl, ap, ◌∙◌, subst, inl, inr, arith}
use Rattle.std.proofs.lemmas.List.Sums.{sum_by-cons}
use Rattle.std.proofs.lemmas.Bool.{and_parts, and_from, eqb-true, eq-eqb}
use Rattle.keys.specs.Octets.{same_bytes}
use Rattle.keys.specs.Little.{same_self, same_equal}
use Rattle.records.specs.Records.{Rec, Contents}
use Rattle.trees.specs.Holding.{In, all, Single, same_rec, Lost}
use Rattle.trees.specs.Clearing.{doomed, Cleared}
use Rattle.trees.proofs.Finding.{in_count}
use Rattle.trees.proofs.Clears.{cleared_weighs}

count_in : {X : Type 0} (test : X → Bool) (xs : List X) → 1 ≤ count_by test xs → (x : X) × In x xs × (test x ≡ true)
count_in test [] h = absurd (omega arith)
count_in {X} test (x ∷ xs) h =
    let s = sum_by-cons (λ z. cond (test z) 1 0) x xs in
    elim (test x) as (λ b. test x ≡ b → (z : X) × In z (x ∷ xs) × (test z ≡ true)) [
      | true ↦ λ e. (x, inl refl, e)
      | false ↦ λ e.
          let u : cond {A = ℕ} (test x) 1 0 ≡ 0 = ap (λ b. cond b 1 0) e in
          let i = count_in test xs (omega arith) in
          (i.0, inr i.1, i.2)
    ] refl

count_weaker : {X : Type 0} (t u : X → Bool) → ((x : X) → t x ≡ true → u x ≡ true) → (xs : List X) → count_by t xs ≤ count_by u xs
count_weaker t u h [] = omega arith
count_weaker t u h (x ∷ xs) =
    omega (arith, sum_by-cons (λ z. cond (t z) 1 0) x xs, sum_by-cons (λ z. cond (u z) 1 0) x xs, count_weaker t u h xs, one (t x) (u x) (h x))
  where
    one : (a b : Bool) → (a ≡ true → b ≡ true) → cond {A = ℕ} a 1 0 ≤ cond {A = ℕ} b 1 0
    one true b f = let e : cond {A = ℕ} b 1 0 ≡ 1 = ap (λ z. cond z 1 0) (f refl) in omega arith
    one false true f = omega arith
    one false false f = omega arith

same_rec_lem : (x y : Rec) → same_rec x y ≡ true → x ≡ y
same_rec_lem x y e =
    let a = and_parts (eqb x.level y.level) (same_bytes x.fingerprint y.fingerprint && same_bytes x.payload y.payload) e in
    let b = and_parts (same_bytes x.fingerprint y.fingerprint) (same_bytes x.payload y.payload) a.1 in
    let l = eqb-true x.level y.level a.0 in
    let p = same_equal x.fingerprint y.fingerprint b.0 in
    let q = same_equal x.payload y.payload b.1 in
    λ i. record { level = l i; fingerprint = p i; payload = q i }

rec_same : (x : Rec) → same_rec x x ≡ true
rec_same x = and_from (eqb x.level x.level) _ (eq-eqb x.level x.level refl) (and_from (same_bytes x.fingerprint x.fingerprint) _ (same_self x.fingerprint) (same_self x.payload))

-- the lost records are those with verdict no
pub lost_doomed : (cs cs' : Contents) (c : ℕ) (vs : List Bool) → Single cs → Cleared cs c vs cs' → (r : Rec) → Lost r cs cs' ↔ In r (doomed vs (get_or cs c []))
lost_doomed cs cs' c vs single h r =
    let ds = doomed vs (get_or cs c []) in
    let all_told : count_by (same_rec r) (all cs) ≡ count_by (same_rec r) (all cs') + count_by (same_rec r) ds = cleared_weighs c cs vs cs' h (λ x. cond (same_rec r x) 1 0) in
    let few : count_by (same_rec r) (all cs) ≤ count_by (λ x. same_bytes x.fingerprint r.fingerprint) (all cs) =
    count_weaker (same_rec r) (λ x. same_bytes x.fingerprint r.fingerprint) (λ x e. ap (λ z. same_bytes z.fingerprint r.fingerprint) (sym (same_rec_lem r x e)) ∙ same_self r.fingerprint) (all cs) in (
      λ l. let i = count_in (same_rec r) ds (omega arith) in subst (λ (x : Rec). In x ds) (sym (same_rec_lem r i.0 i.2)) i.1,
      λ i. let one = in_count (same_rec r) r ds i (rec_same r) in omega (arith, single r.fingerprint),
    )
