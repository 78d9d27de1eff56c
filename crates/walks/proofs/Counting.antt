-- Distinct stored fingerprints are no more than the records.
use Rattle.std.proofs.Common.{◌≡◌, ℕ, suc, ◌≤◌, true, false, cond, List, [], ◌∷◌, length, Some, sym, refl, ap, ◌∙◌, subst, inl, inr, arith}
use Rattle.keys.specs.Octets.{same_bytes}
use Rattle.keys.specs.Little.{same_equal}
use Rattle.records.specs.Records.{Rec}
use Rattle.trees.specs.Holding.{In, first}
use Rattle.walks.specs.Sweeps.{Distinct}

-- the records without the first of a fingerprint
abbrev without : List ℕ → List Rec → List Rec
without f [] = []
without f (r ∷ rs) = cond (same_bytes r.fingerprint f) rs (r ∷ without f rs)

one_less : (f : List ℕ) (rs : List Rec) (r : Rec) → first f rs ≡ Some r → length rs ≡ suc (length (without f rs))
one_less f [] r e = absurd (let z : ◌≡◌ {A = ℕ} 0 1 = cc in omega arith)
one_less f (x ∷ rs) r e =
    elim (same_bytes x.fingerprint f) as (λ b. cond b (Some x) (first f rs) ≡ Some r → suc (length rs) ≡ suc (length (cond b rs (x ∷ without f rs)))) [
      | true ↦ λ h. refl
      | false ↦ λ h. ap suc (one_less f rs r h)
    ] e

others_stay : (f g : List ℕ) → (f ≡ g → ⊥) → (rs : List Rec) (r : Rec) → first g rs ≡ Some r → first g (without f rs) ≡ Some r
others_stay f g apart [] r e = absurd (let z : ◌≡◌ {A = ℕ} 0 1 = cc in omega arith)
others_stay f g apart (x ∷ rs) r e =
    elim (same_bytes x.fingerprint f) as (λ b. same_bytes x.fingerprint f ≡ b → first g (cond b rs (x ∷ without f rs)) ≡ Some r) [
      | true ↦ λ is_f.
          elim (same_bytes x.fingerprint g) as (λ b. same_bytes x.fingerprint g ≡ b → cond b (Some x) (first g rs) ≡ Some r → first g rs ≡ Some r) [
            | true ↦ λ is-g h. absurd (apart (sym (same_equal x.fingerprint f is_f) ∙ same_equal x.fingerprint g is-g))
            | false ↦ λ is-g h. h
          ] refl e
      | false ↦ λ is_f.
          elim (same_bytes x.fingerprint g) as (λ b. cond b (Some x) (first g rs) ≡ Some r → cond b (Some x) (first g (without f rs)) ≡ Some r) [
            | true ↦ λ h. h
            | false ↦ λ h. others_stay f g apart rs r h
          ] e
    ] refl

pub distinct_few : (fs : List (List ℕ)) (rs : List Rec) → Distinct fs → ((f : List ℕ) → In f fs → (r : Rec) × (first f rs ≡ Some r)) → length fs ≤ length rs
distinct_few [] rs d stored = omega arith
distinct_few (f ∷ fs) rs d stored =
    let a = stored f (inl refl) in
    let l = one_less f rs a.0 a.1 in
    let few = distinct_few fs (without f rs) d.1 (λ g i.
    let b = stored g (inr i) in
    (b.0, others_stay f g (λ e. d.0 (subst (λ (h : List ℕ). In h fs) (sym e) i)) rs b.0 b.1)) in
    omega arith
