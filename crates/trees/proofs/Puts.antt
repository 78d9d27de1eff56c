-- A record with a new fingerprint, put into any container: it is stored, and all else stays as it was.
use Rattle.std.proofs.Common.{◌≡◌, ℕ, suc, ◌<◌, ◌≤◌, true, false, cond, List, [], ◌∷◌, length, Some, None, count_by, sym, refl, ap, ◌∙◌, subst, arith}
use Rattle.std.proofs.lemmas.List.Sums.{sum_by-cons}
use Rattle.keys.specs.Octets.{same_bytes}
use Rattle.keys.specs.Little.{same_self, same_equal}
use Rattle.devices.specs.Changes.{appended}
use Rattle.records.specs.Records.{Rec, Contents}
use Rattle.trees.specs.Holding.{all, first, record_of, Single}
use Rattle.trees.specs.Trees.{Whole, text}
use Rattle.trees.specs.Clearing.{Placed}
use Rattle.trees.proofs.Finding.{in_all, container_of, first_in, in_first, reached_stored}
use Rattle.trees.proofs.Survive.{text_survives}
use Rattle.trees.proofs.Clears.{placed_weighs, placed_keeps, placed_arrives}

none_count : (p : List ℕ) (rs : List Rec) → first p rs ≡ None → count_by (λ x. same_bytes x.fingerprint p) rs ≡ 0
none_count p [] e = refl
none_count p (x ∷ rs) e =
    let s = sum_by-cons (λ z. cond (same_bytes z.fingerprint p) 1 0) x rs in
    elim (same_bytes x.fingerprint p) as (λ b. same_bytes x.fingerprint p ≡ b → cond b (Some x) (first p rs) ≡ None → count_by (λ z. same_bytes z.fingerprint p) (x ∷ rs) ≡ 0) [
      | true ↦ λ v u. absurd (let z : ◌≡◌ {A = ℕ} 0 1 = cc in omega arith)
      | false ↦ λ v u. let c : cond {A = ℕ} (same_bytes x.fingerprint p) 1 0 ≡ 0 = ap (λ b. cond b 1 0) v in omega (arith, none_count p rs u)
    ] refl e

module _ (cs : Contents) (d : ℕ) (r : Rec) (space : d < length cs) (single : Single cs) (new : record_of cs r.fingerprint ≡ None) where
  placed : Placed (suc d) cs r (appended cs d r)
  placed = (d, space, (λ e. omega arith), refl)

  pub put_single : Single (appended cs d r)
  put_single p =
      let s = placed_weighs (suc d) (λ x. cond (same_bytes x.fingerprint p) 1 0) cs r (appended cs d r) placed in
      elim (same_bytes r.fingerprint p) as (λ b. same_bytes r.fingerprint p ≡ b → count_by (λ x. same_bytes x.fingerprint p) (all (appended cs d r)) ≤ 1) [
        | true ↦ λ v.
            let c : cond {A = ℕ} (same_bytes r.fingerprint p) 1 0 ≡ 1 = ap (λ b. cond b 1 0) v in
            omega (arith, none_count p (all cs) (subst (λ (q : List ℕ). record_of cs q ≡ None) (same_equal r.fingerprint p v) new))
        | false ↦ λ v.
            let c : cond {A = ℕ} (same_bytes r.fingerprint p) 1 0 ≡ 0 = ap (λ b. cond b 1 0) v in
            omega (arith, single p)
      ] refl

  pub put_keeps : (p : List ℕ) (x : Rec) → record_of cs p ≡ Some x → record_of (appended cs d r) p ≡ Some x
  put_keeps p x e =
      let f = first_in p x (all cs) e in
      let b = container_of x cs f.0 in
      in_first p x (all (appended cs d r)) (in_all x (appended cs d r) b.0 (placed_keeps (suc d) cs r (appended cs d r) placed x b.0 b.1)) f.1 (put_single p)

  pub put_stores : record_of (appended cs d r) r.fingerprint ≡ Some r
  put_stores =
      let a = placed_arrives (suc d) cs r (appended cs d r) placed in
      in_first r.fingerprint r (all (appended cs d r)) (in_all r (appended cs d r) a.0 a.2) (same_self r.fingerprint) (put_single r.fingerprint)

  pub put-text : (w : ℕ) (root : List ℕ) → Whole w cs root → Whole w (appended cs d r) root × (text w (appended cs d r) root ≡ text w cs root)
  put-text w root whole =
      text_survives w cs (appended cs d r) root (λ p g. let s = reached_stored w cs root whole p g in put_keeps p s.0 s.1 ∙ sym s.1) whole
