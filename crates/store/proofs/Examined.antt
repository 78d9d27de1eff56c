-- What an examination tells by the tests of a tree.
use Rattle.std.proofs.Common.{◌≡◌, ℕ, ◌*◌, ◌≤◌, Bool, true, cond, not, eqb, List, [], ◌∷◌, length, IsErrAnd, Ok, Err, Result, sym, refl, ap, ◌∙◌, ⊎_elim, arith, length-append}
use Rattle.std.specs.List.{AllByRecursion}
use Rattle.std.proofs.lemmas.Bool.{cases_Bool, ne_eqb, eq-eqb}
use Rattle.records.specs.Limits.{Fits}
use Rattle.records.specs.Records.{Contents}
use Rattle.records.specs.Refusals.{untold}
use Rattle.records.specs.declared.refusal.Cause.TheVariants.{NoRoot, BrokenTree}
use Rattle.records.specs.declared.refusal.Place.{Place}
use Rattle.records.specs.declared.refusal.Refusal.{Refusal}
use Rattle.trees.specs.Holding.{all, record_of}
use Rattle.trees.specs.Trees.{StoredNode, Whole, level_of, is_whole}
use Rattle.trees.proofs.Wholeness.{whole_computed}
use Rattle.walks.specs.Findings.{Faulty, Flawed, refusal_of}
use Rattle.walks.specs.declared.flaw.Flaw.{Flaw}
use Rattle.walks.specs.declared.flaw.Flaw.TheVariants.{Broken, TableFull, NoRoot as FlawNoRoot}
use Rattle.walks.proofs.Visiting.{node_stored}
use Rattle.store.specs.Keeping.{tree_answer}
use Rattle.store.proofs.Testing.{handed_on}

-- a device has at most 63 records for each container
pub few_all : (cs : Contents) → AllByRecursion Fits cs → length (all cs) ≤ 63 * length cs
few_all [] h = omega arith
few_all (b ∷ cs) h = omega (arith, length-append b (all cs), few_all cs h.1, h.0.count)

module _ (w : ℕ) (cs : Contents) (root : List ℕ) where
  -- the two tests of a tree
  two : Bool → Bool → Result (Unit {0}) Refusal
  two a b = cond a (Err (untold NoRoot)) (cond (not b) (Err (untold BrokenTree)) (Ok tt))

  node_level : StoredNode cs root → level_of (record_of cs root) ≡ 0 → ⊥
  node_level h e = omega (arith, ap level_of h.1, h.2)

  pub found_whole : Whole w cs root → Ok tt ≡ tree_answer w cs root
  unfolding two
  found_whole h = λ i. two (sym (ne_eqb _ 0 (node_level h.top)) i) (sym ((whole_computed w cs root).1 h) i)

  pub found_no_root : (StoredNode cs root → ⊥) → Err (untold NoRoot) ≡ tree_answer w cs root
  unfolding two
  found_no_root h =
      ⊎_elim
      (λ e. λ i. two (sym e i) (is_whole w cs root))
      (λ e. absurd (h (let n = node_stored cs root _ refl (λ z. let t : eqb (level_of (record_of cs root)) 0 ≡ true = eq-eqb _ 0 z in cc) in (n.0, n.1, n.2))))
      (cases_Bool (eqb (level_of (record_of cs root)) 0))

  pub found_broken : (x : Place) → (level_of (record_of cs root) ≡ 0 → ⊥) → Faulty w cs root x → Err (untold BrokenTree) ≡ tree_answer w cs root
  unfolding two
  found_broken x there h =
      ⊎_elim
      (λ e. absurd (h.missing (((whole_computed w cs root).0 e).below h.node h.child h.parent h.reached h.is h.above h.lists)))
      (λ e. λ i. two (sym (ne_eqb _ 0 there) i) (sym e i))
      (cases_Bool (is_whole w cs root))

  -- the refusal of what is found wrong, with a slot for each record
  pub found_wrong : (r : Result (Unit {0}) Refusal) (slots : ℕ) (e : Flaw) → IsErrAnd r (λ y. y ≡ refusal_of e) → Flawed w cs root slots e → ((StoredNode cs root → ⊥) → ◌≡◌ {A = Result (Unit {0}) Flaw} (Err e) (Err FlawNoRoot)) → length (all cs) ≤ slots → r ≡ tree_answer w cs root
  found_wrong r slots e h t absent l = handed_on r (refusal_of e) h ∙ go e t absent
    where
      go : (e : Flaw) → Flawed w cs root slots e → ((StoredNode cs root → ⊥) → ◌≡◌ {A = Result (Unit {0}) Flaw} (Err e) (Err FlawNoRoot)) → Err (refusal_of e) ≡ tree_answer w cs root
      go FlawNoRoot t absent = found_no_root t
      go (Broken x) t absent = found_broken x (λ z. let h = absent (λ n. node_level n z) in cc) t
      go TableFull t absent = absurd (omega (arith, t.1))
