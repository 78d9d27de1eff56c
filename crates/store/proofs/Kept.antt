-- What a call that keeps a sheet knows once its tests are passed.
use Rattle.std.proofs.Common.{◌≡◌, ℕ, ◌*◌, ◌≤◌, not, ltb, List, length, Ok, refl, inl, inr}
use Rattle.std.proofs.lemmas.Bool.{ltb-false, not-false}
use Rattle.records.specs.Records.{Contents}
use Rattle.records.specs.Refusals.{untold}
use Rattle.records.specs.declared.refusal.Cause.TheVariants.{TooShort, BrokenTree}
use Rattle.trees.specs.Trees.{Whole, is_whole}
use Rattle.trees.proofs.Wholeness.{whole_computed}
use Rattle.store.specs.States.{State}
use Rattle.store.specs.Keeping.{whole_tests, entry_tests, entry_answer, tree_answer}
use Rattle.store.proofs.Testing.{passed_in}

module _ (w : ℕ) (s : State) (name root : List ℕ) (slots : ℕ) where
  -- a new sheet that gets an entry has a table that is long enough
  pub entered_space : (y : ℕ × List ℕ) → Ok y ≡ entry_answer w s name root slots → 63 * length s.contents ≤ slots
  entered_space y h = ltb-false slots (63 * length s.contents) (passed_in untold (entry_tests w s name root slots) _ y h (ltb slots (63 * length s.contents), TooShort) (inr (inr (inr (inr (inr (inl refl)))))))

-- a tree that passes its tests is whole
pub kept_whole : (w : ℕ) (cs : Contents) (root : List ℕ) → Ok tt ≡ tree_answer w cs root → Whole w cs root
kept_whole w cs root t = (whole_computed w cs root).0 (not-false (is_whole w cs root) (passed_in untold (whole_tests w cs root) tt tt t (not (is_whole w cs root), BrokenTree) (inr (inl refl))))
