-- In a whole tree of shaped records the cursor's places are those of the text's strips.
use Rattle.std.proofs.Common.{◌≡◌, ℕ, ◌≤◌, true, cond, leb, List, Some, None, Option, sym, refl, ap, ◌∙◌, arith}
use Rattle.std.specs.List.{slice_get}
use Rattle.std.proofs.lemmas.Bool.{le-leb}
use Rattle.records.specs.Records.{Contents, first_place}
use Rattle.records.specs.Shapes.{Shape}
use Rattle.records.specs.Shapes.Shape.{strip, node}
use Rattle.records.specs.declared.refusal.Place.{Place}
use Rattle.trees.specs.Holding.{if_some, all, standing}
use Rattle.trees.specs.Reading.{height, strip_at, next_at, rank_at}
use Rattle.trees.specs.Trees.{Whole, Shaped, level_of, payload_of, text}
use Rattle.trees.proofs.Cursors.{cursor_reads}
use Rattle.trees.proofs.Finding.{first_in}
use Rattle.walks.specs.Descents.{strip_place, position_after}
use Rattle.walks.proofs.Down.{record_there}

shape_low : (w level bytes : ℕ) → Shape w level bytes → level ≤ 6
shape_low w level bytes (strip lo hi) = omega arith
shape_low w level bytes (node lo hi k some few e) = hi

module _ (w : ℕ) (cs : Contents) (root : List ℕ) (some : 1 ≤ w) (shape : Shaped w cs) (whole : Whole w cs root) where
  low : leb (height w cs root) 6 ≡ true
  low =
      let t = whole.top in
      le-leb (height w cs root) 6 (let l : height w cs root ≡ t.0.level = ap level_of t.1 in omega (arith, shape_low w t.0.level _ (shape t.0 (first_in root t.0 (all cs) t.1).0)))

  pub after_is : (at : ℕ) → position_after w cs root at ≡ next_at w cs root at
  after_is at = ap (λ b. cond b (next_at w cs root at) 0) low

  pub place_is : (at : ℕ) → strip_place w cs root at ≡ if_some None (first_place cs) (strip_at w cs root at)
  place_is at = ap (λ b. cond b (if_some None (first_place cs) (strip_at w cs root at)) None) low

  -- the record at a strip's place has the payload that the text has at the position's rank
  pub strip_reads : (at : ℕ) (x : Place) → strip_place w cs root at ≡ Some x → slice_get (text w cs root) (rank_at w cs root at) ≡ Some (payload_of (standing cs x))
  strip_reads at x e = go (strip_at w cs root at) refl (sym (place_is at) ∙ e)
    where
      go : (o : Option (List ℕ)) → strip_at w cs root at ≡ o → if_some None (first_place cs) o ≡ Some x → slice_get (text w cs root) (rank_at w cs root at) ≡ Some (payload_of (standing cs x))
      go None s h = absurd (let z : ◌≡◌ {A = ℕ} 0 1 = cc in omega arith)
      go (Some p) s h = (cursor_reads w cs root some shape whole).gives at p s ∙ ap (λ o. Some (payload_of o)) (sym (record_there cs p (Some x) (sym h)))
