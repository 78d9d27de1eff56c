-- Reading a stored tree by positions: the strip at a position, the next position, and what a reading gives.
use Rattle.std.specs.Prelude.{◌≡◌, ℕ, ◌+◌, ◌↔◌, List, length, Some, None, Option}
use Rattle.std.specs.List.{slice_get}
use Rattle.records.specs.Records.{Contents}
use Rattle.trees.specs.Holding.{record_of}
use Rattle.trees.specs.Trees.{level_of, payload_of, children, text}
use Rattle.trees.specs.Cursor.{span, seek, next, rank, InTree}

module _ (w : ℕ) (cs : Contents) (root : List ℕ) where
  abbrev pub height : ℕ
  height = level_of (record_of cs root)

  -- the fingerprint of the strip at a position, if it is one
  abbrev pub strip_at : ℕ → Option (List ℕ)
  strip_at at = seek (children w cs) height root at

  abbrev pub next_at : ℕ → ℕ
  next_at at = next (children w cs) height root at

  -- how many strips were given when a reading from the start has come to a position
  abbrev pub rank_at : ℕ → ℕ
  rank_at at = rank (children w cs) height root at

  abbrev pub the_end : ℕ
  the_end = span height

  -- a position of the tree, the end included
  abbrev pub Inside : ℕ → Type 0
  Inside at = InTree (children w cs) height root at

  -- the positions from the start to the end run through the strips of the text, each once and in order
  pub record Reads : Type 0 where
    pub start : rank_at 0 ≡ 0
    pub opening : (p : List ℕ) × (strip_at 0 ≡ Some p)
    pub gives : (at : ℕ) (p : List ℕ) → strip_at at ≡ Some p → slice_get (text w cs root) (rank_at at) ≡ Some (payload_of (record_of cs p))
    pub moves : (at : ℕ) (p : List ℕ) → strip_at at ≡ Some p → Inside (next_at at) × (rank_at (next_at at) ≡ rank_at at + 1)
    pub closing : strip_at the_end ≡ None
    pub over : (at : ℕ) → Inside at → (at ≡ the_end) ↔ (rank_at at ≡ length (text w cs root))
