-- A cursor: a position in a tree is one number, six bits for each level, the root's child highest.
-- `kids p` are the children of the node p; strips stand at level 0.
use Rattle.std.specs.Prelude.{◌≡◌, ℕ, zero, suc, ◌+◌, ◌*◌, ◌/◌, ◌%◌, ◌<◌, ◌≤◌, cond, ◌⊎◌, List, [], ◌∷◌, ◌++◌, length, take, drop, Some, None, Option, ◌==◌}
use Rattle.std.specs.List.{slice_get, flat_map}
use Rattle.trees.specs.Holding.{In, if_some}

-- how many positions a tree of level n has space for: 64 to the n. It is also the end
abbrev pub span : ℕ → ℕ
span zero = 1
span (suc n) = 64 * span n

module _ {P : Type 0} (kids : P → List P) where
  -- the strips below p, first to last
  abbrev pub strips : ℕ → P → List P
  strips zero p = p ∷ []
  strips (suc n) p = flat_map (strips n) (kids p)

  -- the strip at a position, if the position is one of the tree
  abbrev pub seek : ℕ → P → ℕ → Option P
  seek zero p at = cond (at == 0) (Some p) None
  seek (suc n) p at = if_some None (λ q. seek n q (at % span n)) (slice_get (kids p) (at / span n))

  -- the next position: behind the last child's last strip it is the end
  abbrev pub next : ℕ → P → ℕ → ℕ
  next zero p at = 1
  next (suc n) p at =
      if_some (span (suc n))
      (λ q. let x : ℕ = (at / span n) * span n + next n q (at % span n) in cond (x == length (kids p) * span n) (span (suc n)) x)
      (slice_get (kids p) (at / span n))

  -- the strips before a position, and those from it on
  abbrev pub before : ℕ → P → ℕ → List P
  before zero p at = cond (at == 0) [] (p ∷ [])
  before (suc n) p at = flat_map (strips n) (take (at / span n) (kids p)) ++ if_some [] (λ q. before n q (at % span n)) (slice_get (kids p) (at / span n))

  abbrev pub rest : ℕ → P → ℕ → List P
  rest zero p at = cond (at == 0) (p ∷ []) []
  rest (suc n) p at = if_some [] (λ q. rest n q (at % span n)) (slice_get (kids p) (at / span n)) ++ flat_map (strips n) (drop (suc (at / span n)) (kids p))

  abbrev pub rank : ℕ → P → ℕ → ℕ
  rank n p at = length (before n p at)

  -- each node below p has 1 to 64 children
  abbrev pub Fit : ℕ → P → Type 0
  Fit zero p = Unit {0}
  Fit (suc n) p = (1 ≤ length (kids p)) × (length (kids p) ≤ 64) × ((q : P) → In q (kids p) → Fit n q)

  -- a position of the tree, the end included
  abbrev pub InTree : ℕ → P → ℕ → Type 0
  InTree n p at = (at ≡ span n) ⊎ ((at < span n) × ((q : P) × (seek n p at ≡ Some q)))
