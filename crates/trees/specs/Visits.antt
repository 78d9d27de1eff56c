-- The visits of a pass: from level 6 down to 1, each container that holds the level, in rising order.
use Rattle.std.specs.Prelude.{◌≡◌, ℕ, suc, ◌<◌, Bool, false, cond, ◌||◌, ◌⊎◌, List, [], ◌∷◌, ◌==◌}
use Rattle.std.specs.List.{flat_map}
use Rattle.records.specs.Records.{Rec, Contents}
use Rattle.trees.specs.Holding.{In}

abbrev pub holds_level : ℕ → List Rec → Bool
holds_level n [] = false
holds_level n (r ∷ rs) = r.level == n || holds_level n rs

-- the containers from c on that hold level n
abbrev pub holders : ℕ → ℕ → Contents → List (ℕ × ℕ)
holders n c [] = []
holders n c (b ∷ cs) = cond (holds_level n b) ((n, c) ∷ holders n (suc c) cs) (holders n (suc c) cs)

abbrev pub visits : Contents → List (ℕ × ℕ)
visits cs = flat_map (λ n. holders n 0 cs) (6 ∷ 5 ∷ 4 ∷ 3 ∷ 2 ∷ 1 ∷ [])

-- a lower level, or the same level and a higher container
abbrev pub Later : ℕ × ℕ → ℕ × ℕ → Type 0
Later x y = (y.0 < x.0) ⊎ ((y.0 ≡ x.0) × (x.1 < y.1))

-- each is later than all before it
abbrev pub InOrder : List (ℕ × ℕ) → Type 0
InOrder [] = Unit {0}
InOrder (x ∷ xs) = ((y : ℕ × ℕ) → In y xs → Later x y) × InOrder xs
