-- A relation chained along a list: one step after another.
use Rattle.std.specs.Prelude.{◌≡◌, List, [], ◌∷◌}

-- from u, a step for each element of the list in order, to w
abbrev pub Chain : {S X : Type 0} → (S → X → S → Type 0) → S → List X → S → Type 0
Chain R u [] v = v ≡ u
Chain {S} R u (x ∷ xs) w = (v : S) × R u x v × Chain R v xs w
