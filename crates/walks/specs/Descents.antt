-- What the cursor's descent answers, on any contents: a root above level 6 has no strips, and its next position is 0.
use Rattle.std.specs.Prelude.{ℕ, cond, List, Some, None, Ok, Err, Option, Result, ◌==◌, nat_le, nat_lt}
use Rattle.records.specs.Records.{Contents, first_place}
use Rattle.records.specs.declared.refusal.Place.{Place}
use Rattle.trees.specs.Holding.{if_some}
use Rattle.trees.specs.Reading.{height, strip_at, next_at, the_end}
use Rattle.walks.specs.declared.astray.Astray.{Astray}

-- the one value of Astray
abbrev pub astray : Astray
astray = record {}

-- the key that some bytes are, if there are any
abbrev pub as_key : {K : Type 0} → (List ℕ → K) → Option (List ℕ) → Option K
as_key key o = if_some None (λ q. Some (key q)) o

-- to a place, if there is one
abbrev pub to_strip : Option Place → Result (Option Place) Astray
to_strip None = Err astray
to_strip (Some p) = Ok (Some p)

module _ (w : ℕ) (cs : Contents) (root : List ℕ) where
  -- the place of the strip at a position of the tree under a root
  abbrev pub strip_place : ℕ → Option Place
  strip_place at = cond (nat_le (height w cs root) 6) (if_some None (first_place cs) (strip_at w cs root at)) None

  -- the next position, or the end
  abbrev pub position_after : ℕ → ℕ
  position_after at = cond (nat_le (height w cs root) 6) (next_at w cs root at) 0

  -- where a position leads: to the end, which has no place, to the place of a strip of the tree that is stored, or nowhere
  abbrev pub lead_of : ℕ → Result (Option Place) Astray
  lead_of at =
      cond (nat_le (height w cs root) 6)
      (cond (at == the_end w cs root) (Ok None) (cond (nat_lt at (the_end w cs root)) (to_strip (strip_place at)) (Err astray)))
      (Err astray)
