-- Placing records: into the open container, or else into a free one, which is open then.
use Rattle.std.specs.Prelude.{◌≡◌, ℕ, ◌<◌, true, false, List, [], length, Some, Option, slice_index_or}
use Rattle.devices.specs.Changes.{appended, takes}
use Rattle.records.specs.Records.{Rec, Contents}
use Rattle.trees.specs.Chains.{Chain}

-- a container that has no records
abbrev pub Free : Contents → ℕ → Type 0
Free cs f = (f < length cs) × (slice_index_or cs f [] ≡ [])

-- what the containers hold, and which of them is open
pub record Filling : Type 0 where
  pub contents : Contents
  pub current : Option ℕ

-- into the open container if it takes, else into a free one, which is open then
pub data Settled (s : Filling) (r : Rec) : Filling → Type 0 where
  stays : (o : ℕ) → s.current ≡ Some o → takes (slice_index_or s.contents o []) r ≡ true → Settled s r (record { contents = appended s.contents o r; current = Some o })
  opens : (f : ℕ) → ((o : ℕ) → s.current ≡ Some o → takes (slice_index_or s.contents o []) r ≡ false) → Free s.contents f → Settled s r (record { contents = appended s.contents f r; current = Some f })

abbrev pub SettledAll : Filling → List Rec → Filling → Type 0
SettledAll s rs t = Chain Settled s rs t
