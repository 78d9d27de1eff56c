-- What an examination tells of the tree under a root.
use Rattle.std.specs.Prelude.{◌≡◌, ℕ, ◌<◌, ◌≤◌, List, length, Some, Ok, Err, Result}
use Rattle.records.specs.Records.{Rec, Contents, first_place}
use Rattle.records.specs.Refusals.{untold}
use Rattle.records.specs.declared.refusal.Cause.TheVariants.{NoRoot as CauseNoRoot, BrokenTree, TooShort}
use Rattle.records.specs.declared.refusal.Place.{Place}
use Rattle.records.specs.declared.refusal.Refusal.{Refusal}
use Rattle.trees.specs.Holding.{In, all, record_of}
use Rattle.trees.specs.Trees.{cut, Reaches, StoredUnder, StoredNode, Whole}
use Rattle.walks.specs.declared.flaw.Flaw.{Flaw}
use Rattle.walks.specs.declared.flaw.Flaw.TheVariants.{NoRoot, Broken, TableFull}

-- a reached node, at this place, has a child that is not stored at the level just below
pub record Faulty (w : ℕ) (cs : Contents) (root : List ℕ) (x : Place) : Type 0 where
  pub node : List ℕ
  pub parent : Rec
  pub child : List ℕ
  pub reached : Reaches w cs root node
  pub place : first_place cs node ≡ Some x
  pub is : record_of cs node ≡ Some parent
  pub above : 1 ≤ parent.level
  pub lists : In child (cut w parent.payload)
  pub missing : StoredUnder cs parent.level child → ⊥

-- what each flaw means, with a table of so many slots
abbrev pub Flawed : ℕ → Contents → List ℕ → ℕ → Flaw → Type 0
Flawed w cs root slots NoRoot = StoredNode cs root → ⊥
Flawed w cs root slots (Broken x) = Faulty w cs root x
Flawed w cs root slots TableFull = StoredNode cs root × (slots < length (all cs))

-- a part of the examination went well, and Fine holds, or else it tells what is wrong
abbrev pub Passed : ℕ → Contents → List ℕ → ℕ → Type 0 → Result (Unit {0}) Flaw → Type 0
Passed w cs root slots Fine (Ok u) = Fine
Passed w cs root slots Fine (Err e) = Flawed w cs root slots e

-- what an examination tells, with a table of so many slots: the tree is whole, or what is wrong
abbrev pub Tells : ℕ → Contents → List ℕ → ℕ → Result (Unit {0}) Flaw → Type 0
Tells w cs root slots o = Passed w cs root slots (Whole w cs root) o

-- the refusal that a flaw is; it tells no place
abbrev pub refusal_of : Flaw → Refusal
refusal_of NoRoot = untold CauseNoRoot
refusal_of (Broken x) = untold BrokenTree
refusal_of TableFull = untold TooShort
