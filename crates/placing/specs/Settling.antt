-- Putting a record where the choice says: what the containers hold then, and which of them is being filled.
use Rattle.std.specs.Prelude.{ℕ, cond, length, Some, None, Option}
use Rattle.records.specs.Records.{Rec, Contents}
use Rattle.devices.specs.Changes.{storable, appended}
use Rattle.placing.specs.Placings.{chosen}
use Rattle.placing.specs.declared.choosing.Choice.{Choice}
use Rattle.placing.specs.declared.choosing.Choice.TheVariants.{Stays, Opens}
use Rattle.placing.specs.declared.filling.Filling.{Filling}

-- where a record goes; one that no device stores goes nowhere
abbrev pub choice_for : Contents → Filling → ℕ → Rec → Option Choice
choice_for cs f spare r = cond (storable r) (chosen cs f spare (length r.payload)) None

-- the record stands behind the others of its container
abbrev pub settled_in : Contents → Option Choice → Rec → Contents
settled_in cs None r = cs
settled_in cs (Some (Stays c)) r = appended cs c r
settled_in cs (Some (Opens c)) r = appended cs c r

-- a container that was opened is being filled from now on, and was opened last
abbrev pub turned_to : Filling → Option Choice → Filling
turned_to f None = f
turned_to f (Some (Stays c)) = f
turned_to f (Some (Opens c)) = record { current = Some c; last = c }
