-- The tests of a call: the first that applies decides.
use Rattle.std.specs.Prelude.{Bool, cond, not, List, [], ◌∷◌, Ok, Err, Result}
use Rattle.records.specs.Refusals.{untold}
use Rattle.records.specs.declared.refusal.Cause.{Cause}
use Rattle.records.specs.declared.refusal.Cause.TheVariants.{Shut, MarkingOpen}
use Rattle.records.specs.declared.refusal.Refusal.{Refusal}
use Rattle.store.specs.States.{State}

-- whether a test applies, and the cause that it refuses with
abbrev pub Test : Type 0
Test = Bool × Cause

-- the refusal of the first test that applies, or else the answer
abbrev pub refusing : {X E : Type 0} → (Cause → E) → List Test → Result X E → Result X E
refusing why [] answer = answer
refusing why (t ∷ ts) answer = cond t.0 (Err (why t.1)) (refusing why ts answer)

-- what is left as it was where a test applies, or else the change
abbrev pub unless : {X : Type 0} → List Test → X → X → X
unless [] stays change = change
unless (t ∷ ts) stays change = cond t.0 stays (unless ts stays change)

-- the first tests of every call but admit, and of those that no open marking allows
abbrev pub shut : State → Test
shut s = (not s.admitted, Shut)

abbrev pub busy : State → Test
busy s = (s.marking, MarkingOpen)

-- what those tests alone answer
abbrev pub tested : List Test → Result (Unit {0}) Refusal
tested ts = refusing untold ts (Ok tt)
