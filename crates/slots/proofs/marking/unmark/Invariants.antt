use Rattle.std.proofs.Common.{◌≡◌, ◌++◌, map, take, drop}
use Rattle.slots.specs.Marks.{plain}
use Rattle.slots.proofs.marking.unmark.Given as goal

abbrev pub invariant-loop-slot : goal.invariant-loop-slot
invariant-loop-slot g l = l.slot-items ≡ map plain (take l.slot-index l.initial.slot-items) ++ drop l.slot-index l.initial.slot-items
