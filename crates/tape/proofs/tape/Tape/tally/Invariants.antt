use Rattle.devices.specs.Questions.{records_of}
use Rattle.tape.specs.Log.{log_of}
use Rattle.tape.specs.Meaning.{held_by}
use Rattle.tape.proofs.Counts.{Counted}
use Rattle.tape.proofs.tape.Tape.tally.Given as goal

abbrev pub invariant-loop-entry : goal.invariant-loop-entry
invariant-loop-entry g l =
    Counted l.container l.records l.payload (log_of g.F.Key.WIDE l.entry-iterator.entries l.entry-iterator.bytes.now) (records_of (held_by g.F.Key.WIDE l.self) l.container)
