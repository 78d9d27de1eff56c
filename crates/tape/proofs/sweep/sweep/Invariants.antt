use Rattle.tape.specs.Log.{log_of}
use Rattle.tape.proofs.Sweeps.{Swept}
use Rattle.tape.proofs.sweep.sweep.Given as goal

abbrev pub invariant-loop : goal.invariant-loop
invariant-loop l = Swept l.width l.container l.counter l.at l.count l.used l.bytes (log_of l.width l.entries l.initial.bytes)
