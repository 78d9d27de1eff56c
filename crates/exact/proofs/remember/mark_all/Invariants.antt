use Rattle.exact.proofs.Remembering.{MarkingOn}
use Rattle.exact.proofs.remember.mark_all.Given as goal

abbrev pub invariant-loop-key : goal.invariant-loop-key
invariant-loop-key g l = MarkingOn g.K.Key.bytes l.initial.set l.keys l.key-index l.set
