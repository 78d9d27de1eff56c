use Rattle.exact.specs.Exact.{exact_meaning}
use Rattle.exact.proofs.Remembering.{Teaching}
use Rattle.exact.proofs.remember.learn_all.Given as goal

abbrev pub invariant-loop-key : goal.invariant-loop-key
invariant-loop-key g l = Teaching g.K.Key.bytes ((exact_meaning g.K.Key.bytes).capacity l.initial.set) l.keys l.key-index l.set
