use Rattle.std.proofs.Common.{◌≡◌, length}
use Rattle.bloom.specs.Bits.{with_bits, place}
use Rattle.bloom.proofs.bits.set_bits.Given as goal

abbrev pub invariant-loop-seed : goal.invariant-loop-seed
invariant-loop-seed g l = l.served ≡ with_bits (place (g.K.Key.bytes l.key) (length l.initial.served)) l.seed l.initial.served
