use Rattle.std.proofs.Common.{sym, refl, arith}
use Rattle.std.proofs.lemmas.Grind.{common_steps}
use Rattle.bloom.proofs.FilterSteps.{marking, marked}
use Rattle.bloom.proofs.filter_set.BloomFilterLiveSet.mark.Goals as goal

pub returns-then-is_sealed-clause-effect : goal.returns-then-is_sealed-clause-effect
returns-then-is_sealed-clause-effect g c =
    marking g.K.Key.bytes _ _ c.args.key _ _ c.deref_mut.ensures.value (grind (arith, common_steps)) c.set_bits.ensures refl (sym c.if-is_sealed.ensures)

pub returns-then-is_sealed-clause-own : goal.returns-then-is_sealed-clause-own
returns-then-is_sealed-clause-own g c =
    marked g.K.Key.bytes _ _ c.args.key _ _ c.deref_mut.ensures.value (grind (arith, common_steps)) c.set_bits.ensures (sym c.if-is_sealed.ensures)
