use Rattle.std.proofs.Common.{arith}
use Rattle.std.proofs.lemmas.Grind.{common_steps}
use Rattle.bloom.proofs.FilterSteps.{sealing}
use Rattle.bloom.proofs.filter_set.BloomFilterLiveSet.seal.Goals as goal

pub returns-clause-own : goal.returns-clause-own
returns-clause-own g c = sealing _ _ _ _ c.deref_mut.ensures.value (grind (arith, common_steps)) c.clear_bits.ensures
