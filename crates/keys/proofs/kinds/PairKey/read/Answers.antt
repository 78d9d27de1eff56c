use Rattle.std.proofs.Common.{refl, rules}
use Rattle.keys.specs.Reading.{pair_read}
use Rattle.keys.proofs.kinds.PairKey.read.Goals as goal

pub returns : goal.returns
returns c = pair_read c.args.from.now _ (search rules) refl refl
