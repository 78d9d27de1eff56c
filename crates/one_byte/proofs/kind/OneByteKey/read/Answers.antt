use Rattle.std.proofs.Common.{refl, rules}
use Rattle.one_byte.specs.Lows.{low_read}
use Rattle.one_byte.proofs.kind.OneByteKey.read.Goals as goal

pub returns-in-len1-up : goal.returns-in-len1-up
returns-in-len1-up c = low_read c.args.from.now _ (search rules) refl
