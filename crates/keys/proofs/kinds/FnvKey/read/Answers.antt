use Rattle.std.proofs.Common.{rules}
use Rattle.keys.specs.Reading.{fnv_read}
use Rattle.keys.proofs.kinds.FnvKey.read.Goals as goal

pub returns-in-len8-up : goal.returns-in-len8-up
returns-in-len8-up c = fnv_read c.args.from.now _ (search rules) c.from_le_bytes-number.ensures
