use Rattle.std.proofs.Common.{◌∙◌, arith}
use Rattle.slots.proofs.Walking.{FirstStop, first_found}
use Rattle.slots.proofs.walk.scan.Goals as goal

pub returns : goal.returns
returns g c =
    let b = g.K.Key.bytes in
    let first : FirstStop b c.args.key c.args.from c.args.part.now c.find_map.result = grind arith in
    c.unwrap_or.ensures ∙ first_found b c.args.key c.args.from c.args.part.now c.find_map.result first
