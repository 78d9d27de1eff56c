use Rattle.std.proofs.Common.{sym, ◌∙◌}
use Rattle.keys.specs.Little.{equal_keys}
use Rattle.slots.proofs.Marks.{one_mark}
use Rattle.slots.proofs.marking.mark_key.Goals as goal

pub returns-in-Found-clause-meaning : goal.returns-in-Found-clause-meaning
returns-in-Found-clause-meaning g c =
    let k = g.K.Key in
    one_mark k.bytes (equal_keys k.bytes k.key g.met.K.Key.back) c.args.slots.now c.args.key _ (sym c.in-Found.is ∙ c.probe_for.ensures.answer)
