use Rattle.std.proofs.Common.{length, sym, ◌∙◌}
use Rattle.records.proofs.Shaping.{shape_from, shaped_from}
use Rattle.records.proofs.shape.is_shaped.Goals as goal

pub returns : goal.returns
returns g c =
    let w = g.F.Key.WIDE in
    let n = length c.args.payload.now in
    let some = g.met.F.Fingerprint.some in
    record {
      answer = c.has_shape.ensures;
      shape = λ t. shape_from w _ n some (sym c.has_shape.ensures ∙ t);
      only = λ s. c.has_shape.ensures ∙ shaped_from w _ n some s;
    }
