use Rattle.std.proofs.Common.{◌∙◌, rules}
use Rattle.walks.proofs.Visiting.{level_is, place_told, place_none}
use Rattle.walks.proofs.sweep.place_at_level.Goals as goal

pub returns-in_err-place : goal.returns-in_err-place
returns-in_err-place g c =
    c.from_residual.ensures ∙ place_none (g.D.Device.contents c.args.device.now) (g.D.Kind.Key.bytes c.args.node) c.args.level c.in_err-place.ensures

pub returns : goal.returns
returns g c =
    let cs = g.D.Device.contents c.args.device.now in
    let p = g.D.Kind.Key.bytes c.args.node in
    c.then_some.ensures
    ∙ place_told cs p c.args.level c.in_ok-place.place c.in_ok-place.ensures c.is_ok_and.result c.level.result c.level.ensures
    (level_is cs p c.args.level c.level.result c.is_ok_and.result _ c.is_ok_and.ensures (λ l q. search rules))
