use Rattle.std.proofs.Common.{replicate, sym, ap, ◌∙◌, lit≤}
use Rattle.walks.proofs.Told.{told_some, copied_some, copied_none}
use Rattle.trees.specs.Holding.{standing}
use Rattle.presence.proofs.Looking.{said, said_told}
use Rattle.presence.proofs.storing.present_at.Goals as goal

pub returns-in_err-long : goal.returns-in_err-long
returns-in_err-long g c =
    let cs = g.D.Device.contents c.args.device.now in
    c.from_residual-in_err-long.ensures
    ∙ sym (ap (said c.args.level c.args.payload.now) (copied_none cs c.args.place g.D.Kind.Key.WIDE (g.met.D.Device.held c.args.device.now) 7168 (lit≤ tt) c.payload.result c.in_err-long.ensures.value c.payload.ensures.answer))

pub returns : goal.returns
returns g c =
    let cs = g.D.Device.contents c.args.device.now in
    let t = told_some cs c.args.place (λ r. r.level) c.in_ok-stored.stored c.level.result c.in_ok-stored.ensures.value c.level.ensures in
    let p = copied_some cs c.args.place c.in_ok-long.long (replicate 7168 0) c.payload.new.to c.payload.result c.in_ok-long.ensures.value c.payload.ensures.answer c.payload.ensures.buffer in
    said_told c.args.level c.args.payload.now (standing cs c.args.place) t.0 p.0 c.in_ok-stored.stored _ c.compared.result t.1 t.2 p.1 p.2 c.compared.ensures
