use Rattle.std.proofs.Common.{div-le_self, arith}
use Rattle.walks.proofs.Told.{count_told}
use Rattle.walks.proofs.children.child_count.Goals as goal

pub returns : goal.returns
returns g c =
    let w = g.D.Kind.Key.WIDE in
    let t = count_told w (g.D.Device.contents c.args.device.now) c.args.place (g.met.D.Device.held c.args.device.now) c.payload_len.result c.payload_len.ensures in
    record { is = rw (c.WIDE.ensures, c.unwrap_or.ensures) t.0; few = omega (arith, div-le_self c.unwrap_or.result c.WIDE.result, c.unwrap_or.ensures, t.1) }
