use Rattle.std.proofs.Common.{◌≤◌, length, arith}
use Rattle.walks.proofs.Told.{copied_is}
use Rattle.walks.proofs.children.payload_at.Goals as goal

pub returns : goal.returns
returns g c =
    let big : 7168 ≤ length c.args.buffer.now = omega arith in
    rw c.unwrap_or-long.ensures (copied_is (g.D.Device.contents c.args.device.now) c.args.place g.D.Kind.Key.WIDE (g.met.D.Device.held c.args.device.now) c.args.buffer.now c.payload.new.to c.payload.result big c.payload.ensures.answer c.payload.ensures.buffer)
