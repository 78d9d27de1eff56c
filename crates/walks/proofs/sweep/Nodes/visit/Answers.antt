use Rattle.std.proofs.Common.{arith}
use Rattle.slots.specs.Walks.{keys_of}
use Rattle.walks.proofs.Visiting.{passed_err, container_more, level_done}
use Rattle.walks.proofs.sweep.Nodes.visit.Given as given
use Rattle.walks.proofs.Grounds.{Ground, grounded}
use Rattle.walks.proofs.sweep.Nodes.visit.Goals as goal

abbrev ground : (g : given.Over) → g.row.D.Denot → Ground g.row.D-Kind.Denot
ground g = grounded g.D.Kind.Key g.met.D.Kind.Key.any g.met.D.Kind.Key.back g.D.Device g.met.D.Device.held

pub returns-in_err-visit_container : goal.returns-in_err-visit_container
returns-in_err-visit_container g c root slots s =
    passed_err g.D.Kind.Key.WIDE (g.D.Device.contents c.args.self.now.device.now) root slots _ c.from_residual.result c.in_err-visit_container.field-0.0 c.from_residual.ensures.1
    (c.in_err-visit_container.ensures _ root slots (c.loop-container.invariant root slots s))

pub loop-container-preserved : goal.loop-container-preserved
loop-container-preserved g c root slots s =
    let d = c.args.self.now.device.now in
    container_more (ground g d) root slots c.args.self.now.level c.loop-container.container (omega (arith, c.loop-container-test.true, c.count-container-end.ensures)) (keys_of c.visit_container.new.table)
    (c.in_ok-visit_container.ensures _ root slots (c.loop-container.invariant root slots s))

pub returns : goal.returns
returns g c root slots s =
    let d = c.args.self.now.device.now in
    level_done (ground g d) root slots c.args.self.now.level c.loop-container.container (omega (arith, c.loop-container-test.false, c.count-container-end.ensures)) c.args.self.now.high (keys_of c.loop-container.table)
    (c.loop-container.invariant root slots s)
