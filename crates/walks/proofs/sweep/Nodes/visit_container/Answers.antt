use Rattle.std.proofs.Common.{◌≤◌, List, ◌++◌, map, length, subst, arith}
use Rattle.std.proofs.lemmas.List.{take_all}
use Rattle.records.specs.Records.{Rec}
use Rattle.devices.specs.Questions.{records_of}
use Rattle.slots.specs.Walks.{keys_of}
use Rattle.trees.proofs.Ranks.{nth_past}
use Rattle.walks.specs.Sweeps.{Sweep}
use Rattle.walks.proofs.Told.{untold_none, count_is}
use Rattle.walks.proofs.Visiting.{passed_err, node_more}
use Rattle.walks.proofs.sweep.Nodes.visit_container.Given as given
use Rattle.walks.proofs.sweep.Nodes.visit_container.Goals as goal
use Rattle.walks.proofs.Grounds.{Ground, grounded}

abbrev ground : (g : given.Over) → g.row.D.Denot → Ground g.row.D-Kind.Denot
ground g = grounded g.D.Kind.Key g.met.D.Kind.Key.any g.met.D.Kind.Key.back g.D.Device g.met.D.Device.held

pub returns-in_err-visit_node : goal.returns-in_err-visit_node
returns-in_err-visit_node g c done root slots s =
    passed_err g.D.Kind.Key.WIDE (g.D.Device.contents c.args.self.now.device.now) root slots _ c.from_residual.result c.in_err-visit_node.field-0.0 c.from_residual.ensures.1
    (c.in_err-visit_node.ensures _ root slots (c.loop-index.invariant root slots done s))

pub loop-index-preserved-in_default : goal.loop-index-preserved-in_default
loop-index-preserved-in_default g c root slots done s =
    let cs = g.D.Device.contents c.args.self.now.device.now in
    absurd (
    let past : length (records_of cs c.args.container) ≤ c.loop-index.index = nth_past (records_of cs c.args.container) c.loop-index.index (untold_none cs (record { container = c.args.container; index = c.loop-index.index }) (λ r. g.D.Kind.Key.key r.fingerprint) c.in_default.field-0 c.in_default.ensures) in
    omega (arith, c.loop-index-test.true, c.unwrap_or-index-end.ensures, count_is cs c.args.container c.records.result c.records.ensures))

pub loop-index-preserved : goal.loop-index-preserved
loop-index-preserved g c root slots done s =
    node_more (ground g c.args.self.now.device.now) root slots c.args.self.now.level c.args.container c.loop-index.index c.in-Ok.node c.in-Ok.ensures done (keys_of c.visit_node.new.table)
    (c.in_ok-visit_node.ensures _ root slots (c.loop-index.invariant root slots done s))

pub returns : goal.returns
returns g c done root slots s =
    let k = g.D.Kind.Key in
    let cs = g.D.Device.contents c.args.self.now.device.now in
    subst (λ (rs : List Rec). Sweep k.bytes k.WIDE cs root slots c.args.self.now.level (map (λ r. r.fingerprint) rs ++ done) (keys_of c.loop-index.table))
    (take_all c.loop-index.index (records_of cs c.args.container) (omega (arith, c.loop-index-test.false, c.unwrap_or-index-end.ensures, count_is cs c.args.container c.records.result c.records.ensures)))
    (c.loop-index.invariant root slots done s)
