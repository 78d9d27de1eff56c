use Rattle.std.proofs.Common.{length, sym}
use Rattle.slots.specs.Walks.{keys_of}
use Rattle.slots.proofs.Cells.{keys_length}
use Rattle.walks.proofs.Visiting.{passed_map, node_payload, node_absent, node_elsewhere, node_found, node_done}
use Rattle.walks.proofs.sweep.Nodes.visit_node.Given as given
use Rattle.walks.proofs.Grounds.{Ground, grounded}
use Rattle.walks.proofs.sweep.Nodes.visit_node.Goals as goal

abbrev ground : (g : given.Over) → g.row.D.Denot → Ground g.row.D-Kind.Denot
ground g = grounded g.D.Kind.Key g.met.D.Kind.Key.any g.met.D.Kind.Key.back g.D.Device g.met.D.Device.held

pub returns-then-not-lookup : goal.returns-then-not-lookup
returns-then-not-lookup g c done root slots s =
    let t = c.args.table.now in
    node_absent (ground g c.args.self.now.device.now) root slots c.args.self.now.level done c.args.node (keys_of t) (length t) (keys_length t) c.if-not-lookup.ensures.exact s

pub returns : goal.returns
returns g c done root slots s =
    let d = c.args.self.now.device.now in
    let n = c.args.self.now.level in
    let t = c.args.table.now in
    let f = node_found (ground g d) root slots n done c.args.node (keys_of t) (length t) (keys_length t) c.if-not-lookup.ensures.exact s c.in-Some.place c.in-Some.ensures in
    passed_map g.D.Kind.Key.WIDE (g.D.Device.contents d) root slots _ _ c.admit_children.result
    (node_done (ground g d) root slots n done c.args.node (keys_of t) (length t) (keys_length t) c.if-not-lookup.ensures.exact s c.in-Some.place c.in-Some.ensures (keys_of c.admit_children.new.table))
    (c.admit_children.ensures root slots done c.args.node f.0 s f.1 (sym (node_payload (ground g d) root slots n c.in-Some.place c.args.node f.0 (keys_of t) f.1)))

pub returns-in_default : goal.returns-in_default
returns-in_default g c done root slots s =
    node_elsewhere (ground g c.args.self.now.device.now) root slots c.args.self.now.level done c.args.node (keys_of c.args.table.now) c.in_default.ensures s
