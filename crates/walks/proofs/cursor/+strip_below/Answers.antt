use Rattle.std.proofs.Common.{◌∙◌, arith}
use Rattle.trees.proofs.Steps.{span_pos}
use Rattle.walks.proofs.Down.{strip_no_place, strip_no_child, strip_child}
use Rattle.walks.proofs.cursor.+strip_below.Given as given
use Rattle.walks.proofs.Grounds.{Ground, grounded}
use Rattle.walks.proofs.cursor.+strip_below.Goals as goal

abbrev ground : (g : given.Over) → g.row.D.Denot → Ground g.row.D-Kind.Denot
ground g = grounded g.D.Kind.Key g.met.D.Kind.Key.any g.met.D.Kind.Key.back g.D.Device g.met.D.Device.held

pub returns-in_err-place : goal.returns-in_err-place
returns-in_err-place g t c =
    c.from_residual.ensures
    ∙ strip_no_place (ground g c.args.device.now) c.args.height.level (g.D.Kind.Key.bytes c.args.node) c.args.position c.in_err-place.ensures

pub nonzero_div-position : goal.nonzero_div-position
nonzero_div-position g t c = omega (arith, c.span-space.ensures, span_pos c.in-Some.below.level)

pub returns-in_err-child : goal.returns-in_err-child
returns-in_err-child g t c =
    c.from_residual-in_err-child.ensures
    ∙ strip_no_child (ground g c.args.device.now) (g.D.Kind.Key.bytes c.args.node) c.args.height.level c.in-Some.below.level c.span-space.result c.args.position c.in-Some.ensures c.span-space.ensures c.in_ok-place.place c.in_ok-place.ensures c.in_err-child.ensures

pub nonzero_rem-position : goal.nonzero_rem-position
nonzero_rem-position g t c = omega (arith, c.span-space.ensures, span_pos c.in-Some.below.level)

pub returns : goal.returns
returns g t c =
    c.strip_below.ensures
    ∙ strip_child (ground g c.args.device.now) (g.D.Kind.Key.bytes c.args.node) c.args.height.level c.in-Some.below.level c.span-space.result c.args.position c.in-Some.ensures c.span-space.ensures c.in_ok-place.place c.in_ok-place.ensures c.in_ok-child.child c.in_ok-child.ensures
