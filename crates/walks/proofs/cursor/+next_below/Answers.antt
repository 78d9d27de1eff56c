use Rattle.std.proofs.Common.{ℕ, ◌+◌, ◌*◌, ◌/◌, ◌≤◌, refl, ◌∙◌, arith}
use Rattle.trees.specs.Cursor.{span, next}
use Rattle.trees.specs.Trees.{children}
use Rattle.trees.proofs.Steps.{span_pos}
use Rattle.walks.proofs.Down.{span_small, next_no_place, next_no_child, Stepped, stepped, count_small}
use Rattle.walks.proofs.cursor.+next_below.Given as given
use Rattle.walks.proofs.Grounds.{Ground, grounded}
use Rattle.walks.proofs.cursor.+next_below.Goals as goal
use Rattle.walks.proofs.cursor.+next_below.Goals.{After-next_below}

abbrev ground : (g : given.Over) → g.row.D.Denot → Ground g.row.D-Kind.Denot
ground g = grounded g.D.Kind.Key g.met.D.Kind.Key.any g.met.D.Kind.Key.back g.D.Device g.met.D.Device.held

pub returns-in_default-first_place-clause-is : goal.returns-in_default-first_place-clause-is
returns-in_default-first_place-clause-is g t c =
    let m = c.in-Some.below.level in
    c.span.ensures
    ∙ next_no_place (ground g c.args.device.now) (g.D.Kind.Key.bytes c.args.node) c.args.height.level m (span m) c.args.position c.in-Some.ensures refl c.in_default-first_place.ensures

pub nonzero_div-position : goal.nonzero_div-position
nonzero_div-position g t c = omega (arith, c.span-space.ensures, span_pos c.in-Some.below.level)

pub returns-in_default-child_at-clause-is : goal.returns-in_default-child_at-clause-is
returns-in_default-child_at-clause-is g t c =
    c.span-in_default-child_at.ensures
    ∙ next_no_child (ground g c.args.device.now) (g.D.Kind.Key.bytes c.args.node) c.args.height.level c.in-Some.below.level c.span-space.result c.args.position c.in-Some.ensures c.span-space.ensures c.in-Some-first_place.place c.in-Some-first_place.ensures c.in_default-child_at.ensures

pub nonzero_div-to : goal.nonzero_div-to
nonzero_div-to g t c = omega (arith, c.span-space.ensures, span_pos c.in-Some.below.level)

pub nonzero_rem-position : goal.nonzero_rem-position
nonzero_rem-position g t c = omega (arith, c.span-space.ensures, span_pos c.in-Some.below.level)

pub overflow_mul-end : goal.overflow_mul-end
overflow_mul-end g t c =
    let small : c.child_count.result * c.span-space.result ≤ 0x800_0000_0000 = count_small c.child_count.result c.args.height.level c.in-Some.below.level c.span-space.result c.child_count.ensures.few c.args.height.low c.in-Some.ensures c.span-space.ensures in
    omega arith

-- the step from the child
step : (g : given.Over) (t : ℕ) (c : After-next_below g t) → Stepped (next (children g.D.Kind.Key.WIDE (g.D.Device.contents c.args.device.now)) c.args.height.level (g.D.Kind.Key.bytes c.args.node) c.args.position) (c.args.position / c.span-space.result * c.span-space.result + c.next_below.result) (c.child_count.result * c.span-space.result) (span c.args.height.level)
step g t c =
    stepped (ground g c.args.device.now) (g.D.Kind.Key.bytes c.args.node) c.args.height.level c.in-Some.below.level c.span-space.result c.args.position c.in-Some.ensures c.span-space.ensures c.in-Some-first_place.place c.in-Some-first_place.ensures c.in-Some-child_at.child c.in-Some-child_at.ensures c.child_count.result c.next_below.result c.child_count.ensures.is c.next_below.ensures.is c.child_count.ensures.few c.next_below.ensures.small

pub overflow_add-to : goal.overflow_add-to
overflow_add-to g t c =
    let s = step g t (goal.at.overflow_add-to g t c).After-next_below in
    omega (arith, s.small, span_small c.args.height.level c.args.height.low)

pub returns-then-to-end-clause-is : goal.returns-then-to-end-clause-is
returns-then-to-end-clause-is g t c = c.span-then-to-end.ensures ∙ (step g t (goal.at.returns-then-to-end-clause-is g t c).After-next_below).end c.if-to-end.true

pub returns-else-to-end-clause-is : goal.returns-else-to-end-clause-is
returns-else-to-end-clause-is g t c = (step g t (goal.at.returns-else-to-end-clause-is g t c).After-next_below).on c.if-to-end.false

pub returns-else-to-end-clause-small : goal.returns-else-to-end-clause-small
returns-else-to-end-clause-small g t c = (step g t (goal.at.returns-else-to-end-clause-small g t c).After-next_below).small
