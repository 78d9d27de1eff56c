use Rattle.std.proofs.Common.{◌≡◌, ℕ, [], length, sym, ap, ◌∙◌, subst, arith}
use Rattle.std.proofs.lemmas.List.{length-replicate}
use Rattle.slots.proofs.Cells.{keys_length}
use Rattle.slots.specs.Walks.{keys_of}
use Rattle.slots.specs.declared.slot.Slot.TheVariants.{Empty}
use Rattle.trees.specs.Trees.{Whole}
use Rattle.walks.specs.Findings.{Flawed}
use Rattle.walks.specs.Sweeps.{Sweep}
use Rattle.walks.proofs.Sweeping.{sweep_whole, sweep_start, start_full}
use Rattle.walks.proofs.Visiting.{passed_err, passed_map, reached_typed, node_stored}
use Rattle.walks.proofs.examination.sweep_tree.Given as given
use Rattle.walks.proofs.Grounds.{Ground, grounded}
use Rattle.walks.proofs.examination.sweep_tree.Goals as goal
use Rattle.walks.proofs.examination.sweep_tree.Goals.{After-empty}

abbrev ground : (g : given.Over) → g.row.D.Denot → Ground g.row.D-Kind.Denot
ground g = grounded g.D.Kind.Key g.met.D.Kind.Key.any g.met.D.Kind.Key.back g.D.Device g.met.D.Device.held

-- the table is as long as before
kept_long : (g : given.Over) (c : After-empty g) → length (keys_of c.empty.new.slots) ≡ length c.args.seen.now
kept_long g c = keys_length c.empty.new.slots ∙ ap length c.empty.ensures.after ∙ length-replicate (length c.args.seen.now) Empty

pub returns-in_err-enter : goal.returns-in_err-enter
returns-in_err-enter g c =
    let k = g.D.Kind.Key in
    let cs = g.D.Device.contents c.args.device.now in
    let slots : ℕ = length c.args.seen.now in
    let n = node_stored cs (k.bytes c.args.root) c.height_of-level.result c.height_of-level.ensures c.if-level-eq0.false in
    let short = start_full k.bytes cs c.args.root n.0 (keys_of c.empty.new.slots) c.empty.ensures.meaning n.1 c.in_err-enter.ensures.1 in
    passed_err k.WIDE cs (k.bytes c.args.root) slots (Whole k.WIDE cs (k.bytes c.args.root)) c.from_residual.result c.in_err-enter.field-0.0 c.from_residual.ensures.1
    (subst (Flawed k.WIDE cs (k.bytes c.args.root) slots) (sym c.in_err-enter.ensures.0) ((n.0, n.1, n.2), omega (arith, kept_long g (goal.at.returns-in_err-enter g c).After-empty)))

pub returns : goal.returns
returns g c =
    let k = g.D.Kind.Key in
    let d = c.args.device.now in
    let cs = g.D.Device.contents d in
    let root = k.bytes c.args.root in
    let slots : ℕ = length c.args.seen.now in
    let n = node_stored cs root c.height_of-level.result c.height_of-level.ensures c.if-level-eq0.false in
    let o = c.in_ok-enter.ensures in
    let s = sweep_start k.bytes k.WIDE cs c.args.root n.0 (keys_of c.empty.new.slots) c.empty.ensures.meaning n.1 n.2 o.0 (keys_of c.enter.new.table) o.1 o.2 in
    let from : Sweep k.bytes k.WIDE cs root slots c.height_of-level.result [] (keys_of c.enter.new.table) =
    subst (λ (l : ℕ). Sweep k.bytes k.WIDE cs root slots l [] (keys_of c.enter.new.table)) n.3
    (subst (λ (m : ℕ). Sweep k.bytes k.WIDE cs root m n.0.level [] (keys_of c.enter.new.table)) (kept_long g (goal.at.returns g c).After-empty) s) in
    passed_map k.WIDE cs root slots _ (Whole k.WIDE cs root) c.visit_levels.result
    (sweep_whole k.bytes k.key k.WIDE cs root slots (keys_of c.visit_levels.new.table) (reached_typed (ground g d) c.args.root))
    (c.visit_levels.ensures root slots from)
