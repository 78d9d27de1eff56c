use Rattle.std.proofs.Common.{◌<◌, length, ◌∙◌, ap, arith}
use Rattle.std.specs.Slice.Iter.{chunks_exact_rest}
use Rattle.slots.specs.Walks.{keys_of}
use Rattle.walks.proofs.Visiting.{passed_err, going_start, going_end, no_child, child_told, child_in}
use Rattle.walks.proofs.sweep.Nodes.admit_pieces.Given as given
use Rattle.walks.proofs.Grounds.{Ground, grounded}
use Rattle.walks.proofs.sweep.Nodes.admit_pieces.Goals as goal

abbrev ground : (g : given.Over) → g.row.D.Denot → Ground g.row.D-Kind.Denot
ground g = grounded g.D.Kind.Key g.met.D.Kind.Key.any g.met.D.Kind.Key.back g.D.Device g.met.D.Device.held

pub loop-piece-init : goal.loop-piece-init
loop-piece-init g c =
    let i = c.into_iter-piece-iterator.ensures.into_iter_gives in
    let h = c.chunks_exact-piece-items.ensures in (
      ap (λ s. s.size) i ∙ h.size ∙ c.WIDE.ensures,
      λ root slots done p r s f e.
          going_start (ground g c.args.self.now.device.now) root slots c.args.self.now.level g.met.D.Kind.Fingerprint.some c.args.self.now.high c.args.place done p r c.args.payload.now e
          (chunks_exact_rest c.into_iter-piece-iterator.result) (ap chunks_exact_rest i ∙ h.rest) (keys_of c.args.table.now) s f,
    )

pub returns-in_err-admit_child : goal.returns-in_err-admit_child
returns-in_err-admit_child g c root slots done p r s f e =
    let d = c.args.self.now.device.now in
    let h = c.in-Some.ensures.steps in
    passed_err g.D.Kind.Key.WIDE (g.D.Device.contents d) root slots _ c.from_residual.result c.in_err-admit_child.field-0.0 c.from_residual.ensures.1
    (child_told (ground g d) root slots c.args.self.now.level g.met.D.Kind.Fingerprint.some c.args.self.now.high c.args.place done p r c.args.payload.now e
    (chunks_exact_rest c.loop-piece.piece-iterator) c.in-Some.piece.now (chunks_exact_rest c.next.new.self) h.1.0 (h.1.1 ∙ c.loop-piece.invariant.0)
    c.in-Some-read.child c.in-Some-read.ensures (keys_of c.loop-piece.table) (c.loop-piece.invariant.1 root slots done p r s f e) (keys_of c.admit_child.new.table) c.in_err-admit_child.field-0.0 c.in_err-admit_child.ensures)

pub loop-piece-preserved-in_default : goal.loop-piece-preserved-in_default
loop-piece-preserved-in_default g c =
    let h = c.in-Some.ensures.steps in (
      h.0 ∙ c.loop-piece.invariant.0,
      λ root slots done p r s f e. absurd (no_child (ground g c.args.self.now.device.now) root slots c.args.self.now.level g.met.D.Kind.Fingerprint.some c.args.self.now.high c.args.place done p r c.args.payload.now e
          (chunks_exact_rest c.loop-piece.piece-iterator) c.in-Some.piece.now (chunks_exact_rest c.next.new.self) h.1.0 (h.1.1 ∙ c.loop-piece.invariant.0) c.in_default.ensures),
    )

pub loop-piece-preserved : goal.loop-piece-preserved
loop-piece-preserved g c =
    let h = c.in-Some.ensures.steps in (
      h.0 ∙ c.loop-piece.invariant.0,
      λ root slots done p r s f e.
          child_in (ground g c.args.self.now.device.now) root slots c.args.self.now.level g.met.D.Kind.Fingerprint.some c.args.self.now.high c.args.place done p r c.args.payload.now e
          (chunks_exact_rest c.loop-piece.piece-iterator) c.in-Some.piece.now (chunks_exact_rest c.next.new.self) h.1.0 (h.1.1 ∙ c.loop-piece.invariant.0)
          c.in-Some-read.child c.in-Some-read.ensures (keys_of c.loop-piece.table) (c.loop-piece.invariant.1 root slots done p r s f e) c.in_ok-admit_child.field-0 (keys_of c.admit_child.new.table) c.in_ok-admit_child.ensures,
    )

pub returns : goal.returns
returns g c root slots done p r s f e =
    let few : length (chunks_exact_rest c.loop-piece.piece-iterator) < g.D.Kind.Key.WIDE = omega (arith, c.in-None.ensures.steps, c.loop-piece.invariant.0) in
    going_end (ground g c.args.self.now.device.now) root slots c.args.self.now.level g.met.D.Kind.Fingerprint.some c.args.self.now.high c.args.place done p r c.args.payload.now e
    (chunks_exact_rest c.loop-piece.piece-iterator) (keys_of c.loop-piece.table) few (c.loop-piece.invariant.1 root slots done p r s f e)
