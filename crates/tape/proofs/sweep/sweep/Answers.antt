use Rattle.std.proofs.Common.{sym, ◌∙◌, arith}
use Rattle.tape.proofs.Walks.{space, turn_in, end_in}
use Rattle.tape.proofs.Sweeps.{swept_none, swept_gone, swept_kept, swept_all}
use Rattle.tape.proofs.sweep.sweep.Goals as goal
use Rattle.tape.proofs.sweep.sweep.Goals.{then-here-container, else-here-container}

pub loop-init : goal.loop-init
loop-init c = swept_none _ _ _ _ c.requires

pub head_at-here-requires : goal.head_at-here-requires
head_at-here-requires c = space _ _ _ _ _ c.loop.invariant.on (turn_in _ _ _ _ c.loop-test.true)

pub copy_within-requires : goal.copy_within-requires
copy_within-requires c =
    let r = space _ _ _ _ _ c.loop.invariant.on (turn_in _ _ _ _ c.loop-test.true) in
    let n = c.head_at-here.ensures.next in
    let b = c.loop.invariant.behind in
    record { start_le_end = omega arith; in_bounds = omega arith; dest_in_bounds = omega arith; not_exhausted = tt }

pub loop-preserved : goal.loop-preserved
loop-preserved c =
    let turn = turn_in _ _ _ _ c.loop-test.true in
    let told = c.head_at-here.ensures in
    elim c.if-here-container.branch [
      | then-here-container w ↦ swept_kept _ _ _ _ _ _ _ _ c.loop.invariant turn _ told.next (λ p. w.if-here-container.true (told.container ∙ p)) _ _ _ w.count-is w.used-is (w.bytes-is ∙ w.copy_within.ensures.after)
      | else-here-container w ↦ swept_gone _ _ _ _ _ _ _ _ c.loop.invariant turn _ told.next (sym told.container ∙ w.if-here-container.false) _ _ _ w.count-is w.used-is w.bytes-is
    ]

pub returns : goal.returns
returns c = let h = swept_all _ _ _ _ _ _ _ _ c.loop.invariant (end_in _ _ _ _ c.loop-test.false) in record { entries = h.entries; used = h.size; after = h.after }
