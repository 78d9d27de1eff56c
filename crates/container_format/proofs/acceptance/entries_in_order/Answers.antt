use Rattle.std.proofs.Common.{sym, subst, rules}
use Rattle.std.proofs.lemmas.List.{take_rest}
use Rattle.container_format.specs.Checking.{Zeros}
use Rattle.container_format.proofs.Turn.{held_more, held_not, held_last}
use Rattle.container_format.proofs.acceptance.entries_in_order.Goals as goal
use Rattle.container_format.proofs.acceptance.entries_in_order.Goals.{then-offset-used, else-offset-used}

pub returns-in_default-clause-no : goal.returns-in_default-clause-no
returns-in_default-clause-no g c = let s = (c.in-Some.ensures).steps in held_not _ _ _ _ _ _ _ _ _ c.loop-entry.invariant _ _ s.1.0 s.1.1 c.in_default.ensures

pub loop-entry-preserved : goal.loop-entry-preserved
loop-entry-preserved g c =
    let s = (c.in-Some.ensures).steps in
    let ok = c.in-Some-entry_length.ensures in
    held_more _ _ _ _ _ _ _ _ _ c.loop-entry.invariant _ _ s.1.0 s.1.1 _ _ ok.0 ok.1 s.0

pub returns-then-all_zero : goal.returns-then-all_zero
returns-then-all_zero g c =
    let s = (c.in-None.ensures).steps in
    let h = held_last _ _ _ _ _ _ _ _ _ c.loop-entry.invariant s.1.0 in
    let rest = take_rest c.args.body.now c.loop-entry.offset in
    let last = c.all_zero-then-all_zero.ensures in
    elim c.if-offset-used.branch [
      | then-offset-used w ↦ record { yes = λ t. h.1 (w.if-offset-used.true, search rules, subst Zeros rest (last.yes t)); no = λ ok. last.no (subst Zeros (sym rest) (h.0 ok).2) }
      | else-offset-used w ↦ search rules
    ]

pub returns-else-all_zero : goal.returns-else-all_zero
returns-else-all_zero g c =
    let s = (c.in-None.ensures).steps in
    let h = held_last _ _ _ _ _ _ _ _ _ c.loop-entry.invariant s.1.0 in
    search rules
