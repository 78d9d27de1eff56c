use Rattle.std.proofs.Common.{◌≡◌, List, set, sym, ap, ◌∙◌, subst, rules}
use Rattle.std.proofs.lemmas.List.Edits.{map_over_more}
use Rattle.std.proofs.lemmas.List.{take_all, drop_all}
use Rattle.slots.specs.declared.slot.Slot.{Slot}
use Rattle.slots.specs.Marks.{plain, unmarked, NoMarks}
use Rattle.slots.proofs.Marks.{no_marks}
use Rattle.slots.proofs.marking.unmark.Goals as goal

pub loop-slot-preserved : goal.loop-slot-preserved
loop-slot-preserved g c =
    let l = c.loop-slot in
    let e = c.without_mark.ensures ∙ ap plain (sym c.slot-item.is) in
    ap (λ y. set l.slot-items l.slot-index y) e
    ∙ map_over_more plain c.args.slots.now l.slot-items l.slot-index c.slot-item.result c.loop-slot-test.true l.invariant c.slot-item.is

pub returns-clause-meaning : goal.returns-clause-meaning
returns-clause-meaning g c =
    let xs = c.args.slots.now in
    let e : c.loop-slot.slot-items ≡ unmarked xs = search (rules, take_all, drop_all) in
    subst (λ (ys : List (Slot g.row.K.Denot)). NoMarks g.K.Key.bytes xs ys) (sym e) (no_marks g.K.Key.bytes xs)
