use Rattle.std.proofs.Common.{List, sym, ◌∙◌, subst}
use Rattle.keys.specs.Little.{equal_keys}
use Rattle.slots.specs.declared.slot.Slot.{Slot}
use Rattle.slots.specs.Walks.{keys_of}
use Rattle.slots.specs.Tables.{Inserted}
use Rattle.slots.proofs.Walking.{inserted_slots}
use Rattle.slots.proofs.Cells.{put_none}
use Rattle.slots.proofs.table.insert.Goals as goal

pub returns-in-Free-clause-meaning : goal.returns-in-Free-clause-meaning
returns-in-Free-clause-meaning g c =
    let k = g.K.Key in
    inserted_slots k.bytes (equal_keys k.bytes k.key g.met.K.Key.back) c.args.key c.args.slots.now _ (sym c.in-Free.is ∙ c.probe_for-met.ensures.answer)

pub returns-in_default : goal.returns-in_default
returns-in_default g c =
    let k = g.K.Key in
    let xs = c.args.slots.now in
    let r = c.probe_for-met.result in
    let done = inserted_slots k.bytes (equal_keys k.bytes k.key g.met.K.Key.back) c.args.key xs r c.probe_for-met.ensures.answer in
    let e = put_none r c.args.key xs c.in_default.not-Free in
    record { after = e; meaning = subst (λ (ys : List (Slot g.row.K.Denot)). Inserted k.bytes c.args.key (keys_of xs) r (keys_of ys)) (sym e) done }
