use Rattle.std.proofs.Common.{refl, ap, ◌∙◌, arith}
use Rattle.devices.proofs.Holding.{few_records}
use Rattle.tape.specs.Log.{log_of, records_in}
use Rattle.tape.specs.Meaning.{held_by}
use Rattle.tape.specs.Holding.{held-held}
use Rattle.tape.proofs.Chains.{bytes_fit}
use Rattle.tape.proofs.Counts.{counted_none, counted_space, counted_here, counted_other, counted_all}
use Rattle.tape.proofs.tape.Tape.tally.Goals as goal

pub loop-entry-init : goal.loop-entry-init
loop-entry-init g c =
    counted_none c.args.container _ _ (ap (λ l. records_in c.args.container (log_of g.F.Key.WIDE l.entries l.bytes.now)) c.into_iter-entry-iterator.ensures.into_iter_gives ∙ c.log-entry-items.ensures.records c.args.container)

pub overflow_add-records : goal.overflow_add-records
overflow_add-records g c =
    let t = c.args.self.now in
    let few = few_records g.F.Key.WIDE (held_by g.F.Key.WIDE t) c.args.container (held-held _ _ _ _ _ _ t.good) in
    let s = counted_space _ _ _ _ _ c.loop-entry.invariant _ _ c.in-Some.ensures.steps c.if-entry-container.true in
    omega arith

pub overflow_add-payload : goal.overflow_add-payload
overflow_add-payload g c =
    let t = c.args.self.now in
    let few = bytes_fit g.F.Key.WIDE (held_by g.F.Key.WIDE t) c.args.container (held-held _ _ _ _ _ _ t.good) in
    let s = counted_space _ _ _ _ _ c.loop-entry.invariant _ _ c.in-Some.ensures.steps c.if-entry-container.true in
    omega arith

pub loop-entry-preserved-then-entry-container : goal.loop-entry-preserved-then-entry-container
loop-entry-preserved-then-entry-container g c = counted_here _ _ _ _ _ c.loop-entry.invariant _ _ c.in-Some.ensures.steps _ _ c.if-entry-container.true refl refl

pub loop-entry-preserved : goal.loop-entry-preserved
loop-entry-preserved g c = counted_other _ _ _ _ _ c.loop-entry.invariant _ _ c.in-Some.ensures.steps _ _ c.if-entry-container.false refl refl

pub returns : goal.returns
returns g c = let all = counted_all _ _ _ _ _ c.loop-entry.invariant c.in-None.ensures.steps.0 in record { records = all.0; payload = all.1 }
