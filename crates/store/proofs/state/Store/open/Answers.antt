use Rattle.std.proofs.Common.{◌+◌, Ok, ap, ◌∙◌, ap₂, arith}
use Rattle.records.specs.Refusals.{untold}
use Rattle.store.specs.Model.{model}
use Rattle.store.specs.States.{State, keeping}
use Rattle.store.specs.Readings.{recounted, out_at, open_tests}
use Rattle.store.proofs.Opened.{opened_few}
use Rattle.store.proofs.Testing.{passed, passed_value, passed_change, stopped_change}
use Rattle.store.proofs.state.Store.open.Goals as goal

pub returns-in_err-entry-clause-after : goal.returns-in_err-entry-clause-after
returns-in_err-entry-clause-after g c =
    let s = model g.D.Device g.D.Kind.Key.bytes c.args.self.now in
    stopped_change untold (open_tests s c.args.name.now) _ c.in_err-entry.field-0.0 s _ c.in_err-entry.ensures

pub overflow_add-readings : goal.overflow_add-readings
overflow_add-readings g c =
    let s = model g.D.Device g.D.Kind.Key.bytes c.args.self.now in
    let few = opened_few s c.args.name.now c.in_ok-entry.entry c.readings-readings.result c.in_ok-entry.ensures c.readings-readings.ensures in
    omega arith

pub returns : goal.returns
returns g c =
    let s = model g.D.Device g.D.Kind.Key.bytes c.args.self.now in
    let ts = open_tests s c.args.name.now in
    let h = c.in_ok-entry.ensures in
    let v = passed_value untold ts _ c.in_ok-entry.entry h in
    record {
      answer = ap Ok c.token_at_start.ensures ∙ ap₂ (λ n i. Ok (record { number = n; sheet = i; position = 0 })) (ap (λ (t : State). t.number) c.recount.ensures) v ∙ passed untold ts _ c.in_ok-entry.entry _ h;
      after =
          c.recount.ensures
          ∙ ap₂ (λ n i. keeping s (recounted (n + 1) s.sheets i)) (c.readings-readings.ensures ∙ ap (out_at s.sheets) v) v
          ∙ passed_change untold ts _ c.in_ok-entry.entry s _ h;
    }
