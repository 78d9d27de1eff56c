use Rattle.std.proofs.Common.{lit<, set, None, ap, ◌∙◌}
use Rattle.records.specs.Refusals.{untold}
use Rattle.store.specs.Model.{model}
use Rattle.store.specs.States.{keeping}
use Rattle.store.specs.Keeping.{drop_tests}
use Rattle.store.proofs.Testing.{handed_on, passed, passed_value, passed_change, stopped, stopped_change}
use Rattle.store.proofs.state.Store.drop_sheet.Goals as goal

pub returns-in_err-entry : goal.returns-in_err-entry
returns-in_err-entry g c =
    let s = model g.D.Device g.D.Kind.Key.bytes c.args.self.now in
    let ts = drop_tests s c.args.name.now in
    let e = c.in_err-entry.field-0.0 in
    let h = c.in_err-entry.ensures in
    record { answer = handed_on _ e c.from_residual.ensures.1 ∙ stopped untold ts _ e _ h; after = stopped_change untold ts _ e s _ h }

pub returns : goal.returns
returns g c =
    let s = model g.D.Device g.D.Kind.Key.bytes c.args.self.now in
    let ts = drop_tests s c.args.name.now in
    let h = c.in_ok-entry.ensures in
    record {
      answer = passed untold ts _ c.in_ok-entry.entry _ h;
      after =
          ap (keeping s) (c.put.ensures.counted (lit< tt) ∙ ap (λ i. set s.sheets i None) (passed_value untold ts _ c.in_ok-entry.entry h))
          ∙ passed_change untold ts _ c.in_ok-entry.entry s _ h;
    }
