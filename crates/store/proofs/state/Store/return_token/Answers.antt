use Rattle.records.specs.Refusals.{untold}
use Rattle.store.specs.Model.{model}
use Rattle.store.specs.Readings.{token_tests}
use Rattle.store.proofs.Testing.{stopped_change}
use Rattle.store.proofs.state.Store.return_token.Goals as goal

pub returns-in-Err-clause-after : goal.returns-in-Err-clause-after
returns-in-Err-clause-after g c =
    let w = g.D.Kind.Key.WIDE in
    let s = model g.D.Device g.D.Kind.Key.bytes c.args.self.now in
    stopped_change untold (token_tests w s c.args.token) _ c.in-Err.refusal s _ c.in-Err.ensures
