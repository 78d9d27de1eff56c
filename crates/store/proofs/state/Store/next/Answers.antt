use Rattle.std.proofs.Common.{rules}
use Rattle.records.specs.Refusals.{untold}
use Rattle.store.specs.Model.{model}
use Rattle.store.specs.Readings.{token_tests}
use Rattle.store.proofs.Standing.{due_stands, due_in_text}
use Rattle.store.proofs.Testing.{stopped_change}
use Rattle.store.proofs.state.Store.next.Goals as goal

pub give-requires : goal.give-requires
give-requires g c =
    let w = g.D.Kind.Key.WIDE in
    let s = model g.D.Device g.D.Kind.Key.bytes c.args.self.now in
    (search rules, due_stands w s c.args.token c.in-Ok-Some.place (rw c.in-Ok-Some.field-0-is at c.in-Ok-Some.ensures))

pub returns-in-Ok-Some-clause-text : goal.returns-in-Ok-Some-clause-text
returns-in-Ok-Some-clause-text g c = due_in_text g.D.Kind.Key.WIDE (model g.D.Device g.D.Kind.Key.bytes c.args.self.now) c.args.token g.met.D.Kind.Fingerprint.some

pub returns-in-Ok-None-clause-text : goal.returns-in-Ok-None-clause-text
returns-in-Ok-None-clause-text g c = due_in_text g.D.Kind.Key.WIDE (model g.D.Device g.D.Kind.Key.bytes c.args.self.now) c.args.token g.met.D.Kind.Fingerprint.some

pub returns-in-Err-clause-text : goal.returns-in-Err-clause-text
returns-in-Err-clause-text g c = due_in_text g.D.Kind.Key.WIDE (model g.D.Device g.D.Kind.Key.bytes c.args.self.now) c.args.token g.met.D.Kind.Fingerprint.some

pub returns-in-Err-clause-buffer : goal.returns-in-Err-clause-buffer
returns-in-Err-clause-buffer g c =
    let w = g.D.Kind.Key.WIDE in
    let s = model g.D.Device g.D.Kind.Key.bytes c.args.self.now in
    stopped_change untold (token_tests w s c.args.token) _ c.in-Err.refusal c.args.buffer.now _ c.in-Err.ensures
