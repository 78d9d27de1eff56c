use Rattle.std.proofs.Common.{◌≡◌, cond, ◌==◌, vec_items, sym, ap, ◌∙◌, arith}
use Rattle.std.proofs.lemmas.Bool.{eq-eqb, ne_eqb}
use Rattle.tape.specs.Log.{log_of}
use Rattle.tape.proofs.Entries.{count_size, length-log_of}
use Rattle.tape.proofs.Views.{LogSeen, log_seen}
use Rattle.tape.proofs.tape.Tape.log.Given as given
use Rattle.tape.proofs.tape.Tape.log.Goals as goal
use Rattle.tape.proofs.tape.Tape.log.Goals.{After-deref, then-self-WIDE, else-self-WIDE}

seen : (g : given.Over) (c : goal.After-deref g) → let t = c.args.self.now in LogSeen g.F.Key.WIDE t.width t.containers t.entries c.if-self-WIDE.entries (vec_items t.bytes) c.deref.result.now
seen g c =
    let t = c.args.self.now in
    let entries : c.if-self-WIDE.entries ≡ cond (t.width == g.F.Key.WIDE) t.entries 0 = elim c.if-self-WIDE.branch [
      | then-self-WIDE w ↦ w.entries-is ∙ sym (ap (λ b. cond b t.entries 0) (eq-eqb t.width g.F.Key.WIDE (w.if-self-WIDE.true ∙ c.WIDE.ensures)))
      | else-self-WIDE w ↦ w.entries-is ∙ sym (ap (λ b. cond b t.entries 0) (ne_eqb t.width g.F.Key.WIDE (λ e. w.if-self-WIDE.false (e ∙ sym c.WIDE.ensures))))
    ] in
    log_seen _ _ _ _ _ _ _ _ t.good c.deref.ensures.value entries

pub invariant_of-result : goal.invariant_of-result
invariant_of-result g c = record { logged = ∣ (seen g c).logged ∣₁ }

pub returns-clause-few : goal.returns-clause-few
returns-clause-few g c =
    let k = (seen g (goal.at.returns-clause-few g c).After-deref).logged.space in
    let es = log_of g.F.Key.WIDE c.if-self-WIDE.entries c.deref.result.now in
    let n = length-log_of g.F.Key.WIDE c.if-self-WIDE.entries c.deref.result.now in
    let m = count_size g.F.Key.WIDE es in
    let t = c.deref.type_inv in
    omega arith

pub returns-clause-records : goal.returns-clause-records
returns-clause-records g c = (seen g (goal.at.returns-clause-records g c).After-deref).records
