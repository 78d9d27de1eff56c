use Rattle.std.proofs.Common.{◌∷◌, length, sym, refl, subst, ap, ◌∙◌, rules, arith}
use Rattle.tape.specs.Log.{Logged, log_of}
use Rattle.tape.proofs.Fronts.{front_space, cut_of, log_next, logged_next, tail_space, rest_is, fingerprint_is, entry_is}
use Rattle.tape.proofs.reading.LogIterator.next.Goals as goal

pub split_at-requires : goal.split_at-requires
split_at-requires g c = let s = front_space _ _ _ _ c.in_ok-others.ensures c.args.self.now.logged in omega arith

pub returns-in_err-head-clause-steps : goal.returns-in_err-head-clause-steps
returns-in_err-head-clause-steps g c = let h = c.in_err-head.ensures.cases in let n = c.split_at.ensures.front_len in absurd (omega arith)

pub split_at-requires-2 : goal.split_at-requires-2
split_at-requires-2 g c =
    let w = c.WIDE.ensures in
    let s = front_space _ _ _ _ c.in_ok-others.ensures c.args.self.now.logged in
    let h = cut_of _ _ _ _ c.in_ok-others.ensures c.args.self.now.logged _ _ _ c.split_at.ensures.front c.split_at.ensures.back c.in_ok-head.ensures.cases.same in
    let t = h.2 in
    omega arith

pub split_at-requires-3 : goal.split_at-requires-3
split_at-requires-3 g c =
    let l = c.args.self.now.logged in
    let h = cut_of _ _ _ _ c.in_ok-others.ensures l _ _ _ c.split_at.ensures.front c.split_at.ensures.back c.in_ok-head.ensures.cases.same in
    let cut = c.split_at-2.ensures in
    tail_space _ _ _ _ c.in_ok-others.ensures l _ _ _ _ h _ c.WIDE.ensures cut.front cut.back _ (c.from-len.ensures ∙ c.from_le_bytes.ensures)

pub invariant_of-self : goal.invariant_of-self
invariant_of-self g c =
    let l = c.args.self.now.logged in
    let h = cut_of _ _ _ _ c.in_ok-others.ensures l _ _ _ c.split_at.ensures.front c.split_at.ensures.back c.in_ok-head.ensures.cases.same in
    let cut = c.split_at-2.ensures in
    let rest = rest_is _ _ _ _ c.in_ok-others.ensures l _ _ _ _ h _ c.WIDE.ensures cut.front cut.back _ (c.from-len.ensures ∙ c.from_le_bytes.ensures) _ c.split_at-3.ensures.back in
    record { logged = ∣ subst (Logged g.F.Key.WIDE c.in_ok-others.others) (sym rest) (logged_next _ _ _ _ c.in_ok-others.ensures l) ∣₁ }

pub returns-clause-steps : goal.returns-clause-steps
returns-clause-steps g c =
    let l = c.args.self.now.logged in
    let h = cut_of _ _ _ _ c.in_ok-others.ensures l _ _ _ c.split_at.ensures.front c.split_at.ensures.back c.in_ok-head.ensures.cases.same in
    let cut = c.split_at-2.ensures in
    let len = c.from-len.ensures ∙ c.from_le_bytes.ensures in
    let rest = rest_is _ _ _ _ c.in_ok-others.ensures l _ _ _ _ h _ c.WIDE.ensures cut.front cut.back _ len _ c.split_at-3.ensures.back in
    let fingerprint = fingerprint_is _ _ _ _ c.in_ok-others.ensures l _ _ _ _ h _ c.WIDE.ensures cut.front cut.back _ len g.F.Key.bytes g.F.Key.key g.met.F.Key.any _ c.in_ok-fingerprint.ensures in
    let entry = entry_is _ _ _ _ c.in_ok-others.ensures l _ _ _ _ h _ c.WIDE.ensures cut.front cut.back _ len _ _ _ _ c.from.ensures refl fingerprint c.split_at-3.ensures.front in
    log_next _ _ _ _ c.in_ok-others.ensures l ∙ (λ i. entry i ∷ log_of g.F.Key.WIDE c.in_ok-others.others (sym rest i))

pub returns-clause-goes : goal.returns-clause-goes
returns-clause-goes g c = let shorter = ap length (returns-clause-steps g c) in search rules
