use Rattle.std.proofs.Common.{◌≡◌, ◌≤◌, length, vec_items, sym, ap, ◌∙◌, arith}
use Rattle.std.proofs.lemmas.Bool.{and_from, eq-eqb}
use Rattle.tape.specs.Sizes.{tape_size}
use Rattle.tape.proofs.Gathered.{gathered_none}
use Rattle.tape.proofs.Keeping.{good_empty}
use Rattle.tape.proofs.Tapes.{sized_alike, countable_few}
use Rattle.tape.specs.Holding.{held_same}
use Rattle.tape.proofs.tape.Tape.lay_out.Goals as goal

pub invariant_of-result : goal.invariant_of-result
invariant_of-result g c =
    let s = sized_alike c.args.n _ _ _ c.tape_size.ensures c.if-ne.ensures in
    let w = c.WIDE.ensures in
    let narrow : c.WIDE.result ≤ 20 = (let t = g.met.F.Key.narrow in omega arith) in
    let long : length (vec_items c.args.bytes) ≡ tape_size g.F.Key.WIDE c.args.n = sym c.args.bytes.ok.0 ∙ sym c.len.ensures ∙ s.1 in
    record { good = ∣ good_empty c.WIDE.result c.args.n (vec_items c.args.bytes) narrow (countable_few c.args.n s.0) (long ∙ ap (λ x. tape_size x c.args.n) (sym w)) ∣₁ }

pub returns : goal.returns
returns g c =
    let s = sized_alike c.args.n _ _ _ c.tape_size.ensures c.if-ne.ensures in
    record {
      answer = sym (and_from _ _ s.0 (eq-eqb _ _ (sym c.len.ensures ∙ s.1)));
      empty = held_same g.F.Key.WIDE c.WIDE.result c.args.n 0 (vec_items c.args.bytes) c.WIDE.ensures ∙ gathered_none c.args.n;
    }
