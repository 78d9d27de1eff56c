use Rattle.std.proofs.Common.{◌≡◌, ap, ◌∙◌, ltb, rules}
use Rattle.slots.specs.Walks.{keys_of, is_found, looked}
use Rattle.slots.proofs.Walking.{met_is, looked_reached, made_reached}
use Rattle.slots.proofs.table.lookup.Goals as goal

pub returns-then-count-gt0-clause-exact : goal.returns-then-count-gt0-clause-exact
returns-then-count-gt0-clause-exact g c =
    λ s h. c.is_found.ensures ∙ ap is_found c.probe_for.ensures.answer ∙ met_is g.K.Key.bytes c.args.key (keys_of c.args.slots.now) s

pub returns-then-count-gt0-clause-since : goal.returns-then-count-gt0-clause-since
returns-then-count-gt0-clause-since g c =
    λ ks made h. c.is_found.ensures ∙ ap is_found c.probe_for.ensures.answer ∙ made_reached g.K.Key.bytes ks (keys_of c.args.slots.now) made c.args.key

pub returns-else-count-gt0 : goal.returns-else-count-gt0
returns-else-count-gt0 g c =
    let b = g.K.Key.bytes in
    let k = c.args.key in
    let n = c.args.count in
    let xs = keys_of c.args.slots.now in
    let e : ltb 0 n ≡ looked b n xs k = search rules in
    record {
      answer = e;
      walk = λ h. e ∙ looked_reached b k n xs h;
      exact = λ s h. e ∙ looked_reached b k n xs h ∙ met_is b k xs s;
      since = λ ks made h. e ∙ looked_reached b k n xs h ∙ made_reached b ks xs made k;
    }
