use Rattle.std.proofs.Common.{◌≡◌, ◌^◌, ap, ◌∙◌, arith}
use Rattle.trees.specs.Cursor.{span}
use Rattle.walks.proofs.Down.{span_pow, span_small}
use Rattle.walks.proofs.cursor.Height.span.Goals as goal

pub pow-requires : goal.pow-requires
pow-requires c =
    let is : 64 ^ c.from.result ≡ span c.args.self.level = ap (λ n. 64 ^ n) c.from.ensures ∙ span_pow c.args.self.level in
    omega (arith, is, span_small c.args.self.level c.args.self.low)

pub returns : goal.returns
returns c = c.pow.ensures ∙ ap (λ n. 64 ^ n) c.from.ensures ∙ span_pow c.args.self.level
