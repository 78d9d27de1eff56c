use Rattle.std.proofs.Common.{◌≡◌, ◌/◌, length, ap, ◌∙◌, arith, rules}
use native.Mathlib.Nat.{mul-div_left}
use Rattle.container_format.specs.Layout.{container_size}
use Rattle.container_format.specs.Checking.{ContainerOk}
use Rattle.container_format.proofs.Chunks.{chunks_told}
use Rattle.container_format.proofs.Whole.{from_each, to_each}
use Rattle.container_format.proofs.acceptance.containers_in_order.Goals as goal

pub returns : goal.returns
returns g c =
    let w = g.F.Key.WIDE in
    let S = container_size w in
    let bs = c.args.bytes.now in
    let count : length bs / S ≡ c.args.count = ap (λ k. k / S) c.requires ∙ mul-div_left c.args.count (omega arith) in
    let t = chunks_told S bs _ _ _ (ContainerOk w) _ (omega arith) c.chunks_exact.ensures.rest (c.chunks_exact.ensures.size ∙ c.container_size.ensures) c.chunks_exact.ensures.runs c.all.ensures.runs (search rules) (λ x h. search rules) (λ x h. search rules) in
    record { yes = λ r. from_each w c.args.count bs (λ k l. t.0 r k (omega (arith, count))); no = λ ok. t.1 (to_each w c.args.count bs c.requires ok) }
