use Rattle.std.proofs.Common.{◌≡◌, ◌∙◌, length, take, sym, ap, arith}
use Rattle.bloom.specs.Bits.{place, with_bits}
use Rattle.bloom.proofs.Places.{bits_set}
use Rattle.bloom.proofs.bits.set_bits.Goals as goal

pub returns-after-loop-seed : goal.returns-after-loop-seed
returns-after-loop-seed g c =
    let key = g.K.Key.bytes c.args.key in
    let served = take c.used_bytes-long.result c.args.bytes.now in
    let four : c.loop-seed.seed ≡ 4 = omega arith in
    let set = c.loop-seed.invariant ∙ ap (λ n. with_bits (place key (length served)) n served) four in
    bits_set key c.args.bytes.now c.used_bytes-long.result c.used_bytes-long.ensures.value (sym c.if-not-is_empty.true ∙ c.is_empty.ensures) c.loop-seed.served set
