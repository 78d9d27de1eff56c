use Rattle.std.proofs.Common.{◌∙◌, length, take, sym, refl, rules, tests}
use Rattle.std.proofs.lemmas.Iterator.{YieldsList-from_range}
use Rattle.std.proofs.lemmas.Iterator.Search.{all_from_yields_List}
use Rattle.bloom.specs.Bits.{place, is_set}
use Rattle.bloom.proofs.Places.{four_tests, bits_say}
use Rattle.bloom.proofs.bits.has_bits.Goals as goal

pub returns-else-is_empty : goal.returns-else-is_empty
returns-else-is_empty g c =
    let key = g.K.Key.bytes c.args.key in
    let bs = c.args.bytes.now in
    let served = take c.used_bytes.result bs in
    let all = all_from_yields_List (λ s. is_set served (place key (length served) s)) _ _ c.all.result c.all.ensures.ran (YieldsList-from_range 0 4 4 refl refl) (λ x b q k. search (rules, tests)) in
    bits_say key bs c.used_bytes.result c.used_bytes.ensures.value (sym c.if-is_empty.false ∙ c.is_empty.ensures) c.all.result (all ∙ four_tests (place key (length served)) served)
