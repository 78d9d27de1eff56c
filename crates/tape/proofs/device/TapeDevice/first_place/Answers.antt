use Rattle.std.proofs.Common.{length, None, refl, ◌∙◌, rules, tests, arith}
use Rattle.std.proofs.lemmas.Iterator.{YieldsList-from_range}
use Rattle.records.specs.Records.{place_among}
use Rattle.devices.specs.Questions.{records_of}
use Rattle.tape.specs.Meaning.{held_by}
use Rattle.tape.proofs.Firsts.{find_map_from_yields_List, first_over}
use Rattle.tape.proofs.device.TapeDevice.first_place.Goals as goal

pub returns : goal.returns
returns g c =
    let cs = held_by g.F.Key.WIDE c.args.self.now in
    let f = g.F.Key.bytes c.args.fingerprint in
    find_map_from_yields_List _ (λ c. c) _ (λ k. place_among f k 0 (records_of cs k) None) _ (λ x o q k. search (rules, tests)) _ _ _ c.find_map.result c.find_map.ensures.ran c.find_map.ensures.runs (YieldsList-from_range 0 c.count.result (length cs) refl (omega (arith, c.count.ensures))) ∙ first_over f cs
