use Rattle.std.proofs.Common.{◌≡◌, ◌==◌, ap, rules, tests}
use Rattle.std.specs.Option.{option_map}
use Rattle.std.specs.List.{slice_get}
use Rattle.std.proofs.lemmas.Iterator.Consumers.{YieldsList-from_first, YieldsList-from_filter, nth_from_yields_List}
use Rattle.tape.specs.Log.{log_of}
use Rattle.tape.specs.Reading.{entry_by}
use Rattle.tape.proofs.Chains.{entries_in, found_by}
use Rattle.tape.proofs.tape.Tape.find.Goals as goal

pub returns : goal.returns
returns g c =
    let w = g.F.Key.WIDE in
    let es = log_of w c.log.result.entries c.log.result.bytes.now in
    let source = ap (λ l. log_of w l.entries l.bytes.now) c.filter.ensures.source in
    let road = YieldsList-from_first (entry_by g.F.Key.bytes) (λ l. log_of w l.entries l.bytes.now) es source in
    let there : option_map (entry_by g.F.Key.bytes) c.nth.result ≡ slice_get (entries_in c.args.place.container es) c.args.place.index =
    nth_from_yields_List c.nth.result c.nth.new.self c.args.place.index c.nth.ensures.ran (YieldsList-from_filter _ (λ e. e.container == c.args.place.container) road c.filter.ensures.closure (λ x b q k. search (rules, tests))) in
    let stored : c.map.result ≡ option_map (λ e. e.stored) c.nth.result = search (rules, tests) in
    found_by g.F.Key.bytes c.args.place.container c.args.place.index es _ (c.log.ensures.records c.args.place.container) c.nth.result c.map.result c.ok_or.result there stored c.ok_or.ensures.value
