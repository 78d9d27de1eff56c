use Rattle.std.proofs.Common.{◌≡◌, ◌==◌, length, ap, ◌∙◌, inl, rules, tests, arith}
use Rattle.std.specs.List.{position_from}
use Rattle.std.specs.Option.{option_map}
use Rattle.std.proofs.lemmas.Iterator.Adapters.{position_from-zero}
use Rattle.std.proofs.lemmas.Iterator.Consumers.{YieldsList-from_first, YieldsList-from_filter}
use Rattle.std.proofs.lemmas.Iterator.Search.{position_from_yields_List}
use Rattle.tape.specs.Log.{log_of}
use Rattle.tape.proofs.Entries.{length-log_of}
use Rattle.tape.specs.Reading.{entry_by}
use Rattle.tape.proofs.Chains.{entries_in, named, first_by}
use Rattle.tape.proofs.tape.Tape.first_in.Goals as goal

pub position-requires-clause-fits : goal.position-requires-clause-fits
position-requires-clause-fits g c =
    let w = g.F.Key.WIDE in
    let l = c.log.result in
    let source = ap (λ l. length (log_of w l.entries l.bytes.now)) c.filter.ensures.source ∙ length-log_of w l.entries l.bytes.now in
    let few = c.log.ensures.few in
    inl (omega arith)

pub returns : goal.returns
returns g c =
    let w = g.F.Key.WIDE in
    let es = log_of w c.log.result.entries c.log.result.bytes.now in
    let f = g.F.Key.bytes c.args.fingerprint in
    let source = ap (λ l. log_of w l.entries l.bytes.now) c.filter.ensures.source in
    let road = YieldsList-from_first (entry_by g.F.Key.bytes) (λ l. log_of w l.entries l.bytes.now) es source in
    let there : c.position.result ≡ position_from (named f) 0 (entries_in c.args.container es) =
    position_from_yields_List (named f) c.position.new.self _ c.position.result c.position.ensures.ran (YieldsList-from_filter _ (λ e. e.container == c.args.container) road c.filter.ensures.closure (λ x b q k. search (rules, tests))) (λ x b q k. search (rules, tests, g.met.F.Key.same))
    ∙ position_from-zero (named f) (entries_in c.args.container es) in
    let place : c.map.result ≡ option_map (λ i. record { container = c.args.container; index = i }) c.position.result = search (rules, tests) in
    first_by f c.args.container es _ (c.log.ensures.records c.args.container) c.position.result c.map.result there place
