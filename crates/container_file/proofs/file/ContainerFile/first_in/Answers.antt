use Rattle.std.proofs.Common.{◌≡◌, ℕ, ◌<◌, true, false, length, get_or, refl, ap, ◌∙◌, rules}
use Rattle.std.specs.Option.{option_map}
use Rattle.std.specs.declared.ops.Range.{Range}
use Rattle.std.proofs.lemmas.Iterator.{first_from_Range}
use Rattle.keys.specs.Octets.{same_bytes}
use Rattle.records.specs.Records.{no_record}
use Rattle.records.specs.declared.refusal.Place.{Place}
use Rattle.devices.specs.Questions.{records_of}
use Rattle.container_file.specs.Meaning.{contents_of}
use Rattle.container_file.specs.Held.{held-file}
use Rattle.container_file.proofs.Searching.{found_among, told_yes, told_no}
use Rattle.container_file.proofs.file.ContainerFile.first_in.Goals as goal

pub returns : goal.returns
returns g c =
    let w = g.F.Key.WIDE in
    let s = c.args.self.now in
    let name = g.F.Key.bytes c.args.fingerprint in
    let cs = contents_of w s in
    let rs = records_of cs c.args.container in
    let n = c.in_ok-header.header.records in
    let h = c.in_ok-header.ensures in
    let at : ℕ → Place = λ i. record { container = c.args.container; index = i } in
    let range : Range ℕ = record { start = 0; end = n } in
    let long : n ≡ length rs = (h.1).records ∙ ap (λ k. length (records_of cs k)) h.0 in
    let placed : c.map.result ≡ option_map at c.find.result = search rules in
    let first = first_from_Range range _ _ c.find.result (λ i. same_bytes (get_or rs i no_record).fingerprint name ≡ true) (λ i. i < length rs → same_bytes (get_or rs i no_record).fingerprint name ≡ false) c.find.ensures.ran
    (λ x q e. told_yes g.F.Key.bytes g.F.Key.key g.F.PartialEq.eq w g.met.F.Key.any g.met.F.Key.same cs (at x) c.args.fingerprint (held-file w s) true refl (search rules))
    (λ x q e. (search rules, told_no g.F.Key.bytes g.F.Key.key g.F.PartialEq.eq w g.met.F.Key.any g.met.F.Key.same cs (at x) c.args.fingerprint (held-file w s) false refl (search rules))) in
    placed ∙ found_among name c.args.container rs n c.find.result long first
