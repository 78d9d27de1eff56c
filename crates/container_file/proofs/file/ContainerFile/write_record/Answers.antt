use Rattle.std.proofs.Common.{◌≡◌, ◌+◌, ◌*◌, [], ◌∷◌, ◌++◌, length, get_or, set, vec_items, sym, ap, ◌∙◌, subst, rules}
use Rattle.records.specs.Limits.{Typed}
use Rattle.records.specs.Records.{Rec, rec_of, payload_bytes}
use Rattle.devices.specs.Questions.{records_of}
use Rattle.container_format.specs.Checking.{Intact}
use Rattle.container_format.specs.Reading.{read_file}
use Rattle.container_format.proofs.Round.{length-payloads}
use Rattle.container_format.specs.Writing.{written}
use Rattle.container_file.specs.Meaning.{contents_of}
use Rattle.container_file.proofs.Headers.{intact_at, contents_at, changed}
use Rattle.container_file.proofs.Writes.{Known, intact_four}
use Rattle.container_file.proofs.file.ContainerFile.write_record.Given as given
use Rattle.container_file.proofs.file.ContainerFile.write_record.Goals as goal
use Rattle.container_file.proofs.file.ContainerFile.write_record.Goals.{After-put-3, at-returns}

known : (g : given.Over) (c : goal.After-put-3 g) → let s = c.args.self.now in let h = c.args.header in
    Known g.F.Key.WIDE s.count h.container h.base (h.base + (16 + h.records * c.entry_size.result)) h.records h.used (vec_items s.bytes) (rec_of g.F.Key.bytes c.args.added) c.entry_tail-tail.result c.header_bytes-head.result
known g c =
    let w = g.F.Key.WIDE in
    let s = c.args.self.now in
    let h = c.requires.here in
    let r : Rec = rec_of g.F.Key.bytes c.args.added in
    let rs = get_or (read_file w s.count (vec_items s.bytes)) c.args.header.container [] in
    let same : records_of (contents_of w s) c.args.header.container ≡ rs = ap (λ cs. get_or cs c.args.header.container []) (contents_at w s h.width) in
    let fit = c.requires.storable in
    let room = c.requires.takes in
    let typed : Typed w r = record { wide = g.met.F.Key.long c.args.added.fingerprint; fingerprint = g.met.F.Key.octets c.args.added.fingerprint; payload = c.put.ensures.octets } in
    record {
      good = intact_at w s h.width;
      here = h.container;
      based = h.base;
      counted = h.records ∙ ap length same;
      summed = h.used ∙ ap payload_bytes same ∙ sym (length-payloads rs);
      one = search rules;
      space = search rules;
      new = record { typed = typed; level = search rules; some = search rules; few = search rules };
      placed = ap (λ k. c.args.header.base + (16 + c.args.header.records * k)) c.entry_size.ensures;
      tailed = c.entry_tail-tail.ensures;
      headed = c.header_bytes-head.ensures;
    }

added : (g : given.Over) (c : goal.After-put-3 g) → let s = c.args.self.now in let after = vec_items c.put-3.new.bytes in let cs = read_file g.F.Key.WIDE s.count (vec_items s.bytes) in
    Intact g.F.Key.WIDE s.count after × (read_file g.F.Key.WIDE s.count after ≡ set cs c.args.header.container (get_or cs c.args.header.container [] ++ rec_of g.F.Key.bytes c.args.added ∷ []))
added g c = intact_four _ _ _ _ _ _ _ _ _ _ _ (known g c) _ _ _ _ (c.put.ensures.after ∙ ap (λ k. written (c.args.header.base + (k + c.args.header.used)) c.args.added.payload.now (vec_items c.args.self.now.bytes)) c.body_at.ensures) c.put_key.ensures.after (c.put-2.ensures.after ∙ ap (λ k. written (c.args.header.base + (16 + c.args.header.records * c.entry_size.result) + k) c.entry_tail-tail.result (vec_items c.put_key.new.bytes)) c.WIDE.ensures) c.put-3.ensures.after

pub invariant_of-self : goal.invariant_of-self
invariant_of-self g c =
    let s = c.args.self.now in
    record { few = s.few; narrow = s.narrow; intact = ∣ subst (λ v. Intact v s.count (vec_items c.put-3.new.bytes)) (sym c.requires.here.width) (added g c).0 ∣₁ }

pub returns : goal.returns
returns g c =
    let s = c.args.self.now in
    changed g.F.Key.WIDE s.width s.count c.args.header.container (vec_items s.bytes) (vec_items c.put-3.new.bytes) (λ rs. rs ++ rec_of g.F.Key.bytes c.args.added ∷ []) c.requires.here.width (added g (goal.at-returns g c).After-put-3).1
