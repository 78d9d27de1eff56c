-- What the header of a container says, and what a change of its bytes does to what the file holds.
use Rattle.std.proofs.Common.{◌≡◌, ℕ, ◌+◌, ◌*◌, ◌<◌, ◌≤◌, cond, List, [], length, get_or, take, drop, set, vec_items, ◌==◌, sym, ap, ◌∙◌, subst, arith}
use Rattle.std.proofs.lemmas.Nat.{mul-le}
use Rattle.keys.specs.Octets.{number}
use Rattle.records.specs.Records.{Rec, payload_bytes}
use Rattle.records.specs.declared.refusal.Place.{Place}
use Rattle.devices.specs.Questions.{records_of}
use Rattle.container_format.specs.Layout.{container_size}
use Rattle.container_format.specs.Reading.{read_file}
use Rattle.container_format.specs.Checking.{Intact}
use Rattle.container_format.proofs.Files.{around, intact_header, intact_space}
use Rattle.container_format.proofs.Round.{length-payloads}
use Rattle.container_file.specs.Meaning.{contents_of, read_as, EntryAt, Headed}
use Rattle.container_file.specs.Held.{held_at, held_here, intact, records_same, found_entry}
use Rattle.container_file.specs.declared.file.ContainerFile.{ContainerFile}
use Rattle.container_file.specs.declared.header.Header.{Header}

module _ {F : Type 0} (w : ℕ) (s : ContainerFile F) where
  pub intact_at : s.width ≡ w → Intact w s.count (vec_items s.bytes)
  intact_at e = subst (λ v. Intact v s.count (vec_items s.bytes)) e (intact w s)

  pub contents_at : s.width ≡ w → contents_of w s ≡ read_file w s.count (vec_items s.bytes)
  contents_at e = held_at w s.width s.count (vec_items s.bytes) e

  pub headed : (c base records used : ℕ) → c < length (contents_of w s) → base ≡ c * container_size w → records ≡ number (take 2 (drop base (vec_items s.bytes))) → used ≡ number (take 2 (drop (base + 2) (vec_items s.bytes))) → Headed w s (record { container = c; base = base; records = records; used = used })
  headed c base records used there b r u =
      let here = held_here w s c there in
      let bs = vec_items s.bytes in
      let good = intact_at here.0 in
      let h = intact_header w s.count c bs good here.1 in
      let few = (around w s.count c bs good here.1).stored.fits in
      let rs : records_of (contents_of w s) c ≡ get_or (read_file w s.count bs) c [] = ap (λ cs. get_or cs c []) (contents_at here.0) in
      let k : records ≡ length (records_of (contents_of w s) c) = r ∙ ap (λ m. number (take 2 (drop m bs))) b ∙ h.0 ∙ sym (ap length rs) in
      let p : used ≡ payload_bytes (records_of (contents_of w s) c) = u ∙ ap (λ m. number (take 2 (drop (m + 2) bs))) b ∙ h.1 ∙ length-payloads (get_or (read_file w s.count bs) c []) ∙ sym (ap payload_bytes rs) in
      let a = few.count in
      let d = few.bytes in
      let narrow = good.narrow in
      let many = good.few in
      let lr = ap length rs in
      let pr = ap payload_bytes rs in
      let space = intact_space w s.count c bs good here.1 in
      record {
        width = here.0;
        container = here.1;
        there = there;
        base = b;
        small = (let t = mul-le c (container_size w) 31 8948 (omega arith) (omega arith) in omega arith);
        inside = subst (λ m. m + container_size w ≤ length bs) (sym b) space;
        records = k;
        few = omega arith;
        used = p;
        bound = omega arith;
      }

  -- the entry of a record that is there
  pub entry_there : (h : Header) (p : Place) (at : ℕ) → h.container ≡ p.container → Headed w s h → p.index < h.records → at ≡ h.base + (16 + p.index * (w + 8)) → EntryAt w s p at
  entry_there h p at same k inside is =
      let e = k.width in
      let here : p.container < s.count = (let t = k.container in omega arith) in
      let rs : length (records_of (contents_of w s) h.container) ≡ length (get_or (read_as s) p.container []) = ap (λ c. length (records_of (contents_of w s) c)) same ∙ ap length (records_same w s p.container e) in
      let n = k.records in
      let b : h.base ≡ p.container * container_size s.width = k.base ∙ (λ i. same i * container_size (sym e i)) in
      found_entry w s p at e here (omega arith) (is ∙ (λ i. b i + (16 + p.index * (sym e i + 8))))

-- where the bytes read as if one container had changed, the file holds what it did but for this container
pub changed : (w v n c : ℕ) (bs after : List ℕ) (f : List Rec → List Rec) → v ≡ w → read_file w n after ≡ set (read_file w n bs) c (f (get_or (read_file w n bs) c [])) → cond (v == w) (read_file v n after) [] ≡ set (cond (v == w) (read_file v n bs) []) c (f (get_or (cond (v == w) (read_file v n bs) []) c []))
changed w v n c bs after f e h = held_at w v n after e ∙ h ∙ ap (λ cs. set cs c (f (get_or cs c []))) (sym (held_at w v n bs e))
