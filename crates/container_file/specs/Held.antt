-- What a file holds at its kind's width, and that it is within the limits.
use Rattle.std.specs.Prelude.{◌≡◌, ℕ, ◌+◌, ◌*◌, ◌<◌, ◌≤◌, cond, List, [], length, get_or, vec_items, ◌==◌, ◌≢◌, slice_index_or}
use Rattle.std.proofs.Common.{sym, ap, ◌∙◌, subst, ⊎_elim, arith}
use Rattle.std.proofs.ByRecursion.{All-weaker}
use Rattle.std.proofs.lemmas.List.{get_or_past}
use Rattle.std.proofs.lemmas.Bool.{eq-eqb, ne_eqb, cases_eq}
use Rattle.std.specs.List.{AllByRecursion}
use Rattle.records.specs.Limits.{Typed, Fits, Storable, Stored}
use Rattle.records.specs.Records.{Rec, Contents, no_record}
use Rattle.records.specs.declared.refusal.Place.{Place}
use Rattle.devices.specs.Questions.{Held, records_of, record_at}
use Rattle.container_format.specs.Layout.{container_size, body_at}
use Rattle.container_format.specs.Reading.{read_file, EntryOf}
use Rattle.container_format.specs.Checking.{Intact}
use Rattle.container_format.proofs.Files.{length-read_file}
use Rattle.container_format.proofs.Find.{find}
use Rattle.container_format.proofs.Props.{intact_from}
use Rattle.container_file.specs.Meaning.{read_as, contents_of, EntryAt}
use Rattle.container_file.specs.declared.file.ContainerFile.{ContainerFile}

-- at the kind's own width
pub held_at : (w v n : ℕ) (bs : List ℕ) → v ≡ w → cond (v == w) (read_file v n bs) [] ≡ read_file w n bs
held_at w v n bs e = ap (λ b. cond b (read_file v n bs) []) (eq-eqb v w e) ∙ ap (λ k. read_file k n bs) e

module _ {F : Type 0} (w : ℕ) (s : ContainerFile F) where
  pub held_same : s.width ≡ w → contents_of w s ≡ read_as s
  held_same e = ap (λ b. cond b (read_as s) []) (eq-eqb s.width w e)

  pub held_none : (s.width ≢ w) → contents_of w s ≡ []
  held_none e = ap (λ b. cond b (read_as s) []) (ne_eqb s.width w e)

  -- a container that is there
  pub held_here : (c : ℕ) → c < length (contents_of w s) → (s.width ≡ w) × (c < s.count)
  held_here c h =
      ⊎_elim
      (λ e. (e, let l = ap length (held_same e) ∙ length-read_file s.width s.count (vec_items s.bytes) in omega arith))
      (λ ne. absurd (let l = ap length (held_none ne) in omega arith))
      (cases_eq s.width w)

  -- what the ghost field says
  pub intact : Intact s.width s.count (vec_items s.bytes)
  intact = intact_from s.width s.count (vec_items s.bytes) s.intact

-- what is stored is within the limits of any device
pub held_stored : (w : ℕ) (cs : Contents) → AllByRecursion (Stored w) cs → Held w cs
held_stored w cs h = record {
  fits = All-weaker (Stored w) Fits (λ rs k. k.fits) cs h;
  typed = All-weaker (Stored w) (AllByRecursion (Typed w)) (λ rs k. All-weaker (Storable w) (Typed w) (λ r t. t.typed) rs k.each) cs h;
}

pub held-file : {F : Type 0} (w : ℕ) (s : ContainerFile F) → Held w (contents_of w s)
held-file w s =
    ⊎_elim
    (λ e. subst (Held w) (sym (held_same w s e)) (held_stored w (read_as s) (subst (λ v. AllByRecursion (Stored v) (read_as s)) e (intact w s).each)))
    (λ ne. subst (Held w) (sym (held_none w s ne)) (record { fits = tt; typed = tt }))
    (cases_eq s.width w)

module _ {F : Type 0} (w : ℕ) (s : ContainerFile F) where
  -- no such container, so no such record
  pub none_there : (p : Place) → length (contents_of w s) ≤ p.container → length (records_of (contents_of w s) p.container) ≤ p.index
  none_there p h = let e = ap length (get_or_past (contents_of w s) p.container [] h) in omega arith

  -- a container's records are those that the bytes read as
  pub records_same : (c : ℕ) → s.width ≡ w → records_of (contents_of w s) c ≡ slice_index_or (read_as s) c []
  records_same c e = ap (λ cs. get_or cs c []) (held_same w s e)

  -- the record of a place that is there
  pub found_entry : (p : Place) (at : ℕ) → s.width ≡ w → p.container < s.count → p.index < length (slice_index_or (read_as s) p.container []) → at ≡ p.container * container_size s.width + (16 + p.index * (s.width + 8)) → EntryAt w s p at
  found_entry p at e here inside is =
      let same = records_same p.container e in
      let f = find s.width s.count p.container p.index (vec_items s.bytes) (intact w s) here inside in
      let r : record_at (contents_of w s) p ≡ get_or (slice_index_or (read_as s) p.container []) p.index no_record = ap (λ rs. get_or rs p.index no_record) same in
      let P : ℕ → ℕ → Rec → Type 0 = λ v k x. EntryOf v (vec_items s.bytes) k (p.container * container_size v + body_at v) x in
      record {
        width = e;
        container = here;
        index = (let l = ap length same in omega arith);
        entry = subst (λ X. X) (λ i. P (e i) (sym is i) (sym r i)) f;
      }
