-- What follows from a choice: the record is taken, and how many containers are free after.
use Rattle.std.proofs.Common.{◌≡◌, ℕ, ◌+◌, ◌<◌, ◌≤◌, true, false, cond, ◌&&◌, ltb, leb, ◌⊎◌, length, Some, None, Option, refl, ap, ◌∙◌, ⊎_elim, arith}
use Rattle.records.specs.Records.{Rec, Contents, payload_bytes}
use Rattle.devices.specs.Questions.{records_of}
use Rattle.std.proofs.lemmas.Bool.{leb-true, and_parts}
use Rattle.devices.specs.Changes.{storable, takes, appended}
use Rattle.devices.proofs.Appends.{Takes}
use Rattle.placing.specs.Openings.{free_count, Free}
use Rattle.placing.specs.Placings.{has_space, chosen, Space}
use Rattle.placing.specs.Settling.{choice_for}
use Rattle.placing.specs.declared.choosing.Choice.{Choice}
use Rattle.placing.specs.declared.choosing.Choice.TheVariants.{Stays, Opens}
use Rattle.placing.specs.declared.filling.Filling.{Filling}
use Rattle.placing.proofs.Counts.{count-used, count_free}
use Rattle.placing.proofs.Rules.{rule_of}

-- the question of space is that of the device, for a container that is there
pub space_is_takes : (cs : Contents) (c : ℕ) (r : Rec) → has_space cs c (length r.payload) ≡ (ltb c (length cs) && takes (records_of cs c) r)
space_is_takes cs c r = refl

-- a container with space takes a record whose level and length are in range
pub space_takes : (cs : Contents) (c : ℕ) (r : Rec) → Space cs c (length r.payload) → r.level ≤ 6 → 1 ≤ length r.payload → length r.payload ≤ 1280 → Takes cs c r
space_takes cs c r h level some few = record { here = h.here; level = level; some = some; few = few; count = h.count; bytes = h.bytes }

-- a free container has space for any such record
pub free_space : (cs : Contents) (c len : ℕ) → Free cs c → len ≤ 1280 → Space cs c len
free_space cs c len f few =
    let n = ap length f.none in
    let b = ap payload_bytes f.none in
    record { here = f.here; count = omega arith; bytes = omega arith }

module _ (cs : Contents) (f : Filling) (spare : ℕ) where
  pub stays_takes : (c : ℕ) (r : Rec) → Some (Stays c) ≡ chosen cs f spare (length r.payload) → r.level ≤ 6 → 1 ≤ length r.payload → length r.payload ≤ 1280 → Takes cs c r
  stays_takes c r e level some few = space_takes cs c r (rule_of cs f spare (length r.payload) (Some (Stays c)) e).space level some few

  pub opens_takes : (len c : ℕ) (r : Rec) → Some (Opens c) ≡ chosen cs f spare len → r.level ≤ 6 → 1 ≤ length r.payload → length r.payload ≤ 1280 → Takes cs c r
  opens_takes len c r e level some few = space_takes cs c r (free_space cs c (length r.payload) (rule_of cs f spare len (Some (Opens c)) e).free few) level some few

  -- an open container that has records: as many are free after
  pub stays_count : (len c : ℕ) (r : Rec) → Some (Stays c) ≡ chosen cs f spare len → 0 < length (records_of cs c) → free_count (appended cs c r) ≡ free_count cs
  stays_count len c r e some = count-used cs c r (rule_of cs f spare len (Some (Stays c)) e).space.here some

  -- a container that is opened: one less is free after
  pub opens_count : (len c : ℕ) (r : Rec) → Some (Opens c) ≡ chosen cs f spare len → free_count (appended cs c r) + 1 ≡ free_count cs
  opens_count len c r e = count_free cs c r (rule_of cs f spare len (Some (Opens c)) e).free

  -- and spare ones stay free
  pub opens_spare : (len c : ℕ) (r : Rec) → Some (Opens c) ≡ chosen cs f spare len → spare ≤ free_count (appended cs c r)
  opens_spare len c r e = let n = opens_count len c r e in let m = (rule_of cs f spare len (Some (Opens c)) e).many in omega arith

  -- where more than spare are free, every record has a place
  pub some_place : (len : ℕ) → spare < free_count cs → None ≡ chosen cs f spare len → ⊥
  some_place len many e = let few = (rule_of cs f spare len None e).few in omega arith

-- a record that goes somewhere is taken there
pub choice_taken : (cs : Contents) (f : Filling) (spare : ℕ) (r : Rec) (c : ℕ) (choice : Option Choice) → choice ≡ choice_for cs f spare r → (Some (Stays c) ≡ choice) ⊎ (Some (Opens c) ≡ choice) → Takes cs c r
choice_taken cs f spare r c choice e is =
    elim (storable r) as (λ b. storable r ≡ b → choice ≡ cond b (chosen cs f spare (length r.payload)) None → Takes cs c r) [
      | true ↦ λ s h.
          let p = and_parts (leb r.level 6) _ s in
          let q = and_parts (leb 1 (length r.payload)) _ p.1 in
          let low = leb-true r.level 6 p.0 in
          let some = leb-true 1 (length r.payload) q.0 in
          let few = leb-true (length r.payload) 1280 q.1 in
          ⊎_elim
          (λ (x : Some (Stays c) ≡ choice). stays_takes cs f spare c r (x ∙ h) low some few)
          (λ (x : Some (Opens c) ≡ choice). opens_takes cs f spare (length r.payload) c r (x ∙ h) low some few) is
      | false ↦ λ s h. absurd (⊎_elim
          (λ (x : Some (Stays c) ≡ choice). let z : ◌≡◌ {A = ℕ} 0 1 = let y = x ∙ h in cc in omega arith)
          (λ (x : Some (Opens c) ≡ choice). let z : ◌≡◌ {A = ℕ} 0 1 = let y = x ∙ h in cc in omega arith) is)
    ] refl e
