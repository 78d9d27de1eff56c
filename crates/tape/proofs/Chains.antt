-- The entries of one container, as a chain over the log passes them.
use Rattle.std.proofs.Common.{◌≡◌, ℕ, zero, suc, ◌+◌, ◌<◌, ◌≤◌, Bool, true, false, cond, List, [], ◌∷◌, ◌==◌, map, filter, length, slice_index_or, Option, Some, None, Result, sym, refl, ap, subst, ◌∙◌, ⊎_elim, add-one, arith}
use Rattle.std.specs.List.{AllByRecursion, position_from, slice_get}
use Rattle.std.specs.Option.{option_map, ok_or}
use Rattle.std.specs.Result.{MatchResult}
use Rattle.std.proofs.lemmas.Bool.{cases_lt}
use Rattle.std.proofs.lemmas.Option.{slice_get-map, slice_get-get_or, slice_get_within, get_or_from_slice_get}
use Rattle.keys.specs.Octets.{same_bytes}
use Rattle.records.specs.Limits.{Fits}
use Rattle.records.specs.Records.{Rec, Contents, no_record, payload_bytes, place_among, rec_of}
use Rattle.records.specs.declared.record.Record.{Record}
use Rattle.records.specs.declared.refusal.Place.{Place}
use Rattle.records.specs.declared.refusal.Cause.{Cause}
use Rattle.records.specs.declared.refusal.Cause.TheVariants.{NoSuchPlace}
use Rattle.devices.specs.Questions.{Held, records_of}
use Rattle.tape.specs.Log as log
use Rattle.tape.specs.Log.{records_in}
use Rattle.tape.specs.Reading.{entry_by}
use Rattle.tape.specs.declared.entry.Entry.{Entry}

-- no container is over its limit, and one that is not there has no bytes
pub bytes_fit : (w : ℕ) (cs : Contents) (c : ℕ) → Held w cs → payload_bytes (records_of cs c) ≤ 7168
bytes_fit w cs c h = go cs c h.fits
  where
    go : (cs : Contents) (c : ℕ) → AllByRecursion Fits cs → payload_bytes (records_of cs c) ≤ 7168
    go [] c h = omega arith
    go (rs ∷ cs) zero h = h.0.bytes
    go (rs ∷ cs) (suc c) h = go cs c h.1

-- the entries of a container
abbrev pub entries_in : ℕ → List log.Entry → List log.Entry
entries_in c es = filter (λ e. e.container == c) es

passed : (b : Bool) (e : log.Entry) (es : List log.Entry) (rs : List Rec) → map (λ x. x.stored) es ≡ rs → map (λ x. x.stored) (cond b (e ∷ es) es) ≡ cond b (e.stored ∷ rs) rs
passed true e es rs h = ap (λ x. e.stored ∷ x) h
passed false e es rs h = h

pub stored_in : (c : ℕ) (es : List log.Entry) → map (λ x. x.stored) (entries_in c es) ≡ records_in c es
stored_in c [] = refl
stored_in c (e ∷ es) = passed (e.container == c) e (entries_in c es) (records_in c es) (stored_in c es)

-- the record at an index of a container, or none where there are not so many
module _ {F : Type 0} (bytes : F → List ℕ) (c i : ℕ) (es : List log.Entry) (rs : List Rec) (all : records_in c es ≡ rs) where
  abbrev Found : Result (Record F) Cause → Type 0
  Found r = MatchResult r (λ x. (i < length rs) × (rec_of bytes x ≡ slice_index_or rs i no_record)) (λ e. (e ≡ NoSuchPlace) × (length rs ≤ i))

  is : (o : Option (Entry F)) → option_map (entry_by bytes) o ≡ slice_get (entries_in c es) i → slice_get rs i ≡ option_map (λ e. rec_of bytes e.stored) o
  is o e = ap (λ x. slice_get x i) (sym (stored_in c es ∙ all)) ∙ slice_get-map (λ x. x.stored) (entries_in c es) i ∙ ap (option_map (λ x. x.stored)) (sym e) ∙ mapped o
    where
      mapped : (o : Option (Entry F)) → option_map (λ x. x.stored) (option_map (entry_by bytes) o) ≡ option_map (λ e. rec_of bytes e.stored) o
      mapped (Some x) = refl
      mapped None = refl

  cases : (o : Option (Entry F)) → slice_get rs i ≡ option_map (λ e. rec_of bytes e.stored) o → Found (ok_or (option_map (λ e. e.stored) o) NoSuchPlace)
  cases (Some x) e = (slice_get_within rs i _ e, sym (get_or_from_slice_get rs i _ no_record e))
  cases None e = (refl, ⊎_elim (λ here. absurd (let s = slice_get-get_or rs i no_record here in cc)) (λ past. past) (cases_lt i (length rs)))

  pub found_by : (o : Option (Entry F)) (m : Option (Record F)) (r : Result (Record F) Cause) → option_map (entry_by bytes) o ≡ slice_get (entries_in c es) i → m ≡ option_map (λ e. e.stored) o → r ≡ ok_or m NoSuchPlace → Found r
  found_by o m r e mm rr = subst Found (sym (rr ∙ ap (λ x. ok_or x NoSuchPlace) mm)) (cases o (is o e))

-- the first place of a fingerprint, by the index of the first entry that has it
abbrev pub named : List ℕ → log.Entry → Bool
named f e = same_bytes e.stored.fingerprint f

module _ (f : List ℕ) (c : ℕ) where
  abbrev at : ℕ → Place
  at i = record { container = c; index = i }

  one : (b : Bool) (i : ℕ) (o : Option ℕ) (later : Option Place) → option_map at o ≡ later → option_map at (cond b (Some i) o) ≡ cond b (Some (at i)) later
  one true i o later h = refl
  one false i o later h = h

  placed : (i : ℕ) (es : List log.Entry) → option_map at (position_from (named f) i es) ≡ place_among f c i (map (λ e. e.stored) es) None
  placed i [] = refl
  placed i (e ∷ es) = one (named f e) i (position_from (named f) (i + 1) es) _ (placed (i + 1) es ∙ ap (λ k. place_among f c k (map (λ e. e.stored) es) None) (add-one i))

  pub first_by : (es : List log.Entry) (rs : List Rec) → records_in c es ≡ rs → (o : Option ℕ) (r : Option Place) → o ≡ position_from (named f) 0 (entries_in c es) → r ≡ option_map at o → r ≡ place_among f c 0 rs None
  first_by es rs all o r oo rr = rr ∙ ap (option_map at) oo ∙ placed 0 (entries_in c es) ∙ ap (λ x. place_among f c 0 x None) (stored_in c es ∙ all)
