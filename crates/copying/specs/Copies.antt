-- What a copy leaves in the containers that it appends to.
use Rattle.std.specs.Prelude.{◌≡◌, ℕ, ◌<◌, List, [], ◌∷◌, ◌++◌, length, take, Ok, Err, Result, slice_index_or, slice_set}
use Rattle.records.specs.Records.{Rec, Contents, no_record}
use Rattle.records.specs.declared.refusal.Refusal.{Refusal}
use Rattle.devices.specs.Questions.{records_of}
use Rattle.devices.specs.Changes.{append_answer}

-- more records behind those of a container
abbrev pub with_more : Contents → ℕ → List Rec → Contents
with_more ds c rs = slice_set ds c (records_of ds c ++ rs)

-- the records of cs behind those of ds, container by container; a container that ds lacks gets none
abbrev pub stacked : Contents → Contents → Contents
stacked [] cs = []
stacked (d ∷ ds) [] = d ∷ ds
stacked (d ∷ ds) (c ∷ cs) = (d ++ c) ∷ stacked ds cs

-- the first i of the records rs are behind those of the container c, and the next is refused
pub record StoppedAt (rs : List Rec) (ds : Contents) (c i : ℕ) (e : Refusal) (es : Contents) : Type 0 where
  pub left : i < length rs
  pub holds : es ≡ with_more ds c (take i rs)
  pub refused : append_answer (with_more ds c (take i rs)) c (slice_index_or rs i no_record) ≡ Err e

-- the records rs were appended to the container c, all, or up to the first that was refused
abbrev pub MovedOne : List Rec → Contents → ℕ → Result (Unit {0}) Refusal → Contents → Type 0
MovedOne rs ds c (Ok x) after = after ≡ with_more ds c rs
MovedOne rs ds c (Err e) after = (i : ℕ) × StoppedAt rs ds c i e after

-- all containers' records were appended, or up to the first record that was refused
abbrev pub MovedAll : Contents → Contents → Result (Unit {0}) Refusal → Contents → Type 0
MovedAll cs ds (Ok x) after = after ≡ stacked ds cs
MovedAll cs ds (Err e) after = (k : ℕ) × (k < length cs) × ((i : ℕ) × StoppedAt (records_of cs k) (stacked ds (take k cs)) k i e after)
