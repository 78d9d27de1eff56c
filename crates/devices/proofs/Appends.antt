-- When an append is accepted, and what the containers hold then.
use Rattle.std.proofs.Common.{◌≡◌, ℕ, ◌+◌, ◌<◌, ◌≤◌, true, cond, length, is_ok, Ok, Err, ap}
use Rattle.std.proofs.lemmas.Bool.{and_from, le-leb, lt-ltb}
use Rattle.records.specs.Records.{Rec, Contents, payload_bytes}
use Rattle.records.specs.Refusals.{untold}
use Rattle.records.specs.declared.refusal.Cause.TheVariants.{NoSuchPlace, Shape, ContainerFull}
use Rattle.devices.specs.Questions.{records_of}
use Rattle.devices.specs.Changes.{storable, takes, append_answer, appended, append_after}

-- what an append needs of the container and the record
pub record Takes (cs : Contents) (c : ℕ) (r : Rec) : Type 0 where
  pub here : c < length cs
  pub level : r.level ≤ 6
  pub some : 1 ≤ length r.payload
  pub few : length r.payload ≤ 1280
  pub count : length (records_of cs c) < 63
  pub bytes : payload_bytes (records_of cs c) + length r.payload ≤ 7168

pub append_taken : (cs : Contents) (c : ℕ) (r : Rec) → Takes cs c r → append_answer cs c r ≡ Ok tt
append_taken cs c r h =
    let a : storable r ≡ true = and_from _ _ (le-leb _ _ h.level) (and_from _ _ (le-leb _ _ h.some) (le-leb _ _ h.few)) in
    let b : takes (records_of cs c) r ≡ true = and_from _ _ (lt-ltb _ _ h.count) (le-leb _ _ h.bytes) in
    (λ i. cond (lt-ltb c (length cs) h.here i) (cond (a i) (cond (b i) (Ok tt) (Err (untold ContainerFull))) (Err (untold Shape))) (Err (untold NoSuchPlace)))

pub after_taken : (cs : Contents) (c : ℕ) (r : Rec) → Takes cs c r → append_after cs c r ≡ appended cs c r
after_taken cs c r h = ap (λ a. cond (is_ok a) (appended cs c r) cs) (append_taken cs c r h)
