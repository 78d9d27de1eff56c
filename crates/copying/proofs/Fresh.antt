-- A copy onto free containers holds what was copied.
use Rattle.std.proofs.Common.{◌≡◌, ℕ, zero, suc, ◌+◌, ◌<◌, ◌≤◌, List, [], ◌∷◌, ◌++◌, length, get_or, take, replicate, Ok, Err, Result, refl, ap, ◌∙◌, arith}
use Rattle.std.proofs.ByRecursion.{All-get_or}
use Rattle.std.proofs.lemmas.List.{length-set, length-replicate, get_or-set_same, get_or-replicate, length-take-le}
use Rattle.std.specs.List.{AllByRecursion}
use Rattle.records.specs.Limits.{Storable, Stored}
use Rattle.records.specs.Records.{Rec, Contents, no_record, payload_bytes}
use Rattle.records.specs.declared.refusal.Refusal.{Refusal}
use Rattle.devices.proofs.Appends.{Takes, append_taken}
use Rattle.devices.specs.Questions.{records_of}
use Rattle.copying.specs.Copies.{with_more, stacked, StoppedAt, MovedAll}

pub stacked_free : (cs : Contents) → stacked (replicate (length cs) []) cs ≡ cs
stacked_free [] = refl
stacked_free (c ∷ cs) = ap (λ xs. c ∷ xs) (stacked_free cs)

length-stacked : (ds cs : Contents) → length (stacked ds cs) ≡ length ds
length-stacked [] cs = refl
length-stacked (d ∷ ds) [] = refl
length-stacked (d ∷ ds) (c ∷ cs) = ap suc (length-stacked ds cs)

-- behind the containers that were copied to, all are as they were
records_behind : (ds cs : Contents) (k : ℕ) → records_of (stacked ds (take k cs)) k ≡ records_of ds k
records_behind [] cs k = refl
records_behind (d ∷ ds) cs zero = refl
records_behind (d ∷ ds) [] (suc k) = refl
records_behind (d ∷ ds) (c ∷ cs) (suc k) = records_behind ds cs k

bytes_take : (rs : List Rec) (i : ℕ) → i < length rs → payload_bytes (take i rs) + length (get_or rs i no_record).payload ≤ payload_bytes rs
bytes_take [] i h = absurd (omega arith)
bytes_take (r ∷ rs) zero h = omega arith
bytes_take (r ∷ rs) (suc i) h = let t = bytes_take rs i (omega arith) in omega arith

-- so no record is refused
none_stopped : (w : ℕ) (cs : Contents) (k i : ℕ) (e : Refusal) (es : Contents) → AllByRecursion (Stored w) cs → k < length cs → StoppedAt (records_of cs k) (stacked (replicate (length cs) []) (take k cs)) k i e es → ⊥
none_stopped w cs k i e es stored here stop =
    let rs = records_of cs k in
    let ds : Contents = replicate (length cs) [] in
    let s = stacked ds (take k cs) in
    let x = with_more s k (take i rs) in
    let r = get_or rs i no_record in
    let left = stop.left in
    let all = All-get_or (Stored w) cs k [] here stored in
    let one : Storable w r = All-get_or (Storable w) rs i no_record left all.each in
    let ls : length s ≡ length cs = length-stacked ds (take k cs) ∙ length-replicate (length cs) [] in
    let none : records_of s k ≡ [] = records_behind ds cs k ∙ get_or-replicate (length cs) k [] [] here in
    let held : records_of x k ≡ take i rs = get_or-set_same s k (records_of s k ++ take i rs) [] (omega arith) ∙ ap (λ y. y ++ take i rs) none in
    let count = ap length held ∙ length-take-le i rs (omega arith) in
    let bytes = ap payload_bytes held in
    let sum = bytes_take rs i left in
    let few = all.fits.count in
    let small = all.fits.bytes in
    let lx = length-set s k (records_of s k ++ take i rs) in
    let h : Takes x k r = record { here = omega arith; level = one.level; some = one.some; few = one.few; count = omega arith; bytes = omega arith } in
    let ok = append_taken x k r h in
    let no' = stop.refused in
    let z : ◌≡◌ {A = ℕ} 0 1 = cc in
    omega arith

pub moved_fresh : (w : ℕ) (cs : Contents) (r : Result (Unit {0}) Refusal) (es : Contents) → AllByRecursion (Stored w) cs → MovedAll cs (replicate (length cs) []) r es → (r ≡ Ok tt) × (es ≡ cs)
moved_fresh w cs (Ok x) es stored m = (refl, m ∙ stacked_free cs)
moved_fresh w cs (Err e) es stored m = absurd (none_stopped w cs m.0 m.2.0 e es stored m.1 m.2.1)
