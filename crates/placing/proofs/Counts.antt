-- The count of the free containers, by their numbers and as containers change.
use Rattle.std.proofs.Common.{◌≡◌, ℕ, suc, ◌+◌, ◌<◌, ◌≤◌, cond, List, [], ◌∷◌, ◌++◌, length, sum, count_by, sym, ap, ◌∙◌, ⊎_elim, arith}
use Rattle.std.specs.List.{range_with_len}
use Rattle.std.proofs.lemmas.List.{nil_from_length, length_push}
use Rattle.std.proofs.lemmas.List.Sums.{sum-map, sum_by-cons, sum_by-set}
use Rattle.std.proofs.lemmas.Bool.{cases_lt, cond-false, ne_eqb}
use Rattle.records.specs.Records.{Rec, Contents}
use Rattle.devices.specs.Questions.{records_of, unused, is_free}
use Rattle.devices.specs.Changes.{appended}
use Rattle.devices.proofs.Freeing.{free_by_number}
use Rattle.placing.specs.Openings.{free_count, Free}

-- what a container adds to the count
abbrev share : List Rec → ℕ
share rs = cond (unused rs) 1 0

-- as many numbers are those of free containers as containers are free
pub counted_by_number : (cs : Contents) → count_by (is_free cs) (range_with_len 0 (length cs)) ≡ free_count cs
counted_by_number cs =
    let by_number : ℕ → ℕ = λ c. cond (is_free cs c) 1 0 in
    sym (sum-map by_number (range_with_len 0 (length cs))) ∙ ap sum (sym (free_by_number (λ b. cond b 1 0) 0 cs)) ∙ sum-map share cs

-- a container with records adds nothing
share-used : (rs : List Rec) → 0 < length rs → share rs ≡ 0
share-used rs h = cond-false (unused rs) 1 0 (ne_eqb (length rs) 0 (λ e. omega arith))

-- where the count is not 0, some container is free
pub some_free_lem : (cs : Contents) → 0 < free_count cs → (c : ℕ) × Free cs c
some_free_lem [] h = absurd (omega arith)
some_free_lem (rs ∷ cs) h =
    ⊎_elim
    (λ (n : 0 < length rs). let z = share-used rs n in let t = some_free_lem cs (omega (arith, sum_by-cons share rs cs)) in let here = t.1.here in (suc t.0, record { here = omega arith; none = t.1.none }))
    (λ (n : length rs ≤ 0). (0, record { here = omega arith; none = nil_from_length rs (omega arith) }))
    (cases_lt 0 (length rs))

-- a container that gets a record adds nothing after
count-append : (cs : Contents) (c : ℕ) (r : Rec) → c < length cs → free_count (appended cs c r) + share (records_of cs c) ≡ free_count cs
count-append cs c r h =
    let n = length_push (records_of cs c) r in
    let z = share-used (records_of cs c ++ r ∷ []) (omega arith) in
    let t = sum_by-set share cs c (records_of cs c ++ r ∷ []) [] h in
    omega arith

-- a record more in a container that has some: as many are free as before
pub count-used : (cs : Contents) (c : ℕ) (r : Rec) → c < length cs → 0 < length (records_of cs c) → free_count (appended cs c r) ≡ free_count cs
count-used cs c r h some = let t = count-append cs c r h in let z = share-used (records_of cs c) some in omega arith

-- a record in a free container: one less is free
pub count_free : (cs : Contents) (c : ℕ) (r : Rec) → Free cs c → free_count (appended cs c r) + 1 ≡ free_count cs
count_free cs c r f = let t = count-append cs c r f.here in let z : share (records_of cs c) ≡ 1 = ap share f.none in omega arith
