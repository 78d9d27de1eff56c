-- A log whose containers keep their limits fits the tape.
use Rattle.std.specs.Prelude.{◌≡◌, ℕ, zero, suc, ◌+◌, ◌*◌, ◌<◌, ◌≤◌, List, [], ◌∷◌, map, length, slice_index_or, slice_set, refl}
use Rattle.std.proofs.Common.{ap, subst, suc-mul, zero-mul, mul-le-mul_right, arith}
use Rattle.std.specs.List.{range_with_len, AllByRecursion}
use Rattle.records.specs.Limits.{Fits}
use Rattle.records.specs.Records.{Rec, Contents, payload_bytes}
use Rattle.tape.specs.Log.{Entry, log_size, records_in, gathered}
use Rattle.tape.specs.Sizes.{container_size}
use Rattle.tape.specs.Gathering.{length-gathered, get_or-gathered}
use Rattle.tape.proofs.Gathered.{gathered-front}

-- what records take on the tape, and what containers take
abbrev records_size : ℕ → List Rec → ℕ
records_size w [] = 0
records_size w (r ∷ rs) = w + 4 + length r.payload + records_size w rs

abbrev contents_size : ℕ → Contents → ℕ
contents_size w [] = 0
contents_size w (rs ∷ cs) = records_size w rs + contents_size w cs

records_weigh : (w : ℕ) (rs : List Rec) → records_size w rs ≡ length rs * (w + 4) + payload_bytes rs
records_weigh w [] = let z = zero-mul (w + 4) in omega arith
records_weigh w (r ∷ rs) = let s = suc-mul (length rs) (w + 4) in let t = records_weigh w rs in omega arith

records_fit : (w : ℕ) (rs : List Rec) → Fits rs → records_size w rs ≤ container_size w
records_fit w rs f =
    let a = records_weigh w rs in
    let b : length rs * (w + 4) ≤ 63 * (w + 4) = mul-le-mul_right (w + 4) f.count in
    let c = f.bytes in
    omega arith

contents_fit : (w : ℕ) (cs : Contents) → AllByRecursion Fits cs → contents_size w cs ≤ length cs * container_size w
contents_fit w [] h = let z = zero-mul (container_size w) in omega arith
contents_fit w (rs ∷ cs) h =
    let a = records_fit w rs h.0 in
    let b = contents_fit w cs h.1 in
    let s = suc-mul (length cs) (container_size w) in
    omega arith

contents_set : (w : ℕ) (cs : Contents) (c : ℕ) (rs : List Rec) → c < length cs → contents_size w (slice_set cs c rs) + records_size w (slice_index_or cs c []) ≡ contents_size w cs + records_size w rs
contents_set w [] c rs h = absurd (omega arith)
contents_set w (x ∷ cs) zero rs h = omega arith
contents_set w (x ∷ cs) (suc c) rs h = let t = contents_set w cs c rs (omega arith) in omega arith

contents_none : (w a n : ℕ) → contents_size w (map (λ c. records_in c []) (range_with_len a n)) ≡ 0
contents_none w a zero = refl
contents_none w a (suc n) = let t = contents_none w (a + 1) n in omega arith

log_weighs : (w n : ℕ) (es : List Entry) → AllByRecursion (λ e. e.container < n) es → contents_size w (gathered n es) ≡ log_size w es
log_weighs w n [] h = contents_none w 0 n
log_weighs w n (e ∷ es) h =
    let c = e.container in
    let rs : List Rec = e.stored ∷ records_in c es in
    let t = log_weighs w n es h.1 in
    let l = length-gathered n es in
    let g : contents_size w (gathered n (e ∷ es)) ≡ contents_size w (slice_set (gathered n es) c rs) = ap (contents_size w) (gathered-front n e es) in
    let k : c < length (gathered n es) = (let b = h.0 in omega arith) in
    let s = contents_set w (gathered n es) c rs k in
    let d : records_size w (slice_index_or (gathered n es) c []) ≡ records_size w (records_in c es) = ap (records_size w) (get_or-gathered n c es h.0) in
    omega arith

-- a log whose containers keep their limits fits the tape
pub log_fits : (w n : ℕ) (es : List Entry) → AllByRecursion (λ e. e.container < n) es → AllByRecursion Fits (gathered n es) → log_size w es ≤ n * container_size w
log_fits w n es within fits =
    let a = log_weighs w n es within in
    let b : contents_size w (gathered n es) ≤ n * container_size w = (let P : ℕ → Type 0 = λ m. contents_size w (gathered n es) ≤ m * container_size w in subst P (length-gathered n es) (contents_fit w (gathered n es) fits)) in
    omega arith
