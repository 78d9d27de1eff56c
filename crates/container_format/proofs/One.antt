-- Every list of containers within the limits has exactly one file.
use Rattle.std.proofs.Common.{ℕ, zero, suc, ◌+◌, ◌-◌, ◌*◌, ◌<◌, List, [], ◌∷◌, ◌++◌, length, replicate, ap, ◌∙◌, arith}
use Rattle.std.proofs.ByRecursion.{All-append}
use Rattle.std.specs.List.{AllByRecursion}
use Rattle.keys.specs.Octets.{Bytes, little}
use Rattle.keys.specs.Little.{bytes-little}
use Rattle.records.specs.Limits.{Storable, Stored}
use Rattle.records.specs.Records.{Rec, Contents}
use Rattle.container_format.specs.Layout.{entry, entries, payloads, container_bytes, file}
use Rattle.container_format.specs.Checking.{OneFile}
use Rattle.container_format.proofs.Files.{length-file}
use Rattle.container_format.proofs.Round.{reads_back}
use Rattle.container_format.proofs.Whole.{file_containers, containers_file}

abbrev joins : (xs ys : List ℕ) → Bytes xs → Bytes ys → Bytes (xs ++ ys)
joins xs ys a b = All-append (λ x. x < 256) xs ys a b

bytes_zeros : (n : ℕ) → Bytes (replicate n 0)
bytes_zeros zero = tt
bytes_zeros (suc n) = (omega arith, bytes_zeros n)

bytes-entries : (w off : ℕ) (rs : List Rec) → AllByRecursion (Storable w) rs → Bytes (entries off rs)
bytes-entries w off [] h = tt
bytes-entries w off (r ∷ rs) h =
    let level = h.0.level in
    joins (entry off r) (entries (off + length r.payload) rs)
    (joins r.fingerprint (r.level ∷ 0 ∷ (little 2 (length r.payload) ++ little 4 off)) h.0.typed.fingerprint
    (omega arith, (omega arith, joins (little 2 (length r.payload)) (little 4 off) (bytes-little 2 (length r.payload)) (bytes-little 4 off))))
    (bytes-entries w (off + length r.payload) rs h.1)

bytes-payloads : (w : ℕ) (rs : List Rec) → AllByRecursion (Storable w) rs → Bytes (payloads rs)
bytes-payloads w [] h = tt
bytes-payloads w (r ∷ rs) h = joins r.payload (payloads rs) h.0.typed.payload (bytes-payloads w rs h.1)

bytes_container : (w : ℕ) (rs : List Rec) → Stored w rs → Bytes (container_bytes w rs)
unfolding container_bytes
bytes_container w rs h =
    let body : List ℕ = payloads rs ++ replicate (7168 - length (payloads rs)) 0 in
    let unused : List ℕ = replicate ((63 - length rs) * (w + 8)) 0 ++ body in
    let table : List ℕ = entries 0 rs ++ unused in
    let gap : List ℕ = replicate 12 0 ++ table in
    let a : Bytes body = joins (payloads rs) _ (bytes-payloads w rs h.each) (bytes_zeros (7168 - length (payloads rs))) in
    let b : Bytes unused = joins (replicate ((63 - length rs) * (w + 8)) 0) body (bytes_zeros ((63 - length rs) * (w + 8))) a in
    let c : Bytes table = joins (entries 0 rs) unused (bytes-entries w 0 rs h.each) b in
    let d : Bytes gap = joins (replicate 12 0) table (bytes_zeros 12) c in
    joins (little 2 (length rs)) (little 2 (length (payloads rs)) ++ gap) (bytes-little 2 (length rs)) (joins (little 2 (length (payloads rs))) gap (bytes-little 2 (length (payloads rs))) d)

bytes-file : (w : ℕ) (cs : Contents) → AllByRecursion (Stored w) cs → Bytes (file w cs)
bytes-file w [] h = tt
bytes-file w (rs ∷ cs) h = joins (container_bytes w rs) (file w cs) (bytes_container w rs h.0) (bytes-file w cs h.1)

pub one_file : (w : ℕ) → OneFile w
one_file w cs h = (
  record {
    octets = bytes-file w cs h.each;
    count = record { some = h.some; few = h.few; length = length-file w cs h.each };
    order = file_containers w cs h.each;
    reads = reads_back w cs h.each;
  },
  λ bs f. (containers_file w (length cs) bs f.octets f.count.length f.order).0 ∙ ap (file w) f.reads,
)
