-- What the check accepts is a file, and what it refuses is none.
use Rattle.std.proofs.Common.{◌≡◌, ℕ, zero, suc, ◌+◌, ◌-◌, ◌*◌, ◌/◌, ◌<◌, ◌≤◌, List, [], ◌∷◌, ◌++◌, length, get_or, take, drop, replicate, Err, sym, refl, ap, ◌∙◌, subst, inl, inr, suc-mul, zero-mul, add_comm, arith}
use native.Mathlib.Nat.{eq_of_mul-eq-mul_right, mul-div_left}
use Rattle.std.specs.List.{AllByRecursion}
use Rattle.std.proofs.lemmas.List.{append_assoc, take_at, drop_at, get_or_at, get_or-drop, length-append, length-drop, drop-drop, length-take-le, take-append-drop}
use Rattle.std.proofs.ByRecursion.{All-take, All-drop}
use Rattle.keys.specs.Octets.{number}
use Rattle.keys.specs.Little.{number-little}
use Rattle.keys.specs.Octets.{Bytes}
use Rattle.records.specs.Limits.{Storable, Stored}
use Rattle.records.specs.Records.{Rec, Contents}
use Rattle.records.specs.Refusals.{untold, number_of}
use Rattle.records.specs.declared.refusal.Cause.TheVariants.{Size, Layout}
use Rattle.records.specs.declared.refusal.Refusal.{Refusal}
use Rattle.container_format.specs.Layout.{payloads, entry, entries, body_at, container_size, container_bytes, file}
use Rattle.container_format.specs.Reading.{length_in, read_file}
use Rattle.container_format.specs.Checking.{EntryOk, Zeros, EntriesOk, ContainerOk, ContainersOk, IsFile, NoFile, NoCount, Count, Checked}
use Rattle.container_format.proofs.Round.{laid, laid_is, length-laid, drop-laid, from_w, length_front, drop_header, drop_body, number-count, number-used, length_container, reads_back, used_fits}
use Rattle.container_format.proofs.Accept.{accepts}
use Rattle.container_format.proofs.Files.{length-file, length-read_file}

zeros_replicate : (n : ℕ) → Zeros (replicate n 0)
zeros_replicate zero = tt
zeros_replicate (suc n) = (refl, zeros_replicate n)

entry_ok : (w : ℕ) (r : Rec) (off : ℕ) (rest : List ℕ) → Storable w r → off + length r.payload ≤ 7168 → EntryOk w off (laid r off rest)
entry_ok w r off rest f space =
    let es = laid r off rest in
    let n : length_in w es ≡ length r.payload = length-laid w r off rest f in
    let lv : get_or es w 0 ≡ r.level = get_or_at r.fingerprint r.level _ 0 w f.typed.wide in
    let z : get_or es (w + 1) 0 ≡ 0 = sym (get_or-drop w es 1 0) ∙ ap (λ y. get_or y 1 0) (drop_at r.fingerprint _ w f.typed.wide) in
    let a = f.level in
    let b = f.some in
    let c = f.few in
    record { level = omega arith; gap = z; some = omega arith; few = omega arith; offset = ap (λ y. number (take 4 y)) (from_w w r off rest f 4) ∙ number-little 4 off (omega (arith, space)); space = omega arith }

entries_ok : (w used off : ℕ) (rs : List Rec) (z y : List ℕ) → AllByRecursion (Storable w) rs → off + length (payloads rs) ≡ used → used ≤ 7168 → Zeros z → Zeros y → EntriesOk w used (length rs) off (entries off rs ++ z) (payloads rs ++ y)
entries_ok w used off [] z y h sum few zz zy = (omega arith, zz, zy)
entries_ok w used off (r ∷ rs) z y h sum few zz zy =
    let rest = entries (off + length r.payload) rs ++ z in
    let body = payloads rs ++ y in
    let l = length-append r.payload (payloads rs) in
    let e : entries off (r ∷ rs) ++ z ≡ laid r off rest = append_assoc (entry off r) (entries (off + length r.payload) rs) z ∙ laid_is r off rest in
    let b : payloads (r ∷ rs) ++ y ≡ r.payload ++ body = append_assoc r.payload (payloads rs) y in
    let n : length_in w (laid r off rest) ≡ length r.payload = length-laid w r off rest h.0 in
    let d : drop (length_in w (laid r off rest)) (r.payload ++ body) ≡ body = drop_at r.payload body _ (sym n) in
    let c : drop (w + 8) (laid r off rest) ≡ rest = drop-laid w r off rest h.0 in
    let t = entries_ok w used (off + length r.payload) rs z y h.1 (omega arith) few zz zy in
    let same : EntriesOk w used (length rs) (off + length r.payload) rest body ≡ EntriesOk w used (length rs) (off + length_in w (laid r off rest)) (drop (w + 8) (laid r off rest)) (drop (length_in w (laid r off rest)) (r.payload ++ body)) = λ i. EntriesOk w used (length rs) (off + sym n i) (sym c i) (sym d i) in
    let ok : EntriesOk w used (suc (length rs)) off (laid r off rest) (r.payload ++ body) = (entry_ok w r off rest h.0 (omega arith), subst (λ X. X) same t) in
    let back : EntriesOk w used (suc (length rs)) off (laid r off rest) (r.payload ++ body) ≡ EntriesOk w used (suc (length rs)) off (entries off (r ∷ rs) ++ z) (payloads (r ∷ rs) ++ y) = λ i. EntriesOk w used (suc (length rs)) off (sym e i) (sym b i) in
    subst (λ X. X) back ok

header_zeros : (w : ℕ) (rs : List Rec) → Zeros (take 12 (drop 4 (container_bytes w rs)))
unfolding container_bytes
header_zeros w rs = zeros_replicate 12

pub accepted : (w : ℕ) (rs : List Rec) → Stored w rs → ContainerOk w (container_bytes w rs)
accepted w rs f =
    let used = length (payloads rs) in
    let Z : List ℕ = replicate ((63 - length rs) * (w + 8)) 0 in
    let Y : List ℕ = replicate (7168 - used) 0 in
    let fr : take (63 * (w + 8)) (drop 16 (container_bytes w rs)) ≡ entries 0 rs ++ Z = ap (take (63 * (w + 8))) (drop_header w rs f ∙ sym (append_assoc (entries 0 rs) Z (payloads rs ++ Y))) ∙ take_at (entries 0 rs ++ Z) _ _ (length_front w rs f) in
    let bd = drop_body w rs f in
    let k = number-count w rs f in
    let u = number-used w rs f in
    let t : EntriesOk w used (length rs) 0 (entries 0 rs ++ Z) (payloads rs ++ Y) = entries_ok w used 0 rs Z Y f.each (omega arith) (used_fits w rs f) (zeros_replicate _) (zeros_replicate _) in
    let same : EntriesOk w used (length rs) 0 (entries 0 rs ++ Z) (payloads rs ++ Y) ≡ EntriesOk w (number (take 2 (drop 2 (container_bytes w rs)))) (number (take 2 (container_bytes w rs))) 0 (take (63 * (w + 8)) (drop 16 (container_bytes w rs))) (drop (body_at w) (container_bytes w rs)) = λ i. EntriesOk w (sym u i) (sym k i) 0 (sym fr i) (sym bd i) in
    let cnt = f.fits.count in
    record { header = record { count = omega arith; zeros = header_zeros w rs }; entries = subst (λ X. X) same t }

-- slots in order are the file of what they read as
pub containers_file : (w n : ℕ) (bs : List ℕ) → Bytes bs → length bs ≡ n * container_size w → ContainersOk w n bs → (bs ≡ file w (read_file w n bs)) × AllByRecursion (Stored w) (read_file w n bs)
containers_file w zero [] b l ok = (refl, tt)
containers_file w zero (x ∷ xs) b l ok = absurd (omega arith)
containers_file w (suc n) bs b l ok =
    let B : ℕ → Type 0 = λ x. x < 256 in
    let S = container_size w in
    let sm : length bs ≡ n * S + S = l ∙ suc-mul n S in
    let lt : length (take S bs) ≡ S = length-take-le S bs (let t = sm in omega arith) in
    let a = accepts w (take S bs) (All-take B S bs b) lt ok.0 in
    let ld : length (drop S bs) ≡ n * S = length-drop S bs ∙ (let t = sm in omega arith) in
    let t = containers_file w n (drop S bs) (All-drop B S bs b) ld ok.1 in
    (sym (take-append-drop S bs) ∙ (λ i. sym a.0 i ++ t.0 i), (a.1, t.1))

-- and a file's slots are in order
pub file_containers : (w : ℕ) (cs : Contents) → AllByRecursion (Stored w) cs → ContainersOk w (length cs) (file w cs)
file_containers w [] h = tt
file_containers w (c ∷ cs) h =
    let l = length_container w c h.0 in
    let a : take (container_size w) (container_bytes w c ++ file w cs) ≡ container_bytes w c = take_at (container_bytes w c) (file w cs) _ l in
    let b : drop (container_size w) (container_bytes w c ++ file w cs) ≡ file w cs = drop_at (container_bytes w c) (file w cs) _ l in
    (subst (ContainerOk w) (sym a) (accepted w c h.0), subst (ContainersOk w (length cs)) (sym b) (file_containers w cs h.1))

-- two lists with one file are one
pub one_list : (w : ℕ) (cs ds : Contents) → AllByRecursion (Stored w) cs → AllByRecursion (Stored w) ds → file w cs ≡ file w ds → cs ≡ ds
one_list w cs ds hc hd e =
    let l : length cs * container_size w ≡ length ds * container_size w = sym (length-file w cs hc) ∙ ap length e ∙ length-file w ds hd in
    let n : length cs ≡ length ds = eq_of_mul-eq-mul_right (container_size w) (omega arith) (length cs) (length ds) l in
    sym (reads_back w cs hc) ∙ (λ i. read_file w (n i) (e i)) ∙ reads_back w ds hd

pub is_file : (w n : ℕ) (bs : List ℕ) → Bytes bs → Count w (length bs) n → ContainersOk w n bs → IsFile w n bs
is_file w n bs b count ok =
    let t = containers_file w n bs b count.length ok in
    let c = length-read_file w n bs in
    let some = count.some in
    let few = count.few in
    record {
      count = c;
      limits = record { some = omega arith; few = omega arith; each = t.1 };
      bytes = t.0;
      only = λ cs h e. one_list w cs (read_file w n bs) h.each t.1 (sym e ∙ t.0);
    }

-- the quotient is the only number whose length this can be
pub no_count : (w size len : ℕ) → size ≡ container_size w → (Count w len (len / size) → ⊥) → NoCount w len
no_count w size len s bad n some few l =
    let e : len ≡ n * size = l ∙ ap (λ k. n * k) (sym s) in
    let q : len / size ≡ n = ap (λ k. k / size) e ∙ mul-div_left n (omega arith) in
    bad (subst (Count w len) (sym q) (record { some = some; few = few; length = l }))

-- a file has the length of its containers
pub no_list : (w : ℕ) (bs : List ℕ) → NoCount w (length bs) → NoFile w bs
no_list w bs none cs h e = none (length cs) h.some h.few (ap length e ∙ length-file w cs h.each)

-- no file where a container is out of order
pub no_file : (w n : ℕ) (bs : List ℕ) → length bs ≡ n * container_size w → (ContainersOk w n bs → ⊥) → NoFile w bs
no_file w n bs long bad cs h e =
    let l : length cs * container_size w ≡ n * container_size w = sym (length-file w cs h.each) ∙ sym (ap length e) ∙ long in
    let k : length cs ≡ n = eq_of_mul-eq-mul_right (container_size w) (omega arith) (length cs) n l in
    let same : ContainersOk w (length cs) (file w cs) ≡ ContainersOk w n bs = λ i. ContainersOk w (k i) (sym e i) in
    bad (subst (λ X. X) same (file_containers w cs h.each))

pub size_refused : (w : ℕ) (bs : List ℕ) (e : Refusal) → e ≡ untold Size → NoCount w (length bs) → Checked w bs (Err e)
size_refused w bs e is none = (no_list w bs none, inl (record { number = ap (λ x. number_of x.cause) is; place = ap (λ x. x.place) is }, none))

pub layout_refused : (w n : ℕ) (bs : List ℕ) (e : Refusal) → e ≡ untold Layout → Count w (length bs) n → (ContainersOk w n bs → ⊥) → Checked w bs (Err e)
layout_refused w n bs e is count bad = (no_file w n bs count.length bad, inr (record { number = ap (λ x. number_of x.cause) is; place = ap (λ x. x.place) is }, (n, count)))

first_container : (w : ℕ) (bs : List ℕ) → drop (0 * container_size w) bs ≡ bs
first_container w bs = ap (λ m. drop m bs) (zero-mul (container_size w))

next_container : (w k : ℕ) (bs : List ℕ) → drop (suc k * container_size w) bs ≡ drop (k * container_size w) (drop (container_size w) bs)
next_container w k bs = ap (λ m. drop m bs) (suc-mul k (container_size w) ∙ add_comm _ _) ∙ sym (drop-drop (k * container_size w) (container_size w) bs)

-- n containers are in order where each is
pub from_each : (w n : ℕ) (bs : List ℕ) → ((k : ℕ) → k < n → ContainerOk w (take (container_size w) (drop (k * container_size w) bs))) → ContainersOk w n bs
from_each w zero bs h = tt
from_each w (suc n) bs h = (subst (λ xs. ContainerOk w (take (container_size w) xs)) (first_container w bs) (h 0 (omega arith)), from_each w n (drop (container_size w) bs) (λ k l. subst (λ xs. ContainerOk w (take (container_size w) xs)) (next_container w k bs) (h (suc k) (omega arith))))

pub to_each : (w n : ℕ) (bs : List ℕ) → length bs ≡ n * container_size w → ContainersOk w n bs → (k : ℕ) → k * container_size w + container_size w ≤ length bs → ContainerOk w (take (container_size w) (drop (k * container_size w) bs))
to_each w zero bs long ok k l = absurd (omega arith)
to_each w (suc n) bs long ok zero l = subst (λ xs. ContainerOk w (take (container_size w) xs)) (sym (first_container w bs)) ok.0
to_each w (suc n) bs long ok (suc k) l =
    let S = container_size w in
    let a = suc-mul n S in
    let b = suc-mul k S in
    let c = length-drop S bs in
    subst (λ xs. ContainerOk w (take S xs)) (sym (next_container w k bs)) (to_each w n (drop S bs) (omega arith) ok.1 k (omega arith))
