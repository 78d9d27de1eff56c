-- A file reads back as what it was written from.
use Rattle.std.proofs.Common.{◌≡◌, ℕ, ◌+◌, ◌-◌, ◌*◌, ◌≤◌, List, [], ◌∷◌, ◌++◌, length, get_or, take, drop, replicate, sym, refl, ap, ◌∙◌, suc-mul, add-mul, arith}
use Rattle.std.specs.List.{AllByRecursion}
use Rattle.std.proofs.lemmas.List.{append_assoc, take_at, drop_at, get_or_at, drop-drop, length-append, length-replicate}
use Rattle.keys.specs.Octets.{little, number}
use Rattle.keys.specs.Little.{number-little}
use Rattle.records.specs.Limits.{Storable, Stored}
use Rattle.records.specs.Records.{Rec, Contents, payload_bytes}
use Rattle.container_format.specs.Layout.{payloads, entry, entries, body_at, container_size, container_bytes, file}
use Rattle.container_format.specs.Reading.{length_in, read_record, read_records, read_container, read_file}

pub length-payloads : (rs : List Rec) → length (payloads rs) ≡ payload_bytes rs
length-payloads [] = refl
length-payloads (r ∷ rs) = length-append r.payload (payloads rs) ∙ ap (λ n. length r.payload + n) (length-payloads rs)

-- the limit on payload bytes, as the body has them
pub used_fits : (w : ℕ) (rs : List Rec) → Stored w rs → length (payloads rs) ≤ 7168
used_fits w rs h = let e = length-payloads rs in let b = h.fits.bytes in omega arith

pub stored_from : (w : ℕ) (rs : List Rec) → length rs ≤ 63 → length (payloads rs) ≤ 7168 → AllByRecursion (Storable w) rs → Stored w rs
stored_from w rs count used each = let e = length-payloads rs in record { fits = record { count = count; bytes = omega arith }; each = each }

-- an entry with what follows it, the appends to the right
abbrev pub laid : Rec → ℕ → List ℕ → List ℕ
laid r off rest = r.fingerprint ++ (r.level ∷ 0 ∷ (little 2 (length r.payload) ++ (little 4 off ++ rest)))

pub laid_is : (r : Rec) (off : ℕ) (rest : List ℕ) → entry off r ++ rest ≡ laid r off rest
laid_is r off rest = simp append_assoc

module _ (w : ℕ) (r : Rec) (off : ℕ) (rest : List ℕ) (fits : Storable w r) where
  abbrev tail : List ℕ
  tail = r.level ∷ 0 ∷ (little 2 (length r.payload) ++ (little 4 off ++ rest))

  pub from_w : (k : ℕ) → drop (w + k) (laid r off rest) ≡ drop k tail
  from_w k = sym (drop-drop k w (laid r off rest)) ∙ ap (drop k) (drop_at r.fingerprint tail w fits.typed.wide)

  pub length-laid : length_in w (laid r off rest) ≡ length r.payload
  length-laid = ap (λ x. number (take 2 x)) (from_w 2) ∙ number-little 2 (length r.payload) (let f = fits.few in omega arith)

  pub drop-laid : drop (w + 8) (laid r off rest) ≡ rest
  drop-laid = from_w 8

  pub read_laid : (bs : List ℕ) → read_record w (laid r off rest) (r.payload ++ bs) ≡ r
  read_laid bs =
      let a : get_or (laid r off rest) w 0 ≡ r.level = get_or_at r.fingerprint r.level _ 0 w fits.typed.wide in
      let b : take w (laid r off rest) ≡ r.fingerprint = take_at r.fingerprint _ w fits.typed.wide in
      let d : take (length_in w (laid r off rest)) (r.payload ++ bs) ≡ r.payload = take_at r.payload bs _ (sym length-laid) in
      λ i. record { level = a i; fingerprint = b i; payload = d i }

pub read_entries : (w : ℕ) (rs : List Rec) (off : ℕ) (z y : List ℕ) → AllByRecursion (Storable w) rs → read_records w (length rs) (entries off rs ++ z) (payloads rs ++ y) ≡ rs
read_entries w [] off z y h = refl
read_entries w (r ∷ rs) off z y h =
    let rest = entries (off + length r.payload) rs ++ z in
    let body = payloads rs ++ y in
    let e : entries off (r ∷ rs) ++ z ≡ laid r off rest = append_assoc (entry off r) (entries (off + length r.payload) rs) z ∙ laid_is r off rest in
    let b : payloads (r ∷ rs) ++ y ≡ r.payload ++ body = append_assoc r.payload (payloads rs) y in
    let n = length-laid w r off rest h.0 in
    let d : drop (length_in w (laid r off rest)) (r.payload ++ body) ≡ body = drop_at r.payload body _ (sym n) in
    let c = drop-laid w r off rest h.0 in
    let x = read_laid w r off rest h.0 body in
    let t = read_entries w rs (off + length r.payload) z y h.1 in
    cc

pub length-entry : (w off : ℕ) (r : Rec) → Storable w r → length (entry off r) ≡ w + 8
length-entry w off r fits = let e = fits.typed.wide in simp length-append (omega arith)

pub length-entries : (w off : ℕ) (rs : List Rec) → AllByRecursion (Storable w) rs → length (entries off rs) ≡ length rs * (w + 8)
length-entries w off [] h = omega arith
length-entries w off (r ∷ rs) h =
    let a = length-entry w off r h.0 in
    let b = length-entries w (off + length r.payload) rs h.1 in
    let c = length-append (entry off r) (entries (off + length r.payload) rs) in
    let d = suc-mul (length rs) (w + 8) in
    omega arith

-- what lies behind the header
abbrev pub inside : ℕ → List Rec → List ℕ
inside w rs = entries 0 rs ++ (replicate ((63 - length rs) * (w + 8)) 0 ++ (payloads rs ++ replicate (7168 - length (payloads rs)) 0))

module _ (w : ℕ) (rs : List Rec) (fits : Stored w rs) where
  abbrev pub front : List ℕ
  front = entries 0 rs ++ replicate ((63 - length rs) * (w + 8)) 0

  pub length_front : length front ≡ 63 * (w + 8)
  length_front =
      let a = length-entries w 0 rs fits.each in
      let b = length-append (entries 0 rs) (replicate ((63 - length rs) * (w + 8)) 0) in
      let c = length-replicate {A = ℕ} ((63 - length rs) * (w + 8)) 0 in
      let n = fits.fits.count in
      let d = add-mul (63 - length rs) (length rs) (w + 8) in
      let e : (63 - length rs) + length rs ≡ 63 = omega arith in
      let f = ap (λ k. k * (w + 8)) e in
      omega arith

  pub drop_header : drop 16 (container_bytes w rs) ≡ inside w rs
  unfolding container_bytes
  drop_header = refl

  pub drop-front : drop (63 * (w + 8)) (inside w rs) ≡ payloads rs ++ replicate (7168 - length (payloads rs)) 0
  drop-front = ap (drop (63 * (w + 8))) (sym (append_assoc (entries 0 rs) _ _)) ∙ drop_at front _ _ length_front

  pub drop_body : drop (body_at w) (container_bytes w rs) ≡ payloads rs ++ replicate (7168 - length (payloads rs)) 0
  drop_body = sym (drop-drop (63 * (w + 8)) 16 (container_bytes w rs)) ∙ ap (drop (63 * (w + 8))) drop_header ∙ drop-front

  pub number-count : number (take 2 (container_bytes w rs)) ≡ length rs
  unfolding container_bytes
  number-count = number-little 2 (length rs) (let n = fits.fits.count in omega arith)

  pub number-used : number (take 2 (drop 2 (container_bytes w rs))) ≡ length (payloads rs)
  unfolding container_bytes
  number-used = number-little 2 (length (payloads rs)) (let n = used_fits w rs fits in omega arith)

  pub read_container_lem : read_container w (container_bytes w rs) ≡ rs
  unfolding read_container
  read_container_lem =
      let a = number-count in
      let b = drop_body in
      let c = drop_header in
      let t = read_entries w rs 0 (replicate ((63 - length rs) * (w + 8)) 0 ++ (payloads rs ++ replicate (7168 - length (payloads rs)) 0)) (replicate (7168 - length (payloads rs)) 0) fits.each in
      cc

  pub length_container : length (container_bytes w rs) ≡ container_size w
  unfolding container_bytes
  length_container =
      let a = length_front in
      let b = length-append (entries 0 rs) (replicate ((63 - length rs) * (w + 8)) 0) in
      let c = length-replicate {A = ℕ} ((63 - length rs) * (w + 8)) 0 in
      let n = used_fits w rs fits in
      simp (length-append, length-replicate) (omega arith)

pub reads_back : (w : ℕ) (cs : Contents) → AllByRecursion (Stored w) cs → read_file w (length cs) (file w cs) ≡ cs
reads_back w [] h = refl
reads_back w (c ∷ cs) h =
    let l = length_container w c h.0 in
    let a : take (container_size w) (container_bytes w c ++ file w cs) ≡ container_bytes w c = take_at (container_bytes w c) (file w cs) _ l in
    let b : drop (container_size w) (container_bytes w c ++ file w cs) ≡ file w cs = drop_at (container_bytes w c) (file w cs) _ l in
    let s = read_container_lem w c h.0 in
    let t = reads_back w cs h.1 in
    cc
