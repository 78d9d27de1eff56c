-- Where the record of a place stands in a file.
use Rattle.std.proofs.Common.{◌≡◌, ℕ, zero, suc, ◌+◌, ◌-◌, ◌*◌, ◌<◌, ◌≤◌, List, [], ◌∷◌, ◌++◌, length, get_or, take, drop, replicate, sym, refl, ap, ◌∙◌, add_assoc, arith}
use Rattle.std.proofs.lemmas.List.{append_assoc, take_at, drop_at, get_or_at, get_or-drop, drop-drop, length-append, length-take-le}
use Rattle.std.proofs.ByRecursion.{All-take, All-get_or}
use Rattle.keys.specs.Octets.{little, number}
use Rattle.keys.specs.Little.{number-little}
use Rattle.records.specs.Limits.{Storable}
use Rattle.records.specs.Records.{Rec, no_record}
use Rattle.container_format.specs.Layout.{payloads, entry, entries, body_at, container_size}
use Rattle.container_format.specs.Reading.{read_file, EntryOf}
use Rattle.container_format.specs.Checking.{Intact}
use Rattle.container_format.proofs.Round.{laid, length-laid, from_w, length-entries, length_front, used_fits}
use Rattle.container_format.proofs.Files.{around, container_form, intact_space, row_all}

entries-cut : (off : ℕ) (rs : List Rec) (i : ℕ) → i < length rs → entries off rs ≡ entries off (take i rs) ++ (entry (off + length (payloads (take i rs))) (get_or rs i no_record) ++ entries (off + length (payloads (take i rs)) + length (get_or rs i no_record).payload) (drop (suc i) rs))
entries-cut off [] i h = absurd (omega arith)
entries-cut off (r ∷ rs) zero h = let z : off ≡ off + 0 = omega arith in ap (λ x. entry x r ++ entries (x + length r.payload) rs) z
entries-cut off (r ∷ rs) (suc i) h =
    let n : off + length r.payload + length (payloads (take i rs)) ≡ off + length (r.payload ++ payloads (take i rs)) = simp length-append (omega arith) in
    ap (λ y. entry off r ++ y) (entries-cut (off + length r.payload) rs i (omega arith)) ∙ sym (append_assoc (entry off r) _ _) ∙ ap (λ m. (entry off r ++ entries (off + length r.payload) (take i rs)) ++ (entry m (get_or rs i no_record) ++ entries (m + length (get_or rs i no_record).payload) (drop (suc i) rs))) n

payloads-cut : (rs : List Rec) (i : ℕ) → i < length rs → payloads rs ≡ payloads (take i rs) ++ ((get_or rs i no_record).payload ++ payloads (drop (suc i) rs))
payloads-cut [] i h = absurd (omega arith)
payloads-cut (r ∷ rs) zero h = refl
payloads-cut (r ∷ rs) (suc i) h = ap (λ y. r.payload ++ y) (payloads-cut rs i (omega arith)) ∙ sym (append_assoc r.payload _ _)

pub find : (w n c i : ℕ) (bs : List ℕ) → Intact w n bs → c < n → i < length (get_or (read_file w n bs) c []) → EntryOf w bs (c * container_size w + (16 + i * (w + 8))) (c * container_size w + body_at w) (get_or (get_or (read_file w n bs) c []) i no_record)
find w n c i bs g h hi =
    let rs = get_or (read_file w n bs) c [] in
    let a = around w n c bs g h in
    let r = get_or rs i no_record in
    let off = length (payloads (take i rs)) in
    let fits = a.stored in
    let rf : Storable w r = All-get_or (Storable w) rs i no_record hi fits.each in
    let hd : List ℕ = little 2 (length rs) ++ (little 2 (length (payloads rs)) ++ replicate 12 0) in
    let E0 = entries 0 (take i rs) in
    let E1 = entries (off + length r.payload) (drop (suc i) rs) in
    let Z : List ℕ = replicate ((63 - length rs) * (w + 8)) 0 in
    let Y : List ℕ = replicate (7168 - length (payloads rs)) 0 in
    let rest : List ℕ = E1 ++ (Z ++ (payloads rs ++ (Y ++ a.behind))) in
    let ec : entries 0 rs ≡ E0 ++ (entry off r ++ E1) = entries-cut 0 rs i hi ∙ (let z : 0 + off ≡ off = omega arith in ap (λ x. E0 ++ (entry x r ++ entries (x + length r.payload) (drop (suc i) rs))) z) in
    let X : List ℕ = a.before ++ (hd ++ E0) in
    let lE : length E0 ≡ i * (w + 8) = length-entries w 0 (take i rs) (All-take (Storable w) i rs fits.each) ∙ ap (λ k. k * (w + 8)) (length-take-le i rs (omega arith)) in
    let lX : length X ≡ c * container_size w + (16 + i * (w + 8)) = length-append a.before (hd ++ E0) ∙ (let b = a.at in let t = length-append hd E0 in (λ j. b j + (length-append hd E0 ∙ ap (λ k. 16 + k) lE) j)) in
    let b1 : bs ≡ X ++ laid r off rest = a.is ∙ ap (λ y. a.before ++ (y ++ a.behind)) (container_form w rs) ∙ ap (λ y. a.before ++ ((little 2 (length rs) ++ (little 2 (length (payloads rs)) ++ (replicate 12 0 ++ (y ++ (Z ++ (payloads rs ++ Y)))))) ++ a.behind)) ec ∙ simp append_assoc in
    let at : (k : ℕ) → drop (c * container_size w + (16 + i * (w + 8)) + k) bs ≡ drop k (laid r off rest) = λ k. sym (drop-drop k (c * container_size w + (16 + i * (w + 8))) bs) ∙ ap (λ y. drop k (drop (c * container_size w + (16 + i * (w + 8))) y)) b1 ∙ ap (drop k) (drop_at X (laid r off rest) _ lX) in
    let bc = payloads-cut rs i hi in
    let rm : off + length r.payload ≤ 7168 = (let t = ap length bc ∙ length-append (payloads (take i rs)) (r.payload ++ payloads (drop (suc i) rs)) in let q = length-append r.payload (payloads (drop (suc i) rs)) in let u = used_fits w rs fits in omega arith) in
    let front : List ℕ = entries 0 rs ++ Z in
    let V : List ℕ = a.before ++ (hd ++ (front ++ payloads (take i rs))) in
    let lV : length V ≡ c * container_size w + (body_at w + off) = length-append a.before _ ∙ (let b = a.at in λ j. b j + (length-append hd (front ++ payloads (take i rs)) ∙ ap (λ k. 16 + k) (length-append front (payloads (take i rs)) ∙ ap (λ k. k + off) (length_front w rs fits)) ∙ sym (add_assoc 16 (63 * (w + 8)) off)) j) in
    let b2 : bs ≡ V ++ (r.payload ++ (payloads (drop (suc i) rs) ++ (Y ++ a.behind))) = a.is ∙ ap (λ y. a.before ++ (y ++ a.behind)) (container_form w rs) ∙ ap (λ y. a.before ++ ((little 2 (length rs) ++ (little 2 (length (payloads rs)) ++ (replicate 12 0 ++ (entries 0 rs ++ (Z ++ (y ++ Y)))))) ++ a.behind)) bc ∙ simp append_assoc in
    let base = c * container_size w in
    let start = base + (16 + i * (w + 8)) in
    let size = intact_space w n c bs g h in
    let row = row_all i (w + 8) (let k = fits.fits.count in omega arith) in
    let z0 : start + 0 ≡ start = omega arith in
    let front0 : drop start bs ≡ laid r off rest = ap (λ k. drop k bs) (sym z0) ∙ at 0 in
    let offset : number (take 4 (drop (start + (w + 4)) bs)) ≡ off = ap (λ y. number (take 4 y)) (at (w + 4) ∙ from_w w r off rest rf 4) ∙ number-little 4 off (omega (arith, rm)) in
    let place : base + body_at w + number (take 4 (drop (start + (w + 4)) bs)) ≡ base + (body_at w + off) = ap (λ k. base + body_at w + k) offset ∙ add_assoc base (body_at w) off in
    record {
      inside = omega arith;
      level = sym (get_or-drop start bs w 0) ∙ ap (λ y. get_or y w 0) front0 ∙ get_or_at r.fingerprint r.level _ 0 w rf.typed.wide;
      fingerprint = ap (take w) front0 ∙ take_at r.fingerprint _ w rf.typed.wide;
      long = ap (λ y. number (take 2 y)) (at (w + 2)) ∙ length-laid w r off rest rf;
      payload = ap (λ k. take (length r.payload) (drop k bs)) place ∙ ap (λ y. take (length r.payload) (drop (base + (body_at w + off)) y)) b2 ∙ ap (take (length r.payload)) (drop_at V _ _ lV) ∙ take_at r.payload _ _ refl;
      within = (let k = place in omega arith);
    }
