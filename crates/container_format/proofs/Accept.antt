-- A container that is in order is written of what it reads as.
use Rattle.std.proofs.Common.{◌≡◌, ℕ, zero, suc, ◌+◌, ◌-◌, ◌*◌, ◌<◌, ◌≤◌, List, [], ◌∷◌, ◌++◌, length, get_or, take, drop, replicate, sym, refl, ap, ◌∙◌, subst, suc-mul, add-mul, arith}
use Rattle.std.specs.List.{AllByRecursion}
use Rattle.std.proofs.lemmas.List.{append_assoc, drop-drop, drop_more, take-append-le, drop-append-le, take-append-drop, length-append, length-take-le, length-drop}
use Rattle.std.proofs.ByRecursion.{All-take, All-drop}
use Rattle.keys.specs.Octets.{little, number}
use Rattle.keys.specs.Little.{little-take}
use Rattle.keys.specs.Octets.{Bytes}
use Rattle.records.specs.Limits.{Storable, Stored}
use Rattle.records.specs.Records.{Rec}
use Rattle.container_format.specs.Layout.{payloads, entry, entries, body_at, container_bytes, container_size}
use Rattle.container_format.specs.Reading.{length_in, read_record, read_records, read_container}
use Rattle.container_format.specs.Checking.{EntryOk, Zeros, EntriesOk, ContainerOk}
use Rattle.container_format.proofs.Turn.{front_level, front_length}
use Rattle.container_format.proofs.Round.{laid, laid_is, inside, stored_from}

pub zeros_are : (xs : List ℕ) → Zeros xs → xs ≡ replicate (length xs) 0
zeros_are [] h = refl
zeros_are (x ∷ xs) h = let a = h.0 in let t = zeros_are xs h.1 in cc

-- a front of k behind the first n
pub next_part : (n k : ℕ) (xs : List ℕ) → drop n xs ≡ take k (drop n xs) ++ drop (n + k) xs
next_part n k xs = sym (take-append-drop k (drop n xs)) ∙ ap (λ y. take k (drop n xs) ++ y) (drop-drop k n xs)

-- what was accepted is what is written of it
module _ (w off : ℕ) (es bs : List ℕ) (long : w + 8 ≤ length es) (body : off + length bs ≡ 7168) (eb : Bytes es) (ok : EntryOk w off es) where
  abbrev r : Rec
  r = read_record w es bs

  pub length_payload : length r.payload ≡ length_in w es
  length_payload = length-take-le (length_in w es) bs (let x = ok.space in omega arith)

  pub es-laid : es ≡ laid r off (drop (w + 8) es)
  es-laid =
      let rest = drop (w + 8) es in
      let l2 : 2 ≤ length (drop (w + 2) es) = simp length-drop (omega arith) in
      let l4 : 4 ≤ length (drop (w + 4) es) = simp length-drop (omega arith) in
      let a : es ≡ take w es ++ drop w es = sym (take-append-drop w es) in
      let b : drop w es ≡ get_or es w 0 ∷ drop (w + 1) es = drop_more es w 0 (omega arith) in
      let c : drop (w + 1) es ≡ get_or es (w + 1) 0 ∷ drop (w + 1 + 1) es = drop_more es (w + 1) 0 (omega arith) in
      let k2 : w + 1 + 1 ≡ w + 2 = omega arith in
      let k4 : w + 2 + 2 ≡ w + 4 = omega arith in
      let k8 : w + 4 + 4 ≡ w + 8 = omega arith in
      let d = next_part (w + 2) 2 es in
      let e = next_part (w + 4) 4 es in
      let g = ok.gap in
      let p : little 2 (length_in w es) ≡ take 2 (drop (w + 2) es) = little-take 2 (drop (w + 2) es) l2 (All-drop (λ x. x < 256) (w + 2) es eb) in
      let q : little 4 (number (take 4 (drop (w + 4) es))) ≡ take 4 (drop (w + 4) es) = little-take 4 (drop (w + 4) es) l4 (All-drop (λ x. x < 256) (w + 4) es eb) in
      let o = ok.offset in
      let n = length_payload in
      let p' : little 2 (length r.payload) ≡ take 2 (drop (w + 2) es) = ap (little 2) n ∙ p in
      let q' : little 4 off ≡ take 4 (drop (w + 4) es) = ap (little 4) (sym o) ∙ q in
      let x4 : drop (w + 4) es ≡ little 4 off ++ rest = e ∙ ap (λ y. take 4 (drop (w + 4) es) ++ drop y es) k8 ∙ ap (λ y. y ++ rest) (sym q') in
      let x2 : drop (w + 2) es ≡ little 2 (length r.payload) ++ (little 4 off ++ rest) = d ∙ ap (λ y. take 2 (drop (w + 2) es) ++ drop y es) k4 ∙ ap (λ y. take 2 (drop (w + 2) es) ++ y) x4 ∙ ap (λ y. y ++ (little 4 off ++ rest)) (sym p') in
      let x1 : drop (w + 1) es ≡ 0 ∷ (little 2 (length r.payload) ++ (little 4 off ++ rest)) = c ∙ ap (λ y. y ∷ drop (w + 1 + 1) es) g ∙ ap (λ y. 0 ∷ drop y es) k2 ∙ ap (λ y. 0 ∷ y) x2 in
      a ∙ ap (λ y. take w es ++ y) (b ∙ ap (λ y. get_or es w 0 ∷ y) x1)

  pub rec_fits : Bytes bs → Storable w r
  rec_fits bb =
      let n = length_payload in
      let s = ok.some in
      let f = ok.few in
      record {
        typed = record {
          wide = length-take-le w es (omega arith);
          fingerprint = All-take (λ x. x < 256) w es eb;
          payload = All-take (λ x. x < 256) (length_in w es) bs bb;
        };
        level = ok.level;
        some = omega arith;
        few = omega arith;
      }

pub record Accepting (w used k j off : ℕ) (es bs : List ℕ) : Type 0 where
  pub each : AllByRecursion (Storable w) (read_records w k es bs)
  pub count : length (read_records w k es bs) ≡ k
  pub front : es ≡ entries off (read_records w k es bs) ++ replicate (j * (w + 8)) 0
  pub body : bs ≡ payloads (read_records w k es bs) ++ replicate (7168 - used) 0
  pub sum : off + length (payloads (read_records w k es bs)) ≡ used

pub accepting : (w used k j off : ℕ) (es bs : List ℕ) → length es ≡ (k + j) * (w + 8) → off + length bs ≡ 7168 → Bytes es → Bytes bs → EntriesOk w used k off es bs → Accepting w used k j off es bs
accepting w used zero j off es bs le lb eb bb ok =
    let o = ok.0 in
    let z : zero + j ≡ j = omega arith in
    let l : length bs ≡ 7168 - used = omega arith in
    record {
      each = tt;
      count = refl;
      front = zeros_are es ok.1 ∙ ap (λ n. replicate n 0) (le ∙ ap (λ n. n * (w + 8)) z);
      body = zeros_are bs ok.2 ∙ ap (λ n. replicate n 0) l;
      sum = omega arith;
    }
accepting w used (suc k) j off es bs le lb eb bb ok =
    let e = ok.0 in
    let m : suc k + j ≡ suc (k + j) = omega arith in
    let sm = suc-mul (k + j) (w + 8) in
    let le' : length es ≡ (k + j) * (w + 8) + (w + 8) = le ∙ ap (λ n. n * (w + 8)) m ∙ sm in
    let long : w + 8 ≤ length es = omega arith in
    let r = read_record w es bs in
    let rest = drop (w + 8) es in
    let more = drop (length_in w es) bs in
    let rs = read_records w k rest more in
    let space = e.space in
    let ld : length rest ≡ (k + j) * (w + 8) = length-drop (w + 8) es ∙ omega arith in
    let lm : (off + length_in w es) + length more ≡ 7168 = (let t = length-drop (length_in w es) bs in omega arith) in
    let t = accepting w used k j (off + length_in w es) rest more ld lm (All-drop (λ x. x < 256) (w + 8) es eb) (All-drop (λ x. x < 256) (length_in w es) bs bb) ok.1 in
    let n : length r.payload ≡ length_in w es = length_payload w off es bs long lb eb e in
    let x : es ≡ laid r off rest = es-laid w off es bs long lb eb e in
    let fr : rest ≡ entries (off + length r.payload) rs ++ replicate (j * (w + 8)) 0 = t.front ∙ ap (λ q. entries (off + q) rs ++ replicate (j * (w + 8)) 0) (sym n) in
    let b : bs ≡ r.payload ++ more = sym (take-append-drop (length_in w es) bs) in
    let sm' = t.sum in
    record {
      each = (rec_fits w off es bs long lb eb e bb, t.each);
      count = ap suc t.count;
      front = x ∙ sym (laid_is r off rest) ∙ ap (λ y. entry off r ++ y) fr ∙ sym (append_assoc (entry off r) _ _);
      body = b ∙ ap (λ y. r.payload ++ y) t.body ∙ sym (append_assoc r.payload _ _);
      sum = (let la = length-append r.payload (payloads rs) in omega arith);
    }

-- reading k records takes no more of the entries than k of them have
pub read_front : (w k : ℕ) (es z bs : List ℕ) → k * (w + 8) ≤ length es → read_records w k (es ++ z) bs ≡ read_records w k es bs
read_front w zero es z bs l = refl
read_front w (suc k) es z bs l =
    let sm = suc-mul k (w + 8) in
    let a : take w (es ++ z) ≡ take w es = take-append-le w es z (omega arith) in
    let long : w + 8 ≤ length es = omega arith in
    let b = front_level w es z long in
    let e : drop (w + 8) (es ++ z) ≡ drop (w + 8) es ++ z = drop-append-le (w + 8) es z (omega arith) in
    let n = front_length w es z long in
    let t = read_front w k (drop (w + 8) es) z (drop (length_in w es) bs) (simp length-drop (omega arith)) in
    cc

read_container_is : (w : ℕ) (s : List ℕ) → read_container w s ≡ read_records w (number (take 2 s)) (drop 16 s) (drop (body_at w) s)
unfolding read_container
read_container_is w s = refl

container_is : (w : ℕ) (rs : List Rec) → container_bytes w rs ≡ little 2 (length rs) ++ (little 2 (length (payloads rs)) ++ (replicate 12 0 ++ inside w rs))
unfolding container_bytes
container_is w rs = refl

pub accepts : (w : ℕ) (s : List ℕ) → Bytes s → length s ≡ container_size w → ContainerOk w s → (container_bytes w (read_container w s) ≡ s) × Stored w (read_container w s)
accepts w s sb sl ok =
    let used = number (take 2 (drop 2 s)) in
    let k = number (take 2 s) in
    let es = take (63 * (w + 8)) (drop 16 s) in
    let bs = drop (body_at w) s in
    let j = 63 - k in
    let cnt = ok.header.count in
    let kj : k + j ≡ 63 = omega arith in
    let le1 : length es ≡ 63 * (w + 8) = length-take-le _ _ (simp length-drop (omega arith)) in
    let le2 : length es ≡ (k + j) * (w + 8) = le1 ∙ ap (λ n. n * (w + 8)) (sym kj) in
    let lb : 0 + length bs ≡ 7168 = simp length-drop (omega arith) in
    let B : ℕ → Type 0 = λ x. x < 256 in
    let eb : Bytes es = All-take B _ (drop 16 s) (All-drop B 16 s sb) in
    let bb : Bytes bs = All-drop B (body_at w) s sb in
    let t = accepting w used k j 0 es bs le2 lb eb bb ok.entries in
    let x : drop 16 s ≡ es ++ bs = next_part 16 (63 * (w + 8)) s in
    let rs = read_records w k es bs in
    let is : read_container w s ≡ rs = read_container_is w s ∙ ap (λ y. read_records w k y bs) x ∙ read_front w k es bs bs (let q = add-mul k j (w + 8) in omega arith) in
    let c : length rs ≡ k = t.count in
    let u : length (payloads rs) ≡ used = (let y = t.sum in omega arith) in
    let fr = t.front in
    let bo = t.body in
    let asc = append_assoc (entries 0 rs) (replicate (j * (w + 8)) 0) bs in
    let i : inside w rs ≡ drop 16 s = cc in
    let p0 : s ≡ take 2 s ++ drop 2 s = next_part 0 2 s in
    let p2 : drop 2 s ≡ take 2 (drop 2 s) ++ drop 4 s = next_part 2 2 s in
    let p4 : drop 4 s ≡ take 12 (drop 4 s) ++ drop 16 s = next_part 4 12 s in
    let h0 : little 2 k ≡ take 2 s = little-take 2 s (omega arith) sb in
    let h2 : little 2 used ≡ take 2 (drop 2 s) = little-take 2 (drop 2 s) (simp length-drop (omega arith)) (All-drop B 2 s sb) in
    let l4 : length (take 12 (drop 4 s)) ≡ 12 = length-take-le 12 (drop 4 s) (simp length-drop (omega arith)) in
    let h4 : take 12 (drop 4 s) ≡ replicate 12 0 = zeros_are (take 12 (drop 4 s)) ok.header.zeros ∙ ap (λ n. replicate n 0) l4 in
    let f : container_bytes w rs ≡ s =
    container_is w rs ∙ ap (λ n. little 2 n ++ (little 2 (length (payloads rs)) ++ (replicate 12 0 ++ inside w rs))) c
    ∙ ap (λ n. little 2 k ++ (little 2 n ++ (replicate 12 0 ++ inside w rs))) u
    ∙ ap (λ y. little 2 k ++ (little 2 used ++ (replicate 12 0 ++ y))) i
    ∙ ap (λ y. y ++ (little 2 used ++ (replicate 12 0 ++ drop 16 s))) h0
    ∙ ap (λ y. take 2 s ++ (y ++ (replicate 12 0 ++ drop 16 s))) h2
    ∙ ap (λ y. take 2 s ++ (take 2 (drop 2 s) ++ (y ++ drop 16 s))) (sym h4)
    ∙ ap (λ y. take 2 s ++ (take 2 (drop 2 s) ++ y)) (sym p4)
    ∙ ap (λ y. take 2 s ++ y) (sym p2) ∙ sym p0
    in
    let P : List Rec → Type 0 = λ y. (container_bytes w y ≡ s) × Stored w y in
    subst P (sym is) (f, stored_from w rs (omega arith) (let y = length-append (payloads rs) (replicate (7168 - used) 0) in omega (arith, ap length bo)) t.each)
