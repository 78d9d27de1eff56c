-- Three writes into a container that append a record to it.
use Rattle.std.proofs.Common.{◌≡◌, ℕ, ◌+◌, ◌-◌, ◌*◌, ◌<◌, ◌≤◌, List, [], ◌∷◌, ◌++◌, length, get_or, take, drop, set, replicate, sym, refl, ap, ◌∙◌, subst, add-mul, arith}
use Rattle.std.proofs.lemmas.List.{append_assoc, append-nil, take_at, drop_at, drop-drop, take-append-drop, length-append, length-replicate, length-take-le, length-drop, replicate-append-replicate}
use Rattle.std.proofs.ByRecursion.{All-push}
use Rattle.keys.specs.Octets.{little}
use Rattle.records.specs.Limits.{Storable, Stored}
use Rattle.records.specs.Records.{Rec}
use Rattle.container_format.specs.Layout.{payloads, entry, entries, body_at, container_size, container_bytes}
use Rattle.container_format.specs.Reading.{read_file}
use Rattle.container_format.specs.Checking.{Intact}
use Rattle.container_format.specs.Writing.{written}
use Rattle.container_format.proofs.Turn.{row_more}
use Rattle.container_format.proofs.Round.{length-entry, length-entries, length_container, stored_from}
use Rattle.container_format.proofs.Files.{form, container_form, around, row_all}

pub written_at : (a : ℕ) (p m q ys : List ℕ) → length p ≡ a → length m ≡ length ys → written a ys (p ++ (m ++ q)) ≡ p ++ (ys ++ q)
written_at a p m q ys lp lm =
    let t : take a (p ++ (m ++ q)) ≡ p = take_at p (m ++ q) a lp in
    let d : drop (a + length ys) (p ++ (m ++ q)) ≡ q = sym (drop-drop (length ys) a (p ++ (m ++ q))) ∙ ap (drop (length ys)) (drop_at p (m ++ q) a lp) ∙ drop_at m q (length ys) lm in
    λ i. t i ++ (ys ++ d i)

-- a write inside s, which stands between p and q
pub written_in : (b a : ℕ) (p s q ys : List ℕ) → length p ≡ b → a + length ys ≤ length s → written (b + a) ys (p ++ (s ++ q)) ≡ p ++ (written a ys s ++ q)
written_in b a p s q ys lp space =
    let m = take (length ys) (drop a s) in
    let r = drop (a + length ys) s in
    let x : s ≡ take a s ++ (m ++ r) = sym (take-append-drop a s) ∙ ap (λ y. take a s ++ y) (sym (take-append-drop (length ys) (drop a s)) ∙ ap (λ y. m ++ y) (drop-drop (length ys) a s)) in
    let l : length (p ++ take a s) ≡ b + a = length-append p (take a s) ∙ (let k = length-take-le a s (omega arith) in omega arith) in
    let n : length m ≡ length ys = length-take-le (length ys) (drop a s) (simp length-drop (omega arith)) in
    let y : p ++ (s ++ q) ≡ (p ++ take a s) ++ (m ++ (r ++ q)) = ap (λ z. p ++ (z ++ q)) x ∙ simp append_assoc in
    ap (written (b + a) ys) y ∙ written_at (b + a) (p ++ take a s) m (r ++ q) ys l n ∙ simp append_assoc

-- the payload into the body
form_body : (w k u : ℕ) (e z b m q pay : List ℕ) → length e + length z ≡ 63 * (w + 8) → length b ≡ u → length m ≡ length pay → written (body_at w + u) pay (form k u e z b (m ++ q)) ≡ form k u e z (b ++ pay) q
form_body w k u e z b m q pay le1 lb lm =
    let p = little 2 k ++ (little 2 u ++ (replicate 12 0 ++ (e ++ (z ++ b)))) in
    let x : form k u e z b (m ++ q) ≡ p ++ (m ++ q) = simp append_assoc in
    let l : length p ≡ body_at w + u = simp length-append (omega arith) in
    ap (written (body_at w + u) pay) x ∙ written_at (body_at w + u) p m q pay l lm ∙ simp append_assoc

-- the entry into the entries
form-entry : (at k u : ℕ) (e m z b y new : List ℕ) → 16 + length e ≡ at → length m ≡ length new → written at new (form k u e (m ++ z) b y) ≡ form k u (e ++ new) z b y
form-entry at k u e m z b y new le1 lm =
    let p = little 2 k ++ (little 2 u ++ (replicate 12 0 ++ e)) in
    let x : form k u e (m ++ z) b y ≡ p ++ (m ++ (z ++ (b ++ y))) = simp append_assoc in
    let l : length p ≡ at = simp length-append (omega arith) in
    ap (written at new) x ∙ written_at at p m (z ++ (b ++ y)) new l lm ∙ simp append_assoc

form_header : (k u k' u' : ℕ) (e z b y : List ℕ) → written 0 (little 2 k' ++ little 2 u') (form k u e z b y) ≡ form k' u' e z b y
form_header k u k' u' e z b y = refl

pub payloads_push : (rs : List Rec) (r : Rec) → payloads (rs ++ r ∷ []) ≡ payloads rs ++ r.payload
payloads_push [] r = append-nil r.payload
payloads_push (x ∷ rs) r = ap (λ y. x.payload ++ y) (payloads_push rs r) ∙ sym (append_assoc x.payload (payloads rs) r.payload)

pub entries_push : (off : ℕ) (rs : List Rec) (r : Rec) → entries off (rs ++ r ∷ []) ≡ entries off rs ++ entry (off + length (payloads rs)) r
entries_push off [] r = let z : off + 0 ≡ off = omega arith in append-nil (entry off r) ∙ ap (λ n. entry n r) (sym z)
entries_push off (x ∷ rs) r =
    let n : (off + length x.payload) + length (payloads rs) ≡ off + length (x.payload ++ payloads rs) = simp length-append (omega arith) in
    ap (λ y. entry off x ++ y) (entries_push (off + length x.payload) rs r) ∙ sym (append_assoc (entry off x) _ _) ∙ ap (λ m. (entry off x ++ entries (off + length x.payload) rs) ++ entry m r) n

module _ (w : ℕ) (rs : List Rec) (r : Rec) (fits : Stored w rs) (new : Storable w r) (one : length rs < 63) (space : length (payloads rs) + length r.payload ≤ 7168) where
  abbrev k : ℕ
  k = length rs

  abbrev u : ℕ
  u = length (payloads rs)

  abbrev n : ℕ
  n = length r.payload

  length_push' : length (rs ++ r ∷ []) ≡ k + 1
  length_push' = length-append rs (r ∷ [])

  used_push : length (payloads (rs ++ r ∷ [])) ≡ u + n
  used_push = ap length (payloads_push rs r) ∙ length-append (payloads rs) r.payload

  pub stored_push : Stored w (rs ++ r ∷ [])
  stored_push =
      let a = length_push' in
      let b = used_push in
      stored_from w (rs ++ r ∷ []) (omega arith) (omega arith) (All-push (Storable w) rs r fits.each new)

  pub container_append : written 0 (little 2 (k + 1) ++ little 2 (u + n)) (written (16 + k * (w + 8)) (entry u r) (written (body_at w + u) r.payload (container_bytes w rs))) ≡ container_bytes w (rs ++ r ∷ [])
  container_append =
      let E = entries 0 rs in
      let B = payloads rs in
      let Z = replicate ((63 - k) * (w + 8)) 0 in
      let m1 = replicate n 0 in
      let q1 = replicate (7168 - (u + n)) 0 in
      let m2 = replicate (w + 8) 0 in
      let q2 = replicate ((63 - (k + 1)) * (w + 8)) 0 in
      let y : replicate (7168 - u) 0 ≡ m1 ++ q1 = (let e : 7168 - u ≡ n + (7168 - (u + n)) = omega arith in ap (λ j. replicate j 0) e ∙ sym (replicate-append-replicate n (7168 - (u + n)) 0)) in
      let z : Z ≡ m2 ++ q2 = (let e : (63 - k) * (w + 8) ≡ (w + 8) + (63 - (k + 1)) * (w + 8) = (let t = row_more 63 k (w + 8) one in omega arith) in ap (λ j. replicate j 0) e ∙ sym (replicate-append-replicate (w + 8) ((63 - (k + 1)) * (w + 8)) 0)) in
      let lE = length-entries w 0 rs fits.each in
      let lZ : length Z ≡ (63 - k) * (w + 8) = length-replicate {A = ℕ} ((63 - k) * (w + 8)) 0 in
      let all : length E + length Z ≡ 63 * (w + 8) = (let d = add-mul k (63 - k) (w + 8) in let s : k + (63 - k) ≡ 63 = omega arith in let f = ap (λ j. j * (w + 8)) s in omega arith) in
      let lm1 : length m1 ≡ length r.payload = length-replicate {A = ℕ} n 0 in
      let lm2 : length m2 ≡ length (entry u r) = length-replicate {A = ℕ} (w + 8) 0 ∙ sym (length-entry w u r new) in
      let s0 : container_bytes w rs ≡ form k u E Z B (m1 ++ q1) = container_form w rs ∙ ap (form k u E Z B) y in
      let s1 : written (body_at w + u) r.payload (container_bytes w rs) ≡ form k u E Z (B ++ r.payload) q1 = ap (written (body_at w + u) r.payload) s0 ∙ form_body w k u E Z B m1 q1 r.payload all refl lm1 in
      let s1' : written (body_at w + u) r.payload (container_bytes w rs) ≡ form k u E (m2 ++ q2) (B ++ r.payload) q1 = s1 ∙ ap (λ x. form k u E x (B ++ r.payload) q1) z in
      let s2 : written (16 + k * (w + 8)) (entry u r) (form k u E (m2 ++ q2) (B ++ r.payload) q1) ≡ form k u (E ++ entry u r) q2 (B ++ r.payload) q1 = form-entry (16 + k * (w + 8)) k u E m2 q2 (B ++ r.payload) q1 (entry u r) (ap (λ x. 16 + x) lE) lm2 in
      let z0 : 0 + u ≡ u = omega arith in
      let e' : E ++ entry u r ≡ entries 0 (rs ++ r ∷ []) = sym (entries_push 0 rs r ∙ ap (λ x. E ++ entry x r) z0) in
      let b' : B ++ r.payload ≡ payloads (rs ++ r ∷ []) = sym (payloads_push rs r) in
      let k' = sym length_push' in
      let u' = sym used_push in
      ap (λ x. written 0 (little 2 (k + 1) ++ little 2 (u + n)) (written (16 + k * (w + 8)) (entry u r) x)) s1'
      ∙ ap (written 0 (little 2 (k + 1) ++ little 2 (u + n))) s2
      ∙ form_header k u (k + 1) (u + n) (E ++ entry u r) q2 (B ++ r.payload) q1
      ∙ (λ i. form (k' i) (u' i) (e' i) (replicate ((63 - k' i) * (w + 8)) 0) (b' i) (replicate (7168 - u' i) 0))
      ∙ sym (container_form w (rs ++ r ∷ []))

pub length-written : (a : ℕ) (ys xs : List ℕ) → a + length ys ≤ length xs → length (written a ys xs) ≡ length xs
length-written a ys xs h =
    let t = length-take-le a xs (omega arith) in
    let d = length-drop (a + length ys) xs in
    simp length-append (omega arith)

-- three writes that append a record to the container c
pub intact_append : (w n c a1 a2 : ℕ) (bs b1 b2 b3 pay ent head : List ℕ) (r : Rec) → (g : Intact w n bs) → (h : c < n) →
    let rs = get_or (read_file w n bs) c [] in
    Storable w r → length rs < 63 → length (payloads rs) + length r.payload ≤ 7168 →
    a1 ≡ c * container_size w + (body_at w + length (payloads rs)) → a2 ≡ c * container_size w + (16 + length rs * (w + 8)) →
    pay ≡ r.payload → ent ≡ entry (length (payloads rs)) r → head ≡ little 2 (length rs + 1) ++ little 2 (length (payloads rs) + length r.payload) →
    b1 ≡ written a1 pay bs → b2 ≡ written a2 ent b1 → b3 ≡ written (c * container_size w) head b2 →
    Intact w n b3 × (read_file w n b3 ≡ set (read_file w n bs) c (rs ++ r ∷ []))
intact_append w n c a1 a2 bs b1 b2 b3 pay ent head r g h new one space e1 e2 ep ee eh w1 w2 w3 =
    let rs = get_or (read_file w n bs) c [] in
    let a = around w n c bs g h in
    let s = container_bytes w rs in
    let base = c * container_size w in
    let u = length (payloads rs) in
    let o1 = body_at w + u in
    let o2 = 16 + length rs * (w + 8) in
    let E = entry u r in
    let H = little 2 (length rs + 1) ++ little 2 (u + length r.payload) in
    let s1 = written o1 r.payload s in
    let s2 = written o2 E s1 in
    let ls : length s ≡ container_size w = length_container w rs a.stored in
    let r1 : o1 + length r.payload ≤ length s = omega arith in
    let l1 : length s1 ≡ length s = length-written o1 r.payload s r1 in
    let lE : length E ≡ w + 8 = length-entry w u r new in
    let rows = row_more 63 (length rs) (w + 8) one in
    let full = row_all (length rs) (w + 8) (omega arith) in
    let r2 : o2 + length E ≤ length s1 = omega arith in
    let l2 : length s2 ≡ length s1 = length-written o2 E s1 r2 in
    let z : base + 0 ≡ base = omega arith in
    let x1 : b1 ≡ a.before ++ (s1 ++ a.behind) = w1 ∙ (λ i. written (e1 i) (ep i) (a.is i)) ∙ written_in base o1 a.before s a.behind r.payload a.at r1 in
    let x2 : b2 ≡ a.before ++ (s2 ++ a.behind) = w2 ∙ (λ i. written (e2 i) (ee i) (x1 i)) ∙ written_in base o2 a.before s1 a.behind E a.at r2 in
    let x3 : b3 ≡ a.before ++ (written 0 H s2 ++ a.behind) = w3 ∙ (λ i. written (sym z i) (eh i) (x2 i)) ∙ written_in base 0 a.before s2 a.behind H a.at (omega arith) in
    let x4 : b3 ≡ a.before ++ (container_bytes w (rs ++ r ∷ []) ++ a.behind) = x3 ∙ ap (λ y. a.before ++ (y ++ a.behind)) (container_append w rs r a.stored new one space) in
    let P : List ℕ → Type 0 = λ y. Intact w n y × (read_file w n y ≡ set (read_file w n bs) c (rs ++ r ∷ [])) in
    subst P (sym x4) (a.other (rs ++ r ∷ []) (stored_push w rs r a.stored new one space))

-- two writes, one behind the other
pub written_twice : (a b : ℕ) (xs ys bs : List ℕ) → b ≡ a + length xs → b + length ys ≤ length bs → written b ys (written a xs bs) ≡ written a (xs ++ ys) bs
written_twice a b xs ys bs e space =
    let m = take (length ys) (drop (a + length xs) bs) in
    let q = drop (a + length xs + length ys) bs in
    let d : drop (a + length xs) bs ≡ m ++ q = sym (take-append-drop (length ys) (drop (a + length xs) bs)) ∙ ap (λ y. m ++ y) (drop-drop (length ys) (a + length xs) bs) in
    let lm : length m ≡ length ys = length-take-le (length ys) (drop (a + length xs) bs) (simp length-drop (omega arith)) in
    let p = take a bs ++ xs in
    let lp : length p ≡ b = length-append (take a bs) xs ∙ (let t = length-take-le a bs (omega arith) in omega arith) in
    let x : written a xs bs ≡ p ++ (m ++ q) = ap (λ y. take a bs ++ (xs ++ y)) d ∙ sym (append_assoc (take a bs) xs (m ++ q)) in
    let k : a + length xs + length ys ≡ a + length (xs ++ ys) = (let t = length-append xs ys in omega arith) in
    ap (written b ys) x ∙ written_at b p m q ys lp lm ∙ append_assoc (take a bs) xs (ys ++ q) ∙ ap (λ y. take a bs ++ y) (sym (append_assoc xs ys q)) ∙ ap (λ j. take a bs ++ ((xs ++ ys) ++ drop j bs)) k
