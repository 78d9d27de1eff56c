-- A file cut around one of its containers, and what stands there.
use Rattle.std.proofs.Common.{◌≡◌, ℕ, zero, suc, ◌+◌, ◌-◌, ◌*◌, ◌<◌, ◌≤◌, List, [], ◌∷◌, ◌++◌, length, get_or, take, drop, set, replicate, sym, refl, ap, ◌∙◌, subst, le_trans, le_of_eq, mul-le-mul_right, suc-mul, add_comm, arith}
use Rattle.std.specs.List.{AllByRecursion}
use Rattle.std.proofs.lemmas.List.{append_assoc, take_at, drop_at, drop-drop, take-append-drop, length-append, length-take-le, length-drop, length-set}
use Rattle.std.proofs.ByRecursion.{All-take, All-get_or, All-set}
use Rattle.keys.specs.Octets.{little, number}
use Rattle.records.specs.Limits.{Stored}
use Rattle.records.specs.Records.{Rec, Contents}
use Rattle.container_format.specs.Layout.{payloads, entries, container_size, container_bytes, file}
use Rattle.container_format.specs.Reading.{read_file}
use Rattle.container_format.specs.Checking.{Intact}
use Rattle.container_format.proofs.Round.{length_container, read_container_lem, number-count, number-used}

-- the parts of a container, one behind the other
abbrev pub form : ℕ → ℕ → List ℕ → List ℕ → List ℕ → List ℕ → List ℕ
form k u e z b y = little 2 k ++ (little 2 u ++ (replicate 12 0 ++ (e ++ (z ++ (b ++ y)))))

pub container_form : (w : ℕ) (rs : List Rec) → container_bytes w rs ≡ form (length rs) (length (payloads rs)) (entries 0 rs) (replicate ((63 - length rs) * (w + 8)) 0) (payloads rs) (replicate (7168 - length (payloads rs)) 0)
unfolding container_bytes
container_form w rs = refl

-- a file, cut before and behind the container c
pub file-cut : (w : ℕ) (cs : Contents) (c : ℕ) → c < length cs → file w cs ≡ file w (take c cs) ++ (container_bytes w (get_or cs c []) ++ file w (drop (suc c) cs))
file-cut w [] c h = absurd (omega arith)
file-cut w (x ∷ cs) zero h = refl
file-cut w (x ∷ cs) (suc c) h = ap (λ y. container_bytes w x ++ y) (file-cut w cs c (omega arith)) ∙ sym (append_assoc (container_bytes w x) _ _)

pub file-set : (w : ℕ) (cs : Contents) (c : ℕ) (rs : List Rec) → c < length cs → file w (set cs c rs) ≡ file w (take c cs) ++ (container_bytes w rs ++ file w (drop (suc c) cs))
file-set w [] c rs h = absurd (omega arith)
file-set w (x ∷ cs) zero rs h = refl
file-set w (x ∷ cs) (suc c) rs h = ap (λ y. container_bytes w x ++ y) (file-set w cs c rs (omega arith)) ∙ sym (append_assoc (container_bytes w x) _ _)

pub length-file : (w : ℕ) (cs : Contents) → AllByRecursion (Stored w) cs → length (file w cs) ≡ length cs * container_size w
length-file w [] h = omega arith
length-file w (c ∷ cs) h =
    let a = length_container w c h.0 in
    let b = length-file w cs h.1 in
    let d = suc-mul (length cs) (container_size w) in
    length-append (container_bytes w c) (file w cs) ∙ (λ i. a i + b i) ∙ (let e : container_size w + length cs * container_size w ≡ length cs * container_size w + container_size w = add_comm _ _ in e) ∙ sym d

pub length-read_file : (w n : ℕ) (bs : List ℕ) → length (read_file w n bs) ≡ n
length-read_file w zero bs = refl
length-read_file w (suc n) bs = ap suc (length-read_file w n (drop (container_size w) bs))

-- a file reads back, whatever lies behind it
pub reads_behind : (w : ℕ) (cs : Contents) (z : List ℕ) → AllByRecursion (Stored w) cs → read_file w (length cs) (file w cs ++ z) ≡ cs
reads_behind w [] z h = refl
reads_behind w (c ∷ cs) z h =
    let l = length_container w c h.0 in
    let x : file w (c ∷ cs) ++ z ≡ container_bytes w c ++ (file w cs ++ z) = append_assoc (container_bytes w c) (file w cs) z in
    let a : take (container_size w) (container_bytes w c ++ (file w cs ++ z)) ≡ container_bytes w c = take_at (container_bytes w c) _ _ l in
    let b : drop (container_size w) (container_bytes w c ++ (file w cs ++ z)) ≡ file w cs ++ z = drop_at (container_bytes w c) _ _ l in
    let s = read_container_lem w c h.0 in
    let t = reads_behind w cs z h.1 in
    cc

pub intact_made : (w n : ℕ) (cs : Contents) (z : List ℕ) → AllByRecursion (Stored w) cs → length cs ≡ n → n ≤ 32 → w ≤ 20 → (1 ≤ n → (2 ≤ n) × (length z ≡ 0)) → Intact w n (file w cs ++ z)
intact_made w n cs z h l few narrow exact =
    let f : length (file w cs) ≡ n * container_size w = length-file w cs h ∙ ap (λ j. j * container_size w) l in
    let r : read_file w n (file w cs ++ z) ≡ cs = ap (λ j. read_file w j (file w cs ++ z)) (sym l) ∙ reads_behind w cs z h in
    record {
      few = few;
      narrow = narrow;
      long = (let a = length-append (file w cs) z in omega arith);
      exact = λ some. let a = length-append (file w cs) z in ((exact some).0, let b = (exact some).1 in omega arith);
      bytes = take_at (file w cs) z (n * container_size w) f ∙ ap (file w) (sym r);
      each = subst (AllByRecursion (Stored w)) (sym r) h;
    }

-- an intact file around the container c
pub record Around (w n c : ℕ) (bs : List ℕ) : Type 0 where
  pub before : List ℕ
  pub behind : List ℕ
  pub is : bs ≡ before ++ (container_bytes w (get_or (read_file w n bs) c []) ++ behind)
  pub at : length before ≡ c * container_size w
  pub stored : Stored w (get_or (read_file w n bs) c [])
  pub other : (rs : List Rec) → Stored w rs → Intact w n (before ++ (container_bytes w rs ++ behind)) × (read_file w n (before ++ (container_bytes w rs ++ behind)) ≡ set (read_file w n bs) c rs)

pub around : (w n c : ℕ) (bs : List ℕ) → Intact w n bs → c < n → Around w n c bs
around w n c bs g h =
    let cs = read_file w n bs in
    let z = drop (n * container_size w) bs in
    let l : length cs ≡ n = length-read_file w n bs in
    let h' : c < length cs = omega arith in
    let p = file w (take c cs) in
    let q = file w (drop (suc c) cs) ++ z in
    let b : bs ≡ file w cs ++ z = sym (take-append-drop (n * container_size w) bs) ∙ ap (λ y. y ++ z) g.bytes in
    let cut : file w cs ++ z ≡ p ++ (container_bytes w (get_or cs c []) ++ q) = ap (λ y. y ++ z) (file-cut w cs c h') ∙ simp append_assoc in
    let lt : length (take c cs) ≡ c = length-take-le c cs (omega arith) in
    record {
      before = p;
      behind = q;
      is = b ∙ cut;
      at = length-file w (take c cs) (All-take (Stored w) c cs g.each) ∙ ap (λ j. j * container_size w) lt;
      stored = All-get_or (Stored w) cs c [] h' g.each;
      other = λ rs f.
          let ds = set cs c rs in
          let fits : AllByRecursion (Stored w) ds = All-set (Stored w) cs c rs f g.each in
          let ld : length ds ≡ n = length-set cs c rs ∙ l in
          let e : file w ds ++ z ≡ p ++ (container_bytes w rs ++ q) = ap (λ y. y ++ z) (file-set w cs c rs h') ∙ simp append_assoc in
          let P : List ℕ → Type 0 = λ y. Intact w n y × (read_file w n y ≡ ds) in
          subst P e (intact_made w n ds z fits ld g.few g.narrow (λ some. ((g.exact some).0, length-drop (n * container_size w) bs ∙ (let x = (g.exact some).1 in omega arith))), ap (λ j. read_file w j (file w ds ++ z)) (sym ld) ∙ reads_behind w ds z fits);
    }

front2 : (w : ℕ) (rs : List Rec) (z : List ℕ) → take 2 (container_bytes w rs ++ z) ≡ take 2 (container_bytes w rs)
unfolding container_bytes
front2 w rs z = refl

next2 : (w : ℕ) (rs : List Rec) (z : List ℕ) → take 2 (drop 2 (container_bytes w rs ++ z)) ≡ take 2 (drop 2 (container_bytes w rs))
unfolding container_bytes
next2 w rs z = refl

-- i rows and one more are at most 63 rows
pub row_all : (i m : ℕ) → i < 63 → i * m + m ≤ 63 * m
row_all i m h =
    let a = suc-mul i m in
    let b : suc i * m ≤ 63 * m = mul-le-mul_right m (omega arith) in
    omega arith

-- the header of the container c tells the count and the bytes in use
pub intact_header : (w n c : ℕ) (bs : List ℕ) → Intact w n bs → c < n → (number (take 2 (drop (c * container_size w) bs)) ≡ length (get_or (read_file w n bs) c [])) × (number (take 2 (drop (c * container_size w + 2) bs)) ≡ length (payloads (get_or (read_file w n bs) c [])))
intact_header w n c bs g h =
    let a = around w n c bs g h in
    let rs = get_or (read_file w n bs) c [] in
    let d : drop (c * container_size w) bs ≡ container_bytes w rs ++ a.behind = ap (drop (c * container_size w)) a.is ∙ drop_at a.before _ _ a.at in
    let d2 : drop (c * container_size w + 2) bs ≡ drop 2 (container_bytes w rs ++ a.behind) = sym (drop-drop 2 (c * container_size w) bs) ∙ ap (drop 2) d in
    (ap (λ y. number (take 2 y)) d ∙ ap number (front2 w rs a.behind) ∙ number-count w rs a.stored, ap (λ y. number (take 2 y)) d2 ∙ ap number (next2 w rs a.behind) ∙ number-used w rs a.stored)

pub intact_space : (w n c : ℕ) (bs : List ℕ) → Intact w n bs → c < n → c * container_size w + container_size w ≤ length bs
intact_space w n c bs g h =
    let a = suc-mul c (container_size w) in
    let b : suc c * container_size w ≤ n * container_size w = mul-le-mul_right (container_size w) (omega arith) in
    let l = g.long in
    let S = container_size w in
    le_trans (le_of_eq (sym a)) (le_trans b l)
