-- Entries and logs in bytes and back.
use Rattle.std.specs.Prelude.{◌≡◌, ℕ, zero, suc, ◌+◌, ◌-◌, ◌≤◌, Bool, true, cond, List, [], ◌∷◌, ◌++◌, length, take, drop, nat_le, refl}
use Rattle.std.proofs.Common.{sym, ap, subst, ◌∙◌, arith}
use borrow.Rule.Slice.PartMut.{put_mid}
use Rattle.std.specs.List.{AllByRecursion}
use Rattle.std.proofs.lemmas.List.{append_assoc, append-nil, take_at, drop_at, drop-drop, drop_all, take_rest, length-append, length-drop}
use Rattle.std.proofs.lemmas.Bool.{le-leb}
use Rattle.keys.specs.Octets.{little}
use Rattle.keys.specs.Little.{number-little}
use Rattle.tape.specs.Log.{Entry, Sound, Logged, laid_before, log_before, entry_size, log_size, length_at, entry_of, log_of}

-- one entry before some bytes
module _ (w : ℕ) (e : Entry) (rest : List ℕ) (s : Sound w e) where
  abbrev pay : List ℕ
  pay = e.stored.payload

  abbrev fp : List ℕ
  fp = e.stored.fingerprint

  pub length_told : length_at (laid_before e rest) ≡ length pay
  length_told = number-little 2 (length pay) (let f = s.few in omega arith)

  pub past_fingerprint : drop w (drop 4 (laid_before e rest)) ≡ pay ++ rest
  past_fingerprint = drop_at fp (pay ++ rest) w s.typed.wide

  pub past_entry : drop (length_at (laid_before e rest)) (drop w (drop 4 (laid_before e rest))) ≡ rest
  past_entry = ap (drop (length_at (laid_before e rest))) past_fingerprint ∙ drop_at pay rest _ (sym length_told)

  pub entry_read : entry_of w (laid_before e rest) ≡ e
  entry_read =
      let f : take w (drop 4 (laid_before e rest)) ≡ fp = take_at fp (pay ++ rest) w s.typed.wide in
      let p : take (length_at (laid_before e rest)) (drop w (drop 4 (laid_before e rest))) ≡ pay = ap (take (length_at (laid_before e rest))) past_fingerprint ∙ take_at pay rest _ (sym length_told) in
      λ i. record { container = e.container; stored = record { level = e.stored.level; fingerprint = f i; payload = p i } }

  pub length-laid : length (laid_before e rest) ≡ entry_size w e + length rest
  length-laid =
      let a = length-append fp (pay ++ rest) in
      let b = length-append pay rest in
      let c = s.typed.wide in
      omega arith

-- three parts passed are one
pub past_three : (a b c n : ℕ) (xs : List ℕ) → a + b + c ≡ n → drop c (drop b (drop a xs)) ≡ drop n xs
past_three a b c n xs e = ap (drop c) (drop-drop b a xs) ∙ drop-drop c (a + b) xs ∙ ap (λ k. drop k xs) e

pub drop-laid : (w : ℕ) (e : Entry) (rest : List ℕ) → Sound w e → drop (entry_size w e) (laid_before e rest) ≡ rest
drop-laid w e rest s =
    sym (past_three 4 w (length e.stored.payload) (entry_size w e) (laid_before e rest) (omega arith))
    ∙ ap (λ n. drop n (drop w (drop 4 (laid_before e rest)))) (sym (length_told w e rest s))
    ∙ past_entry w e rest s

-- a log before some bytes
pub length_log : (w : ℕ) (es : List Entry) (rest : List ℕ) → AllByRecursion (Sound w) es → length (log_before es rest) ≡ log_size w es + length rest
length_log w [] rest h = omega arith
length_log w (e ∷ es) rest h =
    let t = length_log w es rest h.1 in
    let a = length-laid w e (log_before es rest) h.0 in
    omega arith

pub log_read : (w : ℕ) (es : List Entry) (rest : List ℕ) → AllByRecursion (Sound w) es → log_of w (length es) (log_before es rest) ≡ es
log_read w [] rest h = refl
log_read w (e ∷ es) rest h =
    let p : log_of w (length es) (drop (length_at (laid_before e (log_before es rest))) (drop w (drop 4 (laid_before e (log_before es rest))))) ≡ es = ap (log_of w (length es)) (past_entry w e (log_before es rest) h.0) ∙ log_read w es rest h.1 in
    let q = entry_read w e (log_before es rest) h.0 in
    λ i. q i ∷ p i

pub drop_log : (w : ℕ) (es : List Entry) (rest : List ℕ) → AllByRecursion (Sound w) es → drop (log_size w es) (log_before es rest) ≡ rest
drop_log w [] rest h = refl
drop_log w (e ∷ es) rest h =
    sym (drop-drop (log_size w es) (entry_size w e) (log_before (e ∷ es) rest))
    ∙ ap (drop (log_size w es)) (drop-laid w e (log_before es rest) h.0)
    ∙ drop_log w es rest h.1

pub laid-append : (e : Entry) (xs ys : List ℕ) → laid_before e (xs ++ ys) ≡ laid_before e xs ++ ys
laid-append e xs ys =
    let pay = e.stored.payload in
    let fp = e.stored.fingerprint in
    let q : fp ++ (pay ++ (xs ++ ys)) ≡ (fp ++ (pay ++ xs)) ++ ys = ap (λ z. fp ++ z) (sym (append_assoc pay xs ys)) ∙ sym (append_assoc fp (pay ++ xs) ys) in
    ap (λ z. e.container ∷ e.stored.level ∷ (little 2 (length pay) ++ z)) q

pub log_append : (es : List Entry) (rest : List ℕ) → log_before es rest ≡ log_before es [] ++ rest
log_append [] rest = refl
log_append (e ∷ es) rest = ap (laid_before e) (log_append es rest) ∙ laid-append e (log_before es []) rest

pub log_join : (es fs : List Entry) (rest : List ℕ) → log_before (es ++ fs) rest ≡ log_before es (log_before fs rest)
log_join [] fs rest = refl
log_join (e ∷ es) fs rest = ap (laid_before e) (log_join es fs rest)

pub size_join : (w : ℕ) (es fs : List Entry) → log_size w (es ++ fs) ≡ log_size w es + log_size w fs
size_join w [] fs = omega arith
size_join w (e ∷ es) fs = let t = size_join w es fs in omega arith

-- what stands before the bytes behind a log
pub take_log : (w : ℕ) (es : List Entry) (xs : List ℕ) → AllByRecursion (Sound w) es → take (log_size w es) (log_before es xs) ≡ log_before es []
take_log w es xs h =
    ap (take (log_size w es)) (log_append es xs) ∙ take_at (log_before es []) xs (log_size w es) (length_log w es [] h ∙ omega arith)

pub length-log_of : (w k : ℕ) (bs : List ℕ) → length (log_of w k bs) ≡ k
length-log_of w zero bs = refl
length-log_of w (suc k) bs = ap suc (length-log_of w k (drop (length_at bs) (drop w (drop 4 bs))))

-- bytes that begin with a log are read as it
pub logged : (w k : ℕ) (es : List Entry) (rest bs : List ℕ) → length es ≡ k → AllByRecursion (Sound w) es → bs ≡ log_before es rest → (log_of w k bs ≡ es) × Logged w k bs
logged w k es rest bs n h e =
    let same : log_of w k bs ≡ es = (λ i. log_of w (sym n i) (e i)) ∙ log_read w es rest h in
    let l : length bs ≡ log_size w es + length rest = ap length e ∙ length_log w es rest h in
    let z : log_size w (log_of w k bs) ≡ log_size w es = ap (log_size w) same in
    let d : drop (log_size w (log_of w k bs)) bs ≡ rest = (λ i. drop (z i) (e i)) ∙ drop_log w es rest h in (
      same,
      record {
        space = omega arith;
        whole = (λ i. log_before (same i) (d i)) ∙ sym e;
        each = subst (AllByRecursion (Sound w)) (sym same) h;
      },
    )

-- a write from a place to the end
pub put_rest : (a : ℕ) (xs ys : List ℕ) → a ≤ length xs → put_mid a (length xs - a) xs ys ≡ take a xs ++ ys
put_rest a xs ys h =
    ap (λ z. take a xs ++ (ys ++ z)) (drop_all (length xs - a) (drop a xs) (let l = length-drop a xs in omega arith)) ∙ ap (λ z. take a xs ++ z) (append-nil ys)

-- a head, a fingerprint and a payload, written one behind the other, are an entry
pub entry-written : (w a : ℕ) (e : Entry) (to t x z : List ℕ) (fits : Bool) →
    length e.stored.fingerprint ≡ w → a ≡ w + 4 → entry_size w e ≤ length to →
    t ≡ e.container ∷ e.stored.level ∷ (little 2 (length e.stored.payload) ++ drop 4 to) →
    fits ≡ nat_le w (length (take (length t - 4) (drop 4 t))) →
    x ≡ cond fits (e.stored.fingerprint ++ drop w (take (length t - 4) (drop 4 t))) (take (length t - 4) (drop 4 t)) →
    let u = put_mid 4 (length t - 4) t x in
    z ≡ e.stored.payload ++ drop (length e.stored.payload) (take (length u - a) (drop a u)) →
    put_mid a (length u - a) u z ≡ laid_before e (drop (entry_size w e) to)
entry-written w a e to t x z fits wide place space head fit wrote copied =
    let fp = e.stored.fingerprint in
    let pay = e.stored.payload in
    let R : List ℕ = drop 4 to in
    let y : List ℕ = take (length t - 4) (drop 4 t) in
    let u : List ℕ = put_mid 4 (length t - 4) t x in
    let lr : length R ≡ length to - 4 = length-drop 4 to in
    let lt : length t ≡ 4 + length R = ap length head ∙ omega arith in
    let yr : y ≡ R = take_rest t 4 ∙ ap (drop 4) head in
    let fy : fits ≡ true = fit ∙ le-leb w (length y) (let k = ap length yr in omega arith) in
    let xr : x ≡ fp ++ drop w R = wrote ∙ ap (λ b. cond b (fp ++ drop w y) y) fy ∙ ap (λ q. fp ++ drop w q) yr in
    let A : List ℕ = e.container ∷ e.stored.level ∷ (little 2 (length pay) ++ fp) in
    let la : length A ≡ a = omega arith in
    let ua : u ≡ A ++ drop w R = put_rest 4 t x (omega arith) ∙ (λ i. take 4 (head i) ++ xr i) in
    let lu : length u ≡ a + length (drop w R) = ap length ua ∙ length-append A (drop w R) ∙ omega arith in
    let du : drop a u ≡ drop w R = ap (drop a) ua ∙ drop_at A (drop w R) a la in
    let zu : z ≡ pay ++ drop (length pay) (drop w R) = copied ∙ ap (λ q. pay ++ drop (length pay) q) (take_rest u a ∙ du) in
    let tu : take a u ≡ A = ap (take a) ua ∙ take_at A (drop w R) a la in
    let b : drop (length pay) (drop w R) ≡ drop (entry_size w e) to = past_three 4 w (length pay) (entry_size w e) to (omega arith) in
    put_rest a u z (omega arith) ∙ (λ i. tu i ++ zu i) ∙ ap (λ q. e.container ∷ e.stored.level ∷ (little 2 (length pay) ++ (fp ++ (pay ++ q)))) b

-- every entry takes a byte at least
pub count_size : (w : ℕ) (es : List Entry) → length es ≤ log_size w es
count_size w [] = omega arith
count_size w (e ∷ es) = let t = count_size w es in omega arith
