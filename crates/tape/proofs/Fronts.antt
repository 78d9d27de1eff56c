-- The entry at the front of a log, and the log behind it.
use Rattle.std.proofs.Common.{◌≡◌, ℕ, suc, ◌+◌, ◌-◌, ◌*◌, ◌≤◌, cond, leb, List, [], ◌∷◌, length, length-take, take, drop, slice_index, slice_index_or, Some, None, sym, refl, ap, subst, ◌∙◌, arith}
use Rattle.std.proofs.Math.Logic.{∥∥₁_elim}
use Rattle.std.proofs.lemmas.Bool.{le-leb}
use Rattle.std.proofs.lemmas.List.{length-drop, take_all}
use Rattle.keys.specs.Octets.{Bytes}
use Rattle.records.specs.Limits.{Typed}
use Rattle.tape.specs.Log.{Entry, Logged, log_before, log_size, length_at, entry_of, log_of}
use Rattle.tape.proofs.Entries.{length_told, past_entry, logged, length-log_of}
use Rattle.tape.specs.Holding.{prop_logged}

-- four bytes tell a container, a level and a length
pub length_read : (bs : List ℕ) → slice_index_or (take 4 bs) 2 0 + slice_index_or (take 4 bs) 3 0 * 256 ≡ length_at bs
length_read [] = refl
length_read (a ∷ []) = refl
length_read (a ∷ b ∷ []) = refl
length_read (a ∷ b ∷ c ∷ []) = omega arith
length_read (a ∷ b ∷ c ∷ d ∷ bs) = omega arith

pub container_read : (bs : List ℕ) → slice_index_or (take 4 bs) 0 0 ≡ slice_index bs 0
container_read [] = refl
container_read (a ∷ bs) = refl

pub level_read : (bs : List ℕ) → slice_index_or (take 4 bs) 1 0 ≡ slice_index bs 1
level_read [] = refl
level_read (a ∷ []) = refl
level_read (a ∷ b ∷ bs) = refl

-- a key that is read off some bytes
pub key_of : {K : Type 0} (key : List ℕ → K) (w : ℕ) (bs : List ℕ) (k : K) → w ≤ length bs → Some k ≡ cond (leb w (length bs)) (Some (key (take w bs))) None → k ≡ key (take w bs)
key_of key w bs k space told =
    let is : Some k ≡ Some (key (take w bs)) = told ∙ ap (λ b. cond b (Some (key (take w bs))) None) (le-leb w (length bs) space) in
    cc

-- a log that has an entry
module _ (w k others : ℕ) (bs : List ℕ) (counted : (1 ≤ k) × (others ≡ k - 1)) (h : ∥ Logged w k bs ∥₁) where
  some : k ≡ suc others
  some = omega (arith, counted.0, counted.1)

  abbrev e : Entry
  e = entry_of w bs

  abbrev behind : List ℕ
  behind = drop (length_at bs) (drop w (drop 4 bs))

  l : Logged w (suc others) bs
  l = subst (λ n. Logged w n bs) some (∥∥₁_elim h (prop_logged w k bs) (λ g. g))

  abbrev more : List ℕ
  more = log_before (log_of w others behind) (drop (log_size w (log_of w (suc others) bs)) bs)

  told : length_at bs ≡ length e.stored.payload
  told = ap length_at (sym l.whole) ∙ length_told w e more l.each.0

  pub front_typed : Typed w e.stored
  front_typed = l.each.0.typed

  pub front_space : 4 + w + length_at bs ≤ length bs
  front_space = let t = told in let s = l.space in omega arith

  -- the four bytes at the front, all of which are read, and what is behind them
  pub cut_of : (front behind' head : List ℕ) → front ≡ take 4 bs → behind' ≡ drop 4 bs → head ≡ take 4 front → (head ≡ take 4 bs) × (behind' ≡ drop 4 bs) × (length behind' + 4 ≡ length bs)
  cut_of front behind' head f b read =
      let short : length front ≤ 4 = omega (arith, ap length f, length-take 4 bs) in
      (read ∙ take_all 4 front short ∙ f, b, (let s = front_space in let d = ap length b ∙ length-drop 4 bs in omega arith))

  pub log_next : log_of w k bs ≡ e ∷ log_of w others behind
  log_next = ap (λ n. log_of w n bs) some

  pub logged_next : Logged w others behind
  logged_next =
      let is : behind ≡ more = (λ i. drop (length_at (sym l.whole i)) (drop w (drop 4 (sym l.whole i)))) ∙ past_entry w e more l.each.0 in
      (logged w others (log_of w others behind) (drop (log_size w (log_of w (suc others) bs)) bs) behind (length-log_of w others behind) l.each.1 is).1

  -- what is read off the front, piece by piece, is the entry
  module _ (head behind' name tail : List ℕ) (cut : (head ≡ take 4 bs) × (behind' ≡ drop 4 bs) × (length behind' + 4 ≡ length bs)) (width : ℕ) (is : width ≡ w) (front : name ≡ take width behind') (back : tail ≡ drop width behind') (len : ℕ)
      (counts : len ≡ slice_index_or head 2 0 + slice_index_or head 3 0 * 256) where
    named : name ≡ take w behind'
    named = front ∙ ap (λ k. take k behind') is

    tailed : tail ≡ drop w behind'
    tailed = back ∙ ap (λ k. drop k behind') is

    len_is : len ≡ length_at bs
    len_is = counts ∙ ap (λ x. slice_index_or x 2 0 + slice_index_or x 3 0 * 256) cut.0 ∙ length_read bs

    pub tail_space : len ≤ length tail
    tail_space = let s = front_space in let c = cut.2 in let n = len_is in let t = ap length tailed ∙ length-drop w behind' in omega arith

    pub rest_is : (rest : List ℕ) → rest ≡ drop len tail → rest ≡ behind
    rest_is rest r = r ∙ (λ i. drop (len_is i) ((tailed ∙ ap (drop w) cut.1) i))

    pub fingerprint_is : {K : Type 0} (bytes : K → List ℕ) (key : List ℕ → K) → ((x : List ℕ) → length x ≡ w → Bytes x → bytes (key x) ≡ x) → (k : K) → Some k ≡ cond (leb w (length name)) (Some (key (take w name))) None → bytes k ≡ name
    fingerprint_is bytes key any k told =
        let f : e.stored.fingerprint ≡ name = sym (named ∙ ap (take w) cut.1) in
        let long : length name ≡ w = ap length (sym f) ∙ front_typed.wide in
        let whole : take w name ≡ name = take_all w name (omega arith) in
        ap bytes (key_of key w name k (omega arith) told ∙ ap key whole) ∙ any name long (subst Bytes f front_typed.fingerprint)

    pub entry_is : (container level : ℕ) (fingerprint payload : List ℕ) → container ≡ slice_index_or head 0 0 → level ≡ slice_index_or head 1 0 → fingerprint ≡ name → payload ≡ take len tail →
        e ≡ record { container = container; stored = record { level = level; fingerprint = fingerprint; payload = payload } }
    entry_is container level fingerprint payload cc ll ff pp =
        let c : slice_index bs 0 ≡ container = sym (cc ∙ ap (λ x. slice_index_or x 0 0) cut.0 ∙ container_read bs) in
        let l' : slice_index bs 1 ≡ level = sym (ll ∙ ap (λ x. slice_index_or x 1 0) cut.0 ∙ level_read bs) in
        let f : e.stored.fingerprint ≡ fingerprint = sym (ff ∙ named ∙ ap (take w) cut.1) in
        let p : e.stored.payload ≡ payload = sym (pp ∙ (λ i. take (len_is i) ((tailed ∙ ap (drop w) cut.1) i))) in
        λ i. record { container = c i; stored = record { level = l' i; fingerprint = f i; payload = p i } }
