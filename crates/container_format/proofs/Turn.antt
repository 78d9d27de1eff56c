-- The steps of the loop that checks entries.
use Rattle.std.proofs.Common.{◌≡◌, ℕ, zero, suc, ◌+◌, ◌-◌, ◌*◌, ◌<◌, ◌≤◌, List, [], ◌∷◌, ◌++◌, length, get_or, take, drop, refl, sym, ap, ◌∙◌, subst, suc-mul, zero-mul, arith}
use Rattle.std.proofs.lemmas.List.{append_assoc, length-append, take-append-le, drop-append-le, length-drop, get_or_append_left, drop_at, drop-drop}
use Rattle.container_format.specs.Reading.{length_in}
use Rattle.container_format.specs.Checking.{Zeros, EntryOk, EntriesOk}
use Rattle.keys.specs.Octets.{number}

pub less_one : (n i : ℕ) → i < n → n - i ≡ suc (n - (i + 1))
less_one n i h = omega arith

pub row_more : (n i m : ℕ) → i < n → (n - i) * m ≡ (n - (i + 1)) * m + m
row_more n i m h = ap (λ k. k * m) (less_one n i h) ∙ suc-mul (n - (i + 1)) m

-- an entry is the same, whatever lies behind it
module _ (w : ℕ) (x z : List ℕ) (long : w + 8 ≤ length x) where
  pub front_level : get_or (x ++ z) w 0 ≡ get_or x w 0
  front_level = get_or_append_left x z 0 w (omega arith)

  front_gap : get_or (x ++ z) (w + 1) 0 ≡ get_or x (w + 1) 0
  front_gap = get_or_append_left x z 0 (w + 1) (omega arith)

  front_part : (k n : ℕ) → k + n ≤ 8 → take n (drop (w + k) (x ++ z)) ≡ take n (drop (w + k) x)
  front_part k n h = ap (take n) (drop-append-le (w + k) x z (omega arith)) ∙ take-append-le n (drop (w + k) x) z (simp length-drop (omega arith))

  pub front_length : length_in w (x ++ z) ≡ length_in w x
  front_length = ap number (front_part 2 2 (omega arith))

  front_offset : number (take 4 (drop (w + 4) (x ++ z))) ≡ number (take 4 (drop (w + 4) x))
  front_offset = ap number (front_part 4 4 (omega arith))

  entry_same : (off : ℕ) → (EntryOk w off x → EntryOk w off (x ++ z)) × (EntryOk w off (x ++ z) → EntryOk w off x)
  entry_same off =
      let a = front_level in
      let b = front_gap in
      let c = front_length in
      let d = front_offset in (
        λ h. record { level = (let t = h.level in omega arith); gap = b ∙ h.gap; some = (let t = h.some in omega arith); few = (let t = h.few in omega arith); offset = d ∙ h.offset; space = (let t = h.space in omega arith) },
        λ h. record { level = (let t = h.level in omega arith); gap = sym b ∙ h.gap; some = (let t = h.some in omega arith); few = (let t = h.few in omega arith); offset = sym d ∙ h.offset; space = (let t = h.space in omega arith) },
      )

some_left : (left m n : ℕ) → n ≡ left * m → 1 ≤ n → left ≡ suc (left - 1)
some_left zero m n e h = absurd (let z = zero-mul m in omega arith)
some_left (suc k) m n e h = omega arith

none_left : (left m n : ℕ) → n ≡ left * m → n < m → left ≡ 0
none_left zero m n e h = refl
none_left (suc k) m n e h = absurd (let s = suc-mul k m in omega arith)

none_in : (xs : List ℕ) → length xs ≡ 0 → xs ≡ []
none_in [] e = refl
none_in (x ∷ xs) e = absurd (omega arith)

-- what the loop over entries keeps: `left` entries are to come, and the first of their payloads lies at `off`
pub record Held (w used count off size : ℕ) (coming unused es bs : List ℕ) : Type 0 where
  pub wide : size ≡ w + 8
  pub space : off ≤ 7168
  pub left : ℕ
  pub long : length coming ≡ left * (w + 8)
  pub back : EntriesOk w used left off (coming ++ unused) (drop off bs) → EntriesOk w used count 0 es bs
  pub on : EntriesOk w used count 0 es bs → EntriesOk w used left off (coming ++ unused) (drop off bs)

module _ (w used count off size : ℕ) (coming unused es bs : List ℕ) (h : Held w used count off size coming unused es bs) where
  module _ (x next : List ℕ) (cut : coming ≡ x ++ next) (one : length x ≡ size) where
    enough : w + 8 ≤ length x
    enough = let a = h.wide in omega arith

    one_more : h.left ≡ suc (h.left - 1)
    one_more = let a = h.wide in some_left h.left (w + 8) (length coming) h.long (let b = ap length cut ∙ length-append x next in omega arith)

    lies : coming ++ unused ≡ x ++ (next ++ unused)
    lies = ap (λ xs. xs ++ unused) cut ∙ append_assoc x next unused

    abbrev At : ℕ → List ℕ → Type 0
    At m xs = EntriesOk w used m off xs (drop off bs)

    taken : EntriesOk w used h.left off (coming ++ unused) (drop off bs) ≡ At (suc (h.left - 1)) (x ++ (next ++ unused))
    taken = λ i. At (one_more i) (lies i)

    -- one entry more
    pub held_more : (n size' : ℕ) → EntryOk w off x → n ≡ length_in w x → size' ≡ size → Held w used count (off + n) size' next unused es bs
    held_more n size' ok is same =
        let s = entry_same w x (next ++ unused) enough off in
        let k = ok.space in
        let l : length_in w (x ++ (next ++ unused)) ≡ n = front_length w x (next ++ unused) enough ∙ sym is in
        let d : drop (w + 8) (x ++ (next ++ unused)) ≡ next ++ unused = drop_at x (next ++ unused) (w + 8) (one ∙ h.wide) in
        let b : drop (length_in w (x ++ (next ++ unused))) (drop off bs) ≡ drop (off + n) bs = ap (λ m. drop m (drop off bs)) l ∙ drop-drop n off bs in
        let step : EntriesOk w used (h.left - 1) (off + length_in w (x ++ (next ++ unused))) (drop (w + 8) (x ++ (next ++ unused))) (drop (length_in w (x ++ (next ++ unused))) (drop off bs)) ≡ EntriesOk w used (h.left - 1) (off + n) (next ++ unused) (drop (off + n) bs) = λ i. EntriesOk w used (h.left - 1) (off + l i) (d i) (b i) in
        record {
          wide = same ∙ h.wide;
          space = omega arith;
          left = h.left - 1;
          long = (let a = h.long in let c = ap length cut ∙ length-append x next in let e = ap (λ m. m * (w + 8)) one_more ∙ suc-mul (h.left - 1) (w + 8) in let f = h.wide in omega arith);
          back = λ t. h.back (subst (λ X. X) (sym taken) (s.0 ok, subst (λ X. X) (sym step) t));
          on = λ t. subst (λ X. X) step (subst (λ X. X) taken (h.on t)).1;
        }

    -- an entry out of order
    pub held_not : (EntryOk w off x → ⊥) → EntriesOk w used count 0 es bs → ⊥
    held_not bad all = bad ((entry_same w x (next ++ unused) enough off).1 (subst (λ X. X) taken (h.on all)).0)

  -- no entry more
  pub held_last : length coming < size → (EntriesOk w used count 0 es bs → (off ≡ used) × Zeros unused × Zeros (drop off bs)) × ((off ≡ used) × Zeros unused × Zeros (drop off bs) → EntriesOk w used count 0 es bs)
  held_last short =
      let a = h.wide in
      let z : h.left ≡ 0 = none_left h.left (w + 8) (length coming) h.long (omega arith) in
      let e : coming ≡ [] = none_in coming (h.long ∙ ap (λ m. m * (w + 8)) z ∙ zero-mul (w + 8)) in
      let same : EntriesOk w used h.left off (coming ++ unused) (drop off bs) ≡ EntriesOk w used 0 off unused (drop off bs) = λ i. EntriesOk w used (z i) off (e i ++ unused) (drop off bs) in
      (λ t. subst (λ X. X) same (h.on t), λ t. h.back (subst (λ X. X) (sym same) t))
