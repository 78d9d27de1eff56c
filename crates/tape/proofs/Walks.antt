-- Walking a log entry by entry.
use Rattle.std.specs.Prelude.{◌≡◌, ℕ, ◌+◌, ◌-◌, ◌<◌, ◌≤◌, List, ◌∷◌, length, drop, slice_index, slice_index_or}
use Rattle.std.proofs.Common.{sym, ap, subst, ◌∙◌, arith}
use Rattle.std.specs.List.{AllByRecursion}
use Rattle.std.proofs.lemmas.List.{drop-drop, drop_more, length-drop}
use Rattle.tape.specs.Log.{Entry, no_entry, Sound, Logged, laid_before, log_before, entry_size, log_size, length_at, entry_of, log_of}
use Rattle.tape.proofs.Entries.{length_told, entry_read, length-laid, drop-laid, length-log_of}

-- the entries es stand in bs from `at` on
pub record On (w : ℕ) (bs : List ℕ) (at : ℕ) (es : List Entry) : Type 0 where
  pub more : List ℕ
  pub rest : drop at bs ≡ log_before es more
  pub start : at ≤ length bs
  pub each : AllByRecursion (Sound w) es

pub on_start : (w k : ℕ) (bs : List ℕ) → Logged w k bs → On w bs 0 (log_of w k bs)
on_start w k bs h = record { more = drop (log_size w (log_of w k bs)) bs; rest = sym h.whole; start = omega arith; each = h.each }

pub turn_in : (w k i : ℕ) (bs : List ℕ) → i < k → i < length (log_of w k bs)
turn_in w k i bs h = let l = length-log_of w k bs in omega arith

pub end_in : (w k i : ℕ) (bs : List ℕ) → k ≤ i → length (log_of w k bs) ≤ i
end_in w k i bs h = let l = length-log_of w k bs in omega arith

-- what a turn of a walk over the log es knows
module _ (w i at : ℕ) (bs : List ℕ) (es : List Entry) (on : On w bs at (drop i es)) (turn : i < length es) where
  abbrev pub entry : Entry
  entry = slice_index_or es i no_entry

  pub next_is : drop i es ≡ entry ∷ drop (i + 1) es
  next_is = drop_more es i no_entry turn

  abbrev o : On w bs at (entry ∷ drop (i + 1) es)
  o = subst (On w bs at) next_is on

  abbrev pub tail : List ℕ
  tail = log_before (drop (i + 1) es) o.more

  pub front_is : drop at bs ≡ laid_before entry tail
  front_is = o.rest

  pub entry_is : entry_of w (drop at bs) ≡ entry
  entry_is = ap (entry_of w) front_is ∙ entry_read w entry tail o.each.0

  pub length_is : length_at (drop at bs) ≡ length entry.stored.payload
  length_is = ap length_at front_is ∙ length_told w entry tail o.each.0

  pub sound : Sound w entry
  sound = o.each.0

  pub size_is : w + 4 + length_at (drop at bs) ≡ entry_size w entry
  size_is = ap (λ n. w + 4 + n) length_is

  pub space : at + (w + 4 + length_at (drop at bs)) ≤ length bs
  space =
      let l : length bs - at ≡ entry_size w entry + length tail = sym (length-drop at bs) ∙ ap length front_is ∙ length-laid w entry tail o.each.0 in
      let s = on.start in
      let z = size_is in
      omega arith

  pub on_more : (at' : ℕ) → at' ≡ at + (w + 4 + length_at (drop at bs)) → On w bs at' (drop (i + 1) es)
  on_more at' p =
      let r = space in
      record {
        more = o.more;
        rest = ap (λ k. drop k bs) (p ∙ ap (λ n. at + n) size_is) ∙ sym (drop-drop (entry_size w entry) at bs) ∙ ap (drop (entry_size w entry)) front_is ∙ drop-laid w entry tail o.each.0;
        start = omega arith;
        each = o.each.1;
      }

  -- the entry's container as it was read
  pub container_is : (k : ℕ) → k ≡ slice_index (drop at bs) 0 → k ≡ entry.container
  container_is k p = p ∙ ap (λ x. x.container) entry_is
