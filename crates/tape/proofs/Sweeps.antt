-- The walk that moves entries down.
use Rattle.std.specs.Prelude.{◌≡◌, ℕ, ◌+◌, ◌-◌, ◌<◌, ◌≤◌, cond, not, List, [], ◌∷◌, ◌++◌, length, take, drop, ◌==◌, ◌≢◌, slice_index, slice_index_or, refl}
use Rattle.std.proofs.Common.{sym, ap, subst, ◌∙◌, arith}
use Rattle.std.proofs.Math.Seq.{paste}
use Rattle.std.proofs.lemmas.List.Edits.{length-paste, take-paste, drop-paste}
use Rattle.std.proofs.lemmas.List.Elements.{filter_more}
use Rattle.std.proofs.lemmas.List.{append-nil, drop-drop, length-drop, length_push, take_all, take-append-drop}
use Rattle.std.proofs.lemmas.Bool.{eq-eqb, ne_eqb}
use Rattle.tape.specs.Log.{Entry, no_entry, Logged, log_before, entry_size, log_size, length_at, log_of, without}
use Rattle.tape.proofs.Entries.{log_append, log_join, size_join, take_log}
use Rattle.tape.proofs.Walks as walk
use Rattle.tape.proofs.Walks.{On, on_start, on_more, container_is, size_is, space, front_is, sound}

-- i entries are passed; those of them that stay stand at the front
pub record Swept (w c i at count used : ℕ) (bs : List ℕ) (es : List Entry) : Type 0 where
  pub on : On w bs at (drop i es)
  pub behind : used ≤ at
  pub few : count ≤ i
  pub counted : count ≡ length (without c (take i es))
  pub size : used ≡ log_size w (without c (take i es))
  pub front : take used bs ≡ log_before (without c (take i es)) []

pub swept_none : (w c k : ℕ) (bs : List ℕ) → Logged w k bs → Swept w c 0 0 0 0 bs (log_of w k bs)
swept_none w c k bs h = record { on = on_start w k bs h; behind = omega arith; few = omega arith; counted = refl; size = refl; front = refl }

module _ (w c i at count used : ℕ) (bs : List ℕ) (es : List Entry) (h : Swept w c i at count used bs es) (turn : i < length es) (at' : ℕ) (next : at' ≡ at + (w + 4 + length_at (drop at bs))) where
  abbrev e : Entry
  e = walk.entry w i at bs es h.on turn

  -- those of the first entries that stay
  abbrev stay : ℕ → List Entry
  stay j = without c (take j es)

  stay_more : stay (i + 1) ≡ stay i ++ cond (not (e.container == c)) (e ∷ []) []
  stay_more = filter_more (λ x. not (x.container == c)) es i no_entry turn

  pub swept_gone : slice_index_or (drop at bs) 0 0 ≡ c → (count' used' : ℕ) (bs' : List ℕ) → count' ≡ count → used' ≡ used → bs' ≡ bs → Swept w c (i + 1) at' count' used' bs' es
  swept_gone here count' used' bs' x y z =
      let same : stay (i + 1) ≡ stay i = stay_more ∙ ap (λ b. stay i ++ cond (not b) (e ∷ []) []) (eq-eqb e.container c (sym (container_is w i at bs es h.on turn _ refl) ∙ here)) ∙ append-nil (stay i) in
      let f = h.few in
      let b = h.behind in
      let on' : On w bs' at' (drop (i + 1) es) = subst (λ q. On w q at' (drop (i + 1) es)) (sym z) (on_more w i at bs es h.on turn at' next) in
      record {
        on = on';
        behind = omega arith;
        few = omega arith;
        counted = x ∙ h.counted ∙ sym (ap length same);
        size = y ∙ h.size ∙ sym (ap (log_size w) same);
        front = (λ j. take (y j) (z j)) ∙ h.front ∙ sym (ap (λ q. log_before q []) same);
      }

  pub swept_kept : (slice_index (drop at bs) 0 ≢ c) → (count' used' : ℕ) (bs' : List ℕ) → count' ≡ count + 1 → used' ≡ used + (at' - at) → bs' ≡ paste bs used (drop at bs) (at' - at) → Swept w c (i + 1) at' count' used' bs' es
  swept_kept there count' used' bs' x y z =
      let same : stay (i + 1) ≡ stay i ++ e ∷ [] = stay_more ∙ ap (λ b. stay i ++ cond (not b) (e ∷ []) []) (ne_eqb e.container c (λ q. there (container_is w i at bs es h.on turn _ refl ∙ q))) in
      let f = h.few in
      let b = h.behind in
      let r = space w i at bs es h.on turn in
      let n : at' - at ≡ entry_size w e = (let k = size_is w i at bs es h.on turn in omega arith) in
      let n' : at' - at ≡ log_size w (e ∷ []) = omega arith in
      let l = length-drop at bs in
      let m = h.counted in
      let u = h.size in
      let v = size_join w (stay i) (e ∷ []) in
      let later = on_more w i at bs es h.on turn at' next in
      let taken : take (at' - at) (drop at bs) ≡ log_before (e ∷ []) [] = (λ j. take (n' j) (front_is w i at bs es h.on turn j)) ∙ take_log w (e ∷ []) (walk.tail w i at bs es h.on turn) (sound w i at bs es h.on turn, tt) in
      let past : drop at' bs' ≡ drop at' bs =
      ap (drop at') z
      ∙ ap (λ k. drop k (paste bs used (drop at bs) (at' - at))) (omega arith)
      ∙ sym (drop-drop (at - used) (used + (at' - at)) (paste bs used (drop at bs) (at' - at)))
      ∙ ap (drop (at - used)) (drop-paste bs used (drop at bs) (at' - at) (omega arith) (omega arith))
      ∙ drop-drop (at - used) (used + (at' - at)) bs
      ∙ ap (λ k. drop k bs) (omega arith) in
      let lb : length bs' ≡ length bs = ap length z ∙ length-paste bs used (drop at bs) (at' - at) (omega arith) (omega arith) in
      record {
        on = record { more = later.more; rest = past ∙ later.rest; start = omega arith; each = later.each };
        behind = omega arith;
        few = omega arith;
        counted = x ∙ ap (λ k. k + 1) m ∙ sym (length_push (stay i) e) ∙ sym (ap length same);
        size = y ∙ omega arith ∙ sym v ∙ sym (ap (log_size w) same);
        front = (λ j. take (y j) (z j)) ∙ take-paste bs used (drop at bs) (at' - at) (omega arith) (omega arith) ∙ (λ j. h.front j ++ taken j) ∙ sym (log_append (stay i) (log_before (e ∷ []) [])) ∙ sym (log_join (stay i) (e ∷ []) []) ∙ sym (ap (λ q. log_before q []) same);
      }

-- at the end all that stays stands at the front
pub record Left (w c count used : ℕ) (bs : List ℕ) (es : List Entry) : Type 0 where
  pub entries : count ≡ length (without c es)
  pub size : used ≡ log_size w (without c es)
  pub after : bs ≡ log_before (without c es) (drop used bs)

pub swept_all : (w c i at count used : ℕ) (bs : List ℕ) (es : List Entry) → Swept w c i at count used bs es → length es ≤ i → Left w c count used bs es
swept_all w c i at count used bs es h end =
    let all : take i es ≡ es = take_all i es end in
    record {
      entries = h.counted ∙ ap (λ x. length (without c x)) all;
      size = h.size ∙ ap (λ x. log_size w (without c x)) all;
      after = sym (take-append-drop used bs) ∙ ap (λ x. x ++ drop used bs) (h.front ∙ ap (λ x. log_before (without c x) []) all) ∙ sym (log_append (without c es) (drop used bs));
    }
