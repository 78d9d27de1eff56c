-- What the calls of a slot table do to the exact table that lends it its slots.
use Rattle.std.proofs.Common.{◌≡◌, ℕ, ◌+◌, Bool, true, false, cond, not, ◌||◌, eqb, List, vec_items, Option, sym, refl, ap, ◌∙◌, subst, arith}
use Rattle.std.proofs.lemmas.Bool.{not-true, or_parts, or_left, or_right, and_from, eqb-false}
use Rattle.keys.specs.Octets.{same_bytes}
use Rattle.keys.specs.Little.{same_self}
use Rattle.slots.specs.declared.probe.Probe.{Probe}
use Rattle.slots.specs.declared.slot.Slot.{Slot}
use Rattle.slots.specs.Walks.{keys_of, reached, is_full}
use Rattle.slots.specs.Tables.{Emptied, Inserted}
use Rattle.slots.specs.Marks.{marked, OneMark}
use Rattle.slots.proofs.Walking.{met_is, none_reached, others_filled}
use Rattle.slots.proofs.Cells.{keys_length}
use Rattle.live.specs.Meaning.{Learned, Noted, closed}
use Rattle.exact.specs.Exact.{held_by, exact_meaning, ExactStart, ExactLearn}
use Rattle.exact.specs.declared.table.ExactTable.{ExactTable}

module _ {K : Type 0} (b : K → List ℕ) where
  pub started : (t : ExactTable K) (ws : List (Slot K)) → Emptied b (keys_of ws) → vec_items t.slots ≡ ws → ExactStart b t
  started t ws d e =
      let h = subst (λ (ys : List (Slot K)). Emptied b (keys_of ys)) (sym e) d in
      record { sound = h.sound; none = λ x. none_reached b x (held_by t) h.none }

  -- a set that is not closed has space, so that the insert does not fail
  not_full : (s : ExactTable K) (k : K) (r : Probe) (ys : List (Option K)) → closed (exact_meaning b) s ≡ false → Inserted b k (held_by s) r ys → is_full r ≡ false
  not_full s k r ys unclosed d = by (is_full r) refl
    where
      by : (v : Bool) → is_full r ≡ v → is_full r ≡ false
      by true e =
          let all = others_filled b k (held_by s) (sym d.full ∙ e) in
          let differs = eqb-false s.intake.count s.intake.capacity (or_parts s.intake.sealed (eqb s.intake.count s.intake.capacity) unclosed).1 in
          absurd (omega (arith, s.space, s.intake.space, differs, keys_length (vec_items s.slots)))
      by false e = e

  module _ (s t : ExactTable K) (k : K) (r : Probe) (xs ws : List (Slot K)) (v : xs ≡ vec_items s.slots) (w : vec_items t.slots ≡ ws) (done : Inserted b k (keys_of xs) r (keys_of ws))
      (taken : Bool) (was : taken ≡ true) (answer : taken ≡ not (closed (exact_meaning b) s)) where
    unclosed : closed (exact_meaning b) s ≡ false
    unclosed = not-true (closed (exact_meaning b) s) (sym answer ∙ was)

    held : Inserted b k (held_by s) r (held_by t)
    held = rw (w, ← v) done

    pub learned : t.intake.count ≡ cond taken (s.intake.count + 1) s.intake.count → t.intake.capacity ≡ s.intake.capacity → t.intake.sealed ≡ s.intake.sealed → Learned (exact_meaning b) s k true t
    learned counted space sealed = record {
      answer = sym was ∙ answer;
      refused = λ f. cc;
      capacity = space;
      count = λ _. counted ∙ ap (λ c. cond c (s.intake.count + 1) s.intake.count) was;
      sealed = λ _. sealed ∙ (or_parts s.intake.sealed (eqb s.intake.count s.intake.capacity) unclosed).0;
      remain = λ _. held.keeps;
      covered = λ _. held.added (not_full s k r (held_by t) unclosed held);
    }

    pub learned_alone : ExactLearn b s k true t
    learned_alone = record {
      sound = held.sound;
      exact = λ so _ x.
          met_is b x (held_by t) (held.sound so)
          ∙ held.exact so (not_full s k r (held_by t) unclosed held) x
          ∙ ap (λ m. same_bytes (b k) (b x) || m) (sym (met_is b x (held_by s) so));
    }

  pub noted : (s t : ExactTable K) (k : K) (xs ws : List (Slot K)) → xs ≡ vec_items s.slots → vec_items t.slots ≡ ws → OneMark b k xs ws → t.intake ≡ s.intake → s.intake.sealed ≡ true → Noted (exact_meaning b) s k t
  noted s t k xs ws v w done intake sealed =
      let d : OneMark b k (vec_items s.slots) (vec_items t.slots) = rw (w, ← v) done in
      let same : held_by t ≡ held_by s = d.same in
      let marks : (x : K) → (exact_meaning b).says t x ≡ marked b (vec_items t.slots) x = λ x. ap (λ i. not i.sealed || marked b (vec_items t.slots) x) intake ∙ ap (λ c. not c || marked b (vec_items t.slots) x) sealed in
      record {
        early = λ f. cc;
        count = ap (λ i. i.count) intake;
        capacity = ap (λ i. i.capacity) intake;
        sealed = ap (λ i. i.sealed) intake;
        remain = λ x m. ap (λ ys. reached b ys x) same ∙ m;
        yeses = λ x m. marks x ∙ d.exact x ∙ or_left (marked b (vec_items s.slots) x) _ (sym (ap (λ c. not c || marked b (vec_items s.slots) x) sealed) ∙ m);
        noted = λ m. marks k ∙ d.exact k ∙ or_right (marked b (vec_items s.slots) k) _ (and_from (same_bytes (b k) (b k)) _ (same_self (b k)) m);
      }
