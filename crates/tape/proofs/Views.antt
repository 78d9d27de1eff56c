-- The log as a kind of fingerprint sees it.
use Rattle.std.proofs.Common.{◌≡◌, ℕ, ◌<◌, ◌≤◌, cond, List, [], ◌∷◌, ◌==◌, slice_index_or, refl, sym, ap, subst, ◌∙◌, ⊎_elim, arith}
use Rattle.std.specs.List.{AllByRecursion}
use Rattle.std.proofs.lemmas.List.{get_or_past}
use Rattle.std.proofs.lemmas.Bool.{eq-eqb, ne_eqb, cases_eq, cases_lt}
use Rattle.devices.specs.Questions.{records_of}
use Rattle.tape.specs.Log.{Entry, Logged, log_of, records_in, gathered}
use Rattle.tape.specs.Meaning.{held_at}
use Rattle.tape.specs.Sizes.{Good}
use Rattle.tape.specs.Gathering.{length-gathered, get_or-gathered, records_skip}
use Rattle.tape.specs.Holding.{good_from}
use Rattle.tape.specs.Holding.{held_same, held_none}
use Rattle.tape.proofs.Tapes.{logged_seen}

-- a container that no entry is in has no records
records_beyond : (n c : ℕ) (es : List Entry) → AllByRecursion (λ e. e.container < n) es → n ≤ c → records_in c es ≡ []
records_beyond n c [] h past = refl
records_beyond n c (e ∷ es) h past = records_skip c e es (λ q. let b = h.0 in absurd (omega arith)) ∙ records_beyond n c es h.1 past

-- the log that a walk goes over: all of it where the kind is the tape's, none of it otherwise
pub record LogSeen (w v n k k' : ℕ) (bs was : List ℕ) : Type 0 where
  pub logged : Logged w k' was
  pub records : (c : ℕ) → records_in c (log_of w k' was) ≡ records_of (held_at w v n k bs) c

pub log_seen : (w v n k used k' : ℕ) (bs was : List ℕ) → ∥ Good v n k used bs ∥₁ → was ≡ bs → k' ≡ cond (v == w) k 0 → LogSeen w v n k k' bs was
log_seen w v n k used k' bs was good s kk =
    ⊎_elim
    (λ e.
    let kk' : k' ≡ k = kk ∙ ap (λ b. cond b k 0) (eq-eqb v w e) in
    let is : (c : ℕ) → records_in c (log_of v k bs) ≡ records_of (gathered n (log_of v k bs)) c = (λ c.
    ⊎_elim
    (λ here. sym (get_or-gathered n c (log_of v k bs) here))
    (λ past. records_beyond n c (log_of v k bs) (good_from v n k used bs good).within past ∙ sym (get_or_past (gathered n (log_of v k bs)) c [] (let l = length-gathered n (log_of v k bs) in omega arith)))
    (cases_lt c n)) in
    record {
      logged = subst (λ x. Logged w x was) (sym kk') (logged_seen w v n k used bs was good e s);
      records = λ c. (λ i. records_in c (log_of (sym e i) (kk' i) (s i))) ∙ is c ∙ ap (λ x. slice_index_or x c []) (sym (held_same w v n k bs e));
    })
    (λ ne.
    let kk' : k' ≡ 0 = kk ∙ ap (λ b. cond b k 0) (ne_eqb v w ne) in
    record {
      logged = subst (λ x. Logged w x was) (sym kk') (record { space = omega arith; whole = refl; each = tt });
      records = λ c. (λ i. records_in c (log_of w (kk' i) was)) ∙ ap (λ x. slice_index_or x c []) (sym (held_none w v n k bs ne));
    })
    (cases_eq v w)
