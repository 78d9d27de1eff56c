-- What a tape keeps true, from an empty tape on through appends and erasures.
use Rattle.std.specs.Prelude.{◌≡◌, ℕ, ◌+◌, ◌<◌, ◌≤◌, List, [], ◌∷◌, ◌++◌, length, take, drop, slice_set, refl}
use Rattle.std.proofs.Common.{sym, ap, subst, ◌∙◌, arith}
use Rattle.std.specs.List.{AllByRecursion}
use Rattle.std.proofs.ByRecursion.{All-push, All-set, all_kept_by}
use Rattle.std.proofs.lemmas.List.{length_push}
use Rattle.records.specs.Limits.{Fits}
use Rattle.records.specs.Records.{Rec, payload_bytes}
use Rattle.devices.specs.Changes.{appended, erased}
use Rattle.tape.specs.Log.{Entry, Sound, laid_before, log_before, entry_size, log_size, log_of, records_in, without, gathered}
use Rattle.tape.specs.Sizes.{Good, tape_size}
use Rattle.tape.proofs.Entries.{logged, log_append, log_join, size_join, take_log, length-log_of}
use Rattle.tape.specs.Gathering.{get_or-gathered, all-gathered}
use Rattle.tape.proofs.Gathered.{gathered_push, gathered-without}
use Rattle.tape.proofs.Weighing.{log_fits}

-- bytes that begin with a log within the limits are a tape
pub record Limited (w n : ℕ) (es : List Entry) : Type 0 where
  pub narrow : w ≤ 20
  pub few : n ≤ 32
  pub each : AllByRecursion (Sound w) es
  pub within : AllByRecursion (λ e. e.container < n) es
  pub fits : AllByRecursion Fits (gathered n es)

pub good_made : (w n k used : ℕ) (es : List Entry) (rest bs : List ℕ) → Limited w n es → length bs ≡ tape_size w n → length es ≡ k → log_size w es ≡ used → bs ≡ log_before es rest → Good w n k used bs × (log_of w k bs ≡ es)
good_made w n k used es rest bs m long count size is =
    let l = logged w k es rest bs count m.each is in
    let e : log_of w k bs ≡ es = l.0 in (
      record {
        narrow = m.narrow;
        few = m.few;
        long = long;
        logged = l.1;
        front = ap (log_size w) e ∙ size;
        within = subst (AllByRecursion (λ x. x.container < n)) (sym e) m.within;
        fits = subst (λ x. AllByRecursion Fits (gathered n x)) (sym e) m.fits;
      },
      e,
    )

-- an empty tape
no_records : (n : ℕ) → AllByRecursion Fits (gathered n [])
no_records n = all-gathered Fits n [] (λ c h. record { count = omega arith; bytes = omega arith })

pub good_empty : (w n : ℕ) (bs : List ℕ) → w ≤ 20 → n ≤ 32 → length bs ≡ tape_size w n → Good w n 0 0 bs
good_empty w n bs narrow few long =
    (good_made w n 0 0 [] bs bs (record { narrow = narrow; few = few; each = tt; within = tt; fits = no_records n }) long refl refl refl).0

-- one entry more
module _ (w n k used : ℕ) (bs : List ℕ) (g : Good w n k used bs) (e : Entry) (here : e.container < n) where
  abbrev es : List Entry
  es = log_of w k bs

  abbrev rs : List Rec
  rs = records_in e.container es

  payload_push : (xs : List Rec) (r : Rec) → payload_bytes (xs ++ r ∷ []) ≡ payload_bytes xs + length r.payload
  payload_push [] r = omega arith
  payload_push (x ∷ xs) r = let t = payload_push xs r in omega arith

  module _ (one : length rs < 63) (all : payload_bytes rs + length e.stored.payload ≤ 7168) where
    within_more : AllByRecursion (λ x. x.container < n) (es ++ e ∷ [])
    within_more = All-push (λ x. x.container < n) es e g.within here

    fits_more : AllByRecursion Fits (gathered n (es ++ e ∷ []))
    fits_more =
        let fit : Fits (rs ++ e.stored ∷ []) = record { count = (let l = length_push rs e.stored in omega arith); bytes = (let p = payload_push rs e.stored in omega arith) } in
        subst (AllByRecursion Fits) (sym (gathered_push n e es)) (All-set Fits (gathered n es) e.container (rs ++ e.stored ∷ []) fit g.fits)

    -- the tape never lacks space for what a container takes
    pub space_more : used + entry_size w e ≤ length bs
    space_more =
        let f = log_fits w n (es ++ e ∷ []) within_more fits_more in
        let s = size_join w es (e ∷ []) in
        let u = g.front in
        let l = g.long in
        omega arith

    module _ (sound : Sound w e) where
      -- the log with the entry keeps the limits
      pub limited_more : Limited w n (es ++ e ∷ [])
      limited_more = record { narrow = g.narrow; few = g.few; each = All-push (Sound w) es e g.logged.each sound; within = within_more; fits = fits_more }

      -- the tape with the entry stays in order
      pub good_more : (k' used' : ℕ) (bs' : List ℕ) → k' ≡ k + 1 → used' ≡ used + entry_size w e → length bs' ≡ length bs → bs' ≡ take used bs ++ laid_before e (drop (entry_size w e) (drop used bs)) →
          Good w n k' used' bs' × (gathered n (log_of w k' bs') ≡ appended (gathered n es) e.container e.stored)
      good_more k' used' bs' kk uu ll is =
          let u = g.front in
          let more : List ℕ = drop (entry_size w e) (drop used bs) in
          let front : take used bs ≡ log_before es [] = (λ i. take (sym u i) (sym g.logged.whole i)) ∙ take_log w es (drop (log_size w es) bs) g.logged.each in
          let b : bs' ≡ log_before (es ++ e ∷ []) more = is ∙ ap (λ x. x ++ laid_before e more) front ∙ sym (log_append es (laid_before e more)) ∙ sym (log_join es (e ∷ []) more) in
          let n' : length (es ++ e ∷ []) ≡ k' = length_push es e ∙ ap (λ x. x + 1) (length-log_of w k bs) ∙ sym kk in
          let s : log_size w (es ++ e ∷ []) ≡ used' = size_join w es (e ∷ []) ∙ omega arith in
          let made = good_made w n k' used' (es ++ e ∷ []) more bs' limited_more (ll ∙ g.long) n' s b in
          (made.0, ap (gathered n) made.1 ∙ gathered_push n e es ∙ ap (λ x. slice_set (gathered n es) e.container (x ++ e.stored ∷ [])) (sym (get_or-gathered n e.container es here)))

-- a container less
pub good_without : (w n k used c k' used' : ℕ) (bs bs' : List ℕ) → Good w n k used bs → let es = without c (log_of w k bs) in k' ≡ length es → used' ≡ log_size w es → length bs' ≡ length bs → bs' ≡ log_before es (drop used' bs') →
    Good w n k' used' bs' × (gathered n (log_of w k' bs') ≡ erased (gathered n (log_of w k bs)) c)
good_without w n k used c k' used' bs bs' g kk uu ll is =
    let es : List Entry = log_of w k bs in
    let m : Limited w n (without c es) = record {
      narrow = g.narrow;
      few = g.few;
      each = all_kept_by _ (Sound w) es g.logged.each;
      within = all_kept_by _ (λ x. x.container < n) es g.within;
      fits = subst (AllByRecursion Fits) (sym (gathered-without n c es)) (All-set Fits (gathered n es) c [] (record { count = omega arith; bytes = omega arith }) g.fits);
    } in
    let made = good_made w n k' used' (without c es) (drop used' bs') bs' m (ll ∙ g.long) (sym kk) (sym uu) is in
    (made.0, ap (gathered n) made.1 ∙ gathered-without n c es)
