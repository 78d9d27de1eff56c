-- What a tape keeps true is a proposition, and no container is ever over its limits.
use Rattle.std.specs.Prelude.{◌≡◌, ℕ, ◌<◌, List, [], cond, ◌≢◌}
use Rattle.std.proofs.Common.{sym, ap, subst, ⊎_elim}
use mathlib.Core.List.{is_set}
use Rattle.std.proofs.Math.Logic.{∥∥₁_elim}
use Rattle.std.proofs.Math.Bridge.{le_prop}
use Rattle.std.proofs.Math.Nat.{ℕ_set}
use Rattle.std.specs.List.{AllByRecursion, AllByRecursion-prop}
use Rattle.keys.specs.Octets.{Bytes}
use Rattle.records.specs.Limits.{Typed, Fits}
use Rattle.records.specs.Records.{Rec}
use Rattle.devices.specs.Questions.{Held}
use Rattle.tape.specs.Log.{Entry, Sound, Logged, log_of, gathered}
use Rattle.tape.specs.Sizes.{Good}
use Rattle.tape.specs.Gathering.{all-gathered, typed_records}
use Rattle.std.proofs.lemmas.Bool.{eq-eqb, ne_eqb, cases_eq}
use Rattle.tape.specs.Meaning.{held_at}

prop_bytes : (xs : List ℕ) → IsProp (Bytes xs)
prop_bytes xs = AllByRecursion-prop (λ b. b < 256) (λ x. le_prop) xs

prop_typed : (w : ℕ) (r : Rec) → IsProp (Typed w r)
prop_typed w r a b i = record {
  wide = ℕ_set _ _ a.wide b.wide i;
  fingerprint = prop_bytes r.fingerprint a.fingerprint b.fingerprint i;
  payload = prop_bytes r.payload a.payload b.payload i;
}

prop_sound : (w : ℕ) (e : Entry) → IsProp (Sound w e)
prop_sound w e a b i = record { typed = prop_typed w e.stored a.typed b.typed i; few = le_prop a.few b.few i }

pub prop_logged : (w k : ℕ) (bs : List ℕ) → IsProp (Logged w k bs)
prop_logged w k bs a b i = record {
  space = le_prop a.space b.space i;
  whole = is_set ℕ_set _ _ a.whole b.whole i;
  each = AllByRecursion-prop (Sound w) (prop_sound w) _ a.each b.each i;
}

prop_fits : (rs : List Rec) → IsProp (Fits rs)
prop_fits rs a b i = record { count = le_prop a.count b.count i; bytes = le_prop a.bytes b.bytes i }

prop_good : (w n k used : ℕ) (bs : List ℕ) → IsProp (Good w n k used bs)
prop_good w n k used bs a b i = record {
  narrow = le_prop a.narrow b.narrow i;
  few = le_prop a.few b.few i;
  long = ℕ_set _ _ a.long b.long i;
  logged = prop_logged w k bs a.logged b.logged i;
  front = ℕ_set _ _ a.front b.front i;
  within = AllByRecursion-prop (λ e. e.container < n) (λ e. le_prop) _ a.within b.within i;
  fits = AllByRecursion-prop Fits prop_fits _ a.fits b.fits i;
}

-- what the ghost field holds, as a fact that can be used
pub good_from : (w n k used : ℕ) (bs : List ℕ) → ∥ Good w n k used bs ∥₁ → Good w n k used bs
good_from w n k used bs h = ∥∥₁_elim h (prop_good w n k used bs) (λ g. g)

-- the law of a device
pub good_held : (w n k used : ℕ) (bs : List ℕ) → Good w n k used bs → Held w (gathered n (log_of w k bs))
good_held w n k used bs g = record { fits = g.fits; typed = all-gathered (AllByRecursion (Typed w)) n (log_of w k bs) (λ c h. typed_records w c (log_of w k bs) g.logged.each) }

pub held_same : (w v n k : ℕ) (bs : List ℕ) → v ≡ w → held_at w v n k bs ≡ gathered n (log_of v k bs)
held_same w v n k bs e = ap (λ b. cond b (gathered n (log_of v k bs)) []) (eq-eqb v w e)

pub held_none : (w v n k : ℕ) (bs : List ℕ) → (v ≢ w) → held_at w v n k bs ≡ []
held_none w v n k bs e = ap (λ b. cond b (gathered n (log_of v k bs)) []) (ne_eqb v w e)

-- no container is over its limits
pub held-held : (w v n k used : ℕ) (bs : List ℕ) → ∥ Good v n k used bs ∥₁ → Held w (held_at w v n k bs)
held-held w v n k used bs h =
    ⊎_elim
    (λ e. subst (λ x. Held w x) (sym (held_same w v n k bs e)) (subst (λ x. Held x (gathered n (log_of v k bs))) e (good_held v n k used bs (good_from v n k used bs h))))
    (λ ne. subst (λ x. Held w x) (sym (held_none w v n k bs ne)) (record { fits = tt; typed = tt }))
    (cases_eq v w)
