-- A container's records in a log, before and after a turn of a walk.
use Rattle.std.specs.Prelude.{◌≡◌, ℕ, ◌+◌, ◌<◌, List, ◌∷◌, length, drop, ◌≢◌, slice_index, refl}
use Rattle.std.proofs.Common.{sym, ap, ◌∙◌}
use Rattle.tape.specs.Log.{Entry, records_in}
use Rattle.tape.specs.Gathering.{records_one, records_skip}
use Rattle.tape.proofs.Walks.{On, next_is, container_is}
use Rattle.tape.proofs.Walks as walk

module _ (w i at : ℕ) (bs : List ℕ) (es : List Entry) (on : On w bs at (drop i es)) (turn : i < length es) where
  abbrev entry : Entry
  entry = walk.entry w i at bs es on turn

  -- an entry of the container is its next record
  pub records_here : (c : ℕ) → slice_index (drop at bs) 0 ≡ c → records_in c (drop i es) ≡ entry.stored ∷ records_in c (drop (i + 1) es)
  records_here c p = ap (records_in c) (next_is w i at bs es on turn) ∙ records_one c entry (drop (i + 1) es) (sym (container_is w i at bs es on turn _ refl) ∙ p)

  -- an entry of another container changes nothing
  pub records_not : (c : ℕ) → (slice_index (drop at bs) 0 ≢ c) → records_in c (drop i es) ≡ records_in c (drop (i + 1) es)
  records_not c p = ap (records_in c) (next_is w i at bs es on turn) ∙ records_skip c entry (drop (i + 1) es) (λ q. p (container_is w i at bs es on turn _ refl ∙ q))
