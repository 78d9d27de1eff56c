-- An entry that is written at a place of the bytes.
use Rattle.std.specs.Prelude.{◌≡◌, ℕ, ◌-◌, ◌≤◌, List, ◌++◌, length, take, drop}
use Rattle.std.proofs.Common.{ap, ◌∙◌}
use borrow.Rule.Slice.PartMut.{put_mid}
use Rattle.std.proofs.lemmas.List.{take_rest}
use Rattle.tape.specs.Log.{Entry, laid_before, entry_size}
use Rattle.tape.proofs.Entries.{put_rest}

-- written over the front of all bytes from there on, it stands behind those before
pub entry-put : (w at : ℕ) (e : Entry) (bs last : List ℕ) → at ≤ length bs → last ≡ laid_before e (drop (entry_size w e) (take (length bs - at) (drop at bs))) → put_mid at (length bs - at) bs last ≡ take at bs ++ laid_before e (drop (entry_size w e) (drop at bs))
entry-put w at e bs last h is = put_rest at bs last h ∙ ap (λ x. take at bs ++ x) (is ∙ ap (λ x. laid_before e (drop (entry_size w e) x)) (take_rest bs at))
