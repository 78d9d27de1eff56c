-- A sheet that may be opened has fewer than sixteen readings out.
use Rattle.std.proofs.Common.{◌≡◌, ℕ, zero, suc, ◌<◌, ◌≤◌, leb, List, [], ◌∷◌, Ok, Option, refl, inl, inr, arith}
use Rattle.std.proofs.lemmas.Bool.{leb-false}
use Rattle.std.proofs.lemmas.List.Sums.{sum_by-cons}
use Rattle.records.specs.Refusals.{untold}
use Rattle.records.specs.declared.refusal.Cause.TheVariants.{TooManyTokens}
use Rattle.catalogue.specs.Sheets.{Kept, readings_of, readings_out}
use Rattle.store.specs.States.{State}
use Rattle.store.specs.Readings.{out_at, open_tests, open_entry}
use Rattle.store.proofs.Testing.{passed_in}

out_part : (ks : List (Option Kept)) (i : ℕ) → out_at ks i ≤ readings_out ks
out_part [] i = omega arith
out_part (k ∷ ks) zero = omega (arith, sum_by-cons readings_of k ks)
out_part (k ∷ ks) (suc i) = omega (arith, out_part ks i, sum_by-cons readings_of k ks)

pub opened_few : (s : State) (name : List ℕ) (entry n : ℕ) → Ok entry ≡ open_entry s name → n ≡ out_at s.sheets entry → n < 16
opened_few s name entry n h e =
    omega (arith, out_part s.sheets entry, leb-false 16 (readings_out s.sheets) (passed_in untold (open_tests s name) _ entry h (leb 16 (readings_out s.sheets), TooManyTokens) (inr (inr (inr (inl refl))))))
