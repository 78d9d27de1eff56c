-- How the search for the first refusal, and for a free container, goes on.
use Rattle.std.proofs.Common.{◌≡◌, ℕ, suc, ◌+◌, ◌<◌, Bool, false, ◌||◌, List, [], ◌∷◌, length, get_or, drop, map, Some, None, Ok, Option, sym, refl, ap, ◌∙◌, add-one, arith}
use Rattle.std.proofs.lemmas.List.{at_drop_more}
use Rattle.std.specs.List.{list_any, range_with_len}
use Rattle.std.specs.Option.{option_or}
use Rattle.records.specs.Records.{Rec, Contents}
use Rattle.records.specs.declared.refusal.Cause.{Cause}
use Rattle.records.specs.declared.refusal.Place.{Place}
use Rattle.records.specs.declared.refusal.Refusal.{Refusal}
use Rattle.devices.specs.Questions.{unused, is_free}
use Rattle.devices.proofs.Freeing.{free_by_number}
use Rattle.admission.specs.Admission.{refused_at, refused_among, refused_from, some_free, answer_by}

-- an answer without a refusal
pub none_refused : (o : Option Refusal) → Ok tt ≡ answer_by o → o ≡ None
none_refused None e = refl
none_refused (Some x) e = absurd (let z : ◌≡◌ {A = ℕ} 0 1 = cc in omega arith)

-- nothing either way is nothing in both
pub none_both : {X : Type 0} (a b : Option X) → option_or a b ≡ None → (a ≡ None) × (b ≡ None)
none_both None b e = (refl, e)
none_both (Some x) b e = absurd (let z : ◌≡◌ {A = ℕ} 0 1 = cc in omega arith)

pub none_told : (p : Place) (o : Option Cause) → refused_at p o ≡ None → o ≡ None
none_told p None e = refl
none_told p (Some x) e = absurd (let z : ◌≡◌ {A = ℕ} 0 1 = cc in omega arith)

abbrev pub placed : ℕ → ℕ → Place
placed c i = record { container = c; index = i }

-- where a container has no refusal, the search goes on with the next
pub from_more : (judge : Place → Rec → Option Cause) (c : ℕ) (cs : Contents) → c < length cs → refused_among judge c 0 (get_or cs c []) ≡ None → refused_from judge c (drop c cs) ≡ refused_from judge (c + 1) (drop (c + 1) cs)
from_more judge c cs h t =
    at_drop_more (refused_from judge c) cs c [] h
    ∙ ap (λ o. option_or o (refused_from judge (suc c) (drop (c + 1) cs))) t
    ∙ ap (λ k. refused_from judge k (drop (c + 1) cs)) (sym (add-one c))

-- a test of some elements is a test of what it says of them
any_map : {X : Type 0} (test : X → Bool) (xs : List X) → list_any test xs ≡ list_any (λ b. b) (map test xs)
any_map test [] = refl
any_map test (x ∷ xs) = ap (λ b. test x || b) (any_map test xs)

-- some container is free where one of the numbers is that of a free one
pub some_free_by_number : (cs : Contents) → list_any (is_free cs) (range_with_len 0 (length cs)) ≡ some_free cs
some_free_by_number cs = any_map (is_free cs) _ ∙ ap (list_any (λ b. b)) (sym (free_by_number (λ b. b) false cs)) ∙ sym (any_map unused cs)
