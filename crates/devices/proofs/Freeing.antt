-- Which containers are free, container by container and number by number.
use Rattle.std.proofs.Common.{◌≡◌, Bool, ◌&&◌, [], length, map, sym, ap, ◌∙◌}
use Rattle.std.specs.List.{range_with_len}
use Rattle.std.proofs.lemmas.Bool.{lt-ltb}
use Rattle.std.proofs.lemmas.List.{length-map, get_or-map}
use Rattle.std.proofs.lemmas.List.FromFn.{fill_by_all}
use Rattle.records.specs.Records.{Contents}
use Rattle.devices.specs.Questions.{records_of, unused, is_free}

-- what each container gives by whether it has no records is what its number gives by whether it is free
pub free_by_number : {X : Type 0} (f : Bool → X) (d : X) (cs : Contents) → map (λ rs. f (unused rs)) cs ≡ map (λ c. f (is_free cs c)) (range_with_len 0 (length cs))
free_by_number f d cs =
    fill_by_all (λ c. f (is_free cs c)) (map (λ rs. f (unused rs)) cs) (length cs) d (length-map cs (λ rs. f (unused rs)))
    (λ c h. get_or-map (λ rs. f (unused rs)) cs c [] d h ∙ ap (λ b. f (b && unused (records_of cs c))) (sym (lt-ltb c (length cs) h)))
