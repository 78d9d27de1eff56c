-- The choice keeps its rule.
use Rattle.std.proofs.Common.{◌≡◌, ℕ, ◌+◌, ◌<◌, true, ◌&&◌, ltb, leb, length, Some, None, Option, option_map, sym, refl, subst, arith}
use Rattle.std.specs.Option.{option_or}
use Rattle.std.proofs.lemmas.Bool.{ltb-true, leb-true, leb-false, lt-ltb, le-leb, and_parts, and_from, both_ways, cond_both}
use Rattle.records.specs.Records.{Contents, payload_bytes}
use Rattle.devices.specs.Questions.{records_of}
use Rattle.placing.specs.Openings.{free_count, next_free}
use Rattle.placing.specs.Placings.{has_space, staying, opening, chosen, Space, Full, Rule}
use Rattle.placing.specs.declared.choosing.Choice.{Choice}
use Rattle.placing.specs.declared.choosing.Choice.TheVariants.{Stays, Opens}
use Rattle.placing.specs.declared.filling.Filling.{Filling}
use Rattle.placing.proofs.Counts.{some_free_lem}
use Rattle.placing.proofs.Round.{FoundRound, found_round}

-- the question answers yes of exactly the containers with space
space_true : (cs : Contents) (c len : ℕ) → has_space cs c len ≡ true → Space cs c len
space_true cs c len e =
    let p = and_parts (ltb c (length cs)) (ltb (length (records_of cs c)) 63 && leb (payload_bytes (records_of cs c) + len) 7168) e in
    let q = and_parts (ltb (length (records_of cs c)) 63) (leb (payload_bytes (records_of cs c) + len) 7168) p.1 in
    record { here = ltb-true _ _ p.0; count = ltb-true _ _ q.0; bytes = leb-true _ _ q.1 }

true_space : (cs : Contents) (c len : ℕ) → Space cs c len → has_space cs c len ≡ true
true_space cs c len h = and_from _ _ (lt-ltb _ _ h.here) (and_from _ _ (lt-ltb _ _ h.count) (le-leb _ _ h.bytes))

module _ (cs : Contents) (f : Filling) (spare len : ℕ) where
  -- where more than spare are free, the search finds one
  found_rule : (n : Option ℕ) → Full cs f.current len → spare < free_count cs → FoundRound cs f.last n → Rule cs f spare len (option_map Opens n)
  found_rule None full many none = let t = some_free_lem cs (omega arith) in absurd (none t.0 t.1)
  found_rule (Some c) full many first = record { full = full; many = many; free = first.free; first = first.first }

  opening_rule : Full cs f.current len → Rule cs f spare len (opening cs f.last spare)
  opening_rule full =
      cond_both (leb (free_count cs) spare) None (option_map Opens (next_free cs f.last)) (Rule cs f spare len)
      (λ e. record { full = full; few = leb-true (free_count cs) spare e })
      (λ e. found_rule (next_free cs f.last) full (leb-false (free_count cs) spare e) (found_round cs f.last))

  staying_rule : (o : Option ℕ) → f.current ≡ o → Rule cs f spare len (option_or (staying cs o len) (opening cs f.last spare))
  staying_rule None is = opening_rule (λ c e _. let z : ◌≡◌ {A = ℕ} 0 1 = cc in omega arith)
  staying_rule (Some c) is =
      cond_both (has_space cs c len) (Some (Stays c)) None (λ s. Rule cs f spare len (option_or s (opening cs f.last spare)))
      (λ e. record { opened = is; space = space_true cs c len e })
      (λ e. opening_rule (λ k s h. let same : c ≡ k = cc in both_ways (has_space cs c len) e (true_space cs c len (rw same h))))

  -- a choice by another name
  pub rule_of : (r : Option Choice) → r ≡ chosen cs f spare len → Rule cs f spare len r
  rule_of r e = subst (Rule cs f spare len) (sym e) (staying_rule f.current refl)
