-- The state that a store stands for, where `bytes` gives a fingerprint's bytes. Clauses name it in full: the value of an `impl Model` can't use what a bound has.
use Rattle.std.specs.Prelude.{ℕ, List, is_some}
use Rattle.devices.specs.declared.device.Device.{Ghosts}
use Rattle.trees.specs.Holding.{if_some}
use Rattle.catalogue.specs.Sheets.{kept_all}
use Rattle.store.specs.States.{State, none_filled}
use Rattle.store.specs.declared.state.Store.{Store}

abbrev pub model : {D P : Type 0} → Ghosts D P → (P → List ℕ) → Store D P → State
model g bytes s = record {
  contents = g.contents s.device;
  number = s.number;
  admitted = is_some s.filling;
  filling = if_some none_filled (λ f. f) s.filling;
  sheets = kept_all bytes s.catalogue.entries;
  marking = s.marking;
}
