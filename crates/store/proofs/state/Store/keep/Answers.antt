use Rattle.std.proofs.Common.{◌≡◌, ℕ, List, [], length, set, Some, ap, ◌∙◌, arith}
use Rattle.records.specs.Refusals.{untold}
use Rattle.catalogue.specs.Sheets.{kept_of}
use Rattle.catalogue.specs.declared.sheet.Sheet.{Sheet}
use Rattle.store.specs.Model.{model}
use Rattle.store.specs.States.{keeping}
use Rattle.store.specs.Keeping.{new_sheet, entry_tests, tree_tests}
use Rattle.store.proofs.Kept.{entered_space, kept_whole}
use Rattle.store.proofs.Testing.{handed_on, passed, passed_value, passed_change, stopped, stopped_change}
use Rattle.store.proofs.state.Store.keep.Goals as goal

pub returns-in_err-entry : goal.returns-in_err-entry
returns-in_err-entry g c =
    let s = model g.D.Device g.D.Kind.Key.bytes c.args.self.now in
    let ts = entry_tests g.D.Kind.Key.WIDE s c.args.name.now (g.D.Kind.Key.bytes c.args.root) (length c.args.table.now) in
    let e = c.in_err-entry.field-0.0 in
    let h = c.in_err-entry.ensures in
    record {
      answer = handed_on _ e c.from_residual.ensures.1 ∙ stopped untold ts _ e _ h;
      after = stopped_change untold ts _ e s _ h;
      table = stopped_change untold ts _ e c.args.table.now _ h;
      whole = λ z. let o = handed_on _ e c.from_residual.ensures.1 in cc;
    }

pub examine_tree-requires : goal.examine_tree-requires
examine_tree-requires g c =
    let s = model g.D.Device g.D.Kind.Key.bytes c.args.self.now in
    entered_space g.D.Kind.Key.WIDE s c.args.name.now [] (length c.args.table.now) _ c.in_ok-entry.ensures

pub returns-in_err-examine_tree : goal.returns-in_err-examine_tree
returns-in_err-examine_tree g c =
    let w = g.D.Kind.Key.WIDE in
    let s = model g.D.Device g.D.Kind.Key.bytes c.args.self.now in
    let name = c.args.name.now in
    let root = g.D.Kind.Key.bytes c.args.root in
    let table = c.args.table.now in
    let ts = entry_tests w s name root (length table) in
    let e = c.in_err-examine_tree.field-0.0 in
    let h = c.in_ok-entry.ensures in
    let t = c.in_err-examine_tree.ensures in
    let o = handed_on _ e c.from_residual-in_err-examine_tree.ensures.1 in
    record {
      answer = o ∙ t.answer ∙ passed untold ts _ _ _ h;
      after = stopped_change untold (tree_tests w s name root (length table)) tt e s _ t.answer ∙ passed_change untold ts _ _ s _ h;
      table = t.emptied ∙ passed_change untold ts _ _ table _ h;
      whole = λ z. cc;
    }

pub returns : goal.returns
returns g c =
    let w = g.D.Kind.Key.WIDE in
    let s = model g.D.Device g.D.Kind.Key.bytes c.args.self.now in
    let name = c.args.name.now in
    let root = g.D.Kind.Key.bytes c.args.root in
    let table = c.args.table.now in
    let ts = entry_tests w s name root (length table) in
    let h = c.in_ok-entry.ensures in
    let t = c.in_ok-examine_tree.ensures in
    let n = c.new_sheet.ensures in
    let none : c.new_sheet.result.readings ≡ 0 = ap (λ (k : Sheet g.row.D-Kind.Denot). k.readings) n in
    record {
      answer = t.answer ∙ passed untold ts _ _ _ h;
      after =
          ap (keeping s) (c.put.ensures.counted (omega arith) ∙ ap (λ (k : Sheet g.row.D-Kind.Denot). set s.sheets c.in_ok-entry.entry (kept_of g.D.Kind.Key.bytes (Some k))) n ∙ ap (λ (z : ℕ × List ℕ). set s.sheets z.0 (Some (new_sheet z.1 root))) (passed_value untold ts _ _ h))
          ∙ passed_change untold (tree_tests w s name root (length table)) tt tt s _ t.answer
          ∙ passed_change untold ts _ _ s _ h;
      table = t.emptied ∙ passed_change untold ts _ _ table _ h;
      whole = λ z. kept_whole w s.contents root t.answer;
    }
