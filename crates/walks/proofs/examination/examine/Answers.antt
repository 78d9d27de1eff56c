use Rattle.walks.proofs.Visiting.{absent_is, whole_is}
use Rattle.walks.proofs.examination.examine.Goals as goal

pub returns-clause-absent : goal.returns-clause-absent
returns-clause-absent g c = absent_is _ _ _ _ _ c.sweep_tree-told.ensures

pub returns-clause-whole : goal.returns-clause-whole
returns-clause-whole g c = whole_is _ _ _ _ _ c.sweep_tree-told.ensures
