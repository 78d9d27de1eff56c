use Rattle.walks.proofs.sweep.Nodes.admit_children.Goals as goal

pub returns : goal.returns
returns g c = rw c.payload_at.ensures at c.admit_pieces.ensures
