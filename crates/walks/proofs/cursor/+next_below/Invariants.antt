use Rattle.walks.proofs.cursor.+next_below.Given as goal

abbrev pub decreases-next_below : goal.decreases-next_below
decreases-next_below g l = l.height.level
