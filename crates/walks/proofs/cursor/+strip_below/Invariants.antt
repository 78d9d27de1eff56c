use Rattle.walks.proofs.cursor.+strip_below.Given as goal

abbrev pub decreases-strip_below : goal.decreases-strip_below
decreases-strip_below g l = l.height.level
