use Rattle.container_format.proofs.Turn.{Held}
use Rattle.container_format.proofs.acceptance.entries_in_order.Given as goal

abbrev pub invariant-loop-entry : goal.invariant-loop-entry
invariant-loop-entry g l = Held g.F.Key.WIDE l.used l.count l.offset l.entry-iterator.size l.entry-iterator.rest.now l.unused l.entries l.body
