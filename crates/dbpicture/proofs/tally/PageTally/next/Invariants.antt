use Rattle.dbpicture.specs.Tallies.{left_pages, pages_at}
use Rattle.dbpicture.proofs.FirstMost.{IsFirst}
use Rattle.dbpicture.proofs.tally.PageTally.next.Given as goal

abbrev pub invariant-loop-start : goal.invariant-loop-start
invariant-loop-start g l = IsFirst (left_pages (pages_at l.self.starts) l.taken) l.start l.next l.most
