use Rattle.dblog.proofs.FrameRows.{SoFar}
use Rattle.dblog.proofs.scan.Scan.look_at_all.Given as goal

abbrev pub invariant-loop-i : goal.invariant-loop-i
invariant-loop-i g l = SoFar l.header l.size l.count l._i l.frames l.rest l.initial.self l.self
