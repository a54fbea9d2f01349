use Rattle.std.proofs.Common.{◌≡◌, ◌≤◌, ◌-◌, ◌+◌, length, cond, true}
use Rattle.dblog.proofs.JournalRuns.{Walked}
use Rattle.dblog.proofs.journal_reading.read_places.Given as goal

abbrev pub invariant-loop-goes_on : goal.invariant-loop-goes_on
invariant-loop-goes_on g l =
    (length l.buffer ≡ length l.fn.buffer) × (l.goes_on ≡ true → l.place.at ≤ l.shape.len)
    × Walked g.S.Source.step l.shape l.fn.first l.place l.goes_on (g.S.Source.held l.fn.journal) (g.S.Source.held l.journal) l.fn.gathered l.gathered

abbrev pub decreases-loop-goes_on : goal.decreases-loop-goes_on
decreases-loop-goes_on g l = cond l.goes_on (l.shape.len - l.place.at + 1) 0
