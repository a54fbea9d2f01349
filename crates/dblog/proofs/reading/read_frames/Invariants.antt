use Rattle.std.proofs.Common.{◌≡◌, ◌≤◌, ◌*◌, ◌-◌, vec_len}
use Rattle.std.specs.Prelude.{min}
use Rattle.dblog.specs.Wal.{frame_size}
use Rattle.dblog.proofs.Pieces.{PiecesRead}
use Rattle.dblog.proofs.reading.read_frames.Given as goal

abbrev pub invariant-loop-done : goal.invariant-loop-done
invariant-loop-done g l =
    (l.done ≤ l.count) × (vec_len l.buffer ≡ min l.most l.count * l.size)
    × PiecesRead g.S.Source.step l.header (frame_size l.header) l.done (g.S.Source.held l.fn.log) (g.S.Source.held l.log) l.scan

abbrev pub decreases-loop-done : goal.decreases-loop-done
decreases-loop-done g l = l.count - l.done
