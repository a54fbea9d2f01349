use Rattle.std.proofs.Common.{◌≡◌, ◌≤◌, ◌-◌, length, take}
use Rattle.dblog.specs.Placed.{placed}
use Rattle.dblog.proofs.ByPages.{Began}
use Rattle.dblog.proofs.logged.read_by_pages.Given as goal

abbrev pub invariant-loop-done : goal.invariant-loop-done
invariant-loop-done g l =
    (l.done ≤ length l.buf) × (length l.buf ≡ length l.fn.buf)
    × Began g.B.Source.step g.L.Source.step (placed l.pages l.base_len) l.offset (take l.done l.buf)
    (record { base = g.B.Source.held l.fn.base; log = g.L.Source.held l.fn.log }) (record { base = g.B.Source.held l.base; log = g.L.Source.held l.log })

abbrev pub decreases-loop-done : goal.decreases-loop-done
decreases-loop-done g l = length l.buf - l.done
