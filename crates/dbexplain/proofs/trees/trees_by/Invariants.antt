use Rattle.std.proofs.Common.{◌≡◌, ◌-◌, ◌≤◌, ◌&&◌}
use Rattle.std.specs.Prelude.{count_by, ◌==◌}
use Rattle.std.specs.List.{range_with_len}
use Rattle.dbexplain.proofs.Common.{is_of_kind, count_at}
use Rattle.dbexplain.proofs.trees.trees_by.Given as goal

abbrev pub invariant-loop-start : goal.invariant-loop-start
invariant-loop-start g l =
    (l.sum.all ≡ count_by (is_of_kind l.index l.roots.rows) (range_with_len 1 (l.start - 1)))
    × (l.sum.whole ≡ count_by (λ k. is_of_kind l.index l.roots.rows k && ((count_at l.tally k).faults == 0)) (range_with_len 1 (l.start - 1)))
    × (l.sum.whole ≤ l.sum.all) × (l.sum.all ≤ l.start)
