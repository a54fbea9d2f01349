use Rattle.std.proofs.Common.{suc, length, take}
use Rattle.std.specs.List.{flat_map, range_with_len}
use Rattle.dbexplain.proofs.Common.{Wrote, start_name, numbered_sum, rows_sum}
use Rattle.dbexplain.proofs.starts.put_start_sums.Given as goal

abbrev pub invariant-loop-start : goal.invariant-loop-start
invariant-loop-start g l =
    let rows = l.names.roots.now.rows in
    Wrote g.O.Out.held l.initial.writer
    (flat_map (numbered_sum l.tally (start_name l.names.encoding rows) (rows_sum l.rows.ranges.now l.rows.indexes.now rows)) (take l.start
    (range_with_len 0 (suc (length rows))))) l.writer
