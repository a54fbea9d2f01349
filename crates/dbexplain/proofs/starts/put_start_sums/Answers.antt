use Rattle.std.proofs.Common.{◌≡◌, suc, length, get_or, sym, ap, arith}
use Rattle.std.specs.List.{range_with_len}
use Rattle.std.proofs.lemmas.List.FromFn.{get_or-range_with_len, length-range_with_len}
use Rattle.dblines.proofs.Writing.{wrote_all, wrote_as, wrote_more, wrote_none}
use Rattle.dbexplain.proofs.Common.{start_name, numbered_sum, rows_sum}
use Rattle.dbexplain.proofs.starts.put_start_sums.Goals as goal

pub loop-start-init : goal.loop-start-init
loop-start-init g c =
    let rows = c.args.names.now.roots.now.rows in
    wrote_none (numbered_sum c.args.tally.now (start_name c.args.names.now.encoding rows)
    (rows_sum c.args.rows.now.ranges.now c.args.rows.now.indexes.now rows)) (range_with_len 0 (suc (length rows))) c.args.writer.now

pub loop-start-preserved : goal.loop-start-preserved
loop-start-preserved g c =
    let rows = c.args.names.now.roots.now.rows in
    let line = numbered_sum c.args.tally.now (start_name c.args.names.now.encoding rows)
    (rows_sum c.args.rows.now.ranges.now c.args.rows.now.indexes.now rows) in
    let trees = range_with_len 0 (suc (length rows)) in
    let i = c.loop-start.start in
    let all : length trees ≡ suc (length rows) = length-range_with_len 0 (suc (length rows)) in
    let this : get_or trees i 0 ≡ i = omega (arith, get_or-range_with_len 0 (suc (length rows)) i 0 (omega arith)) in
    wrote_more line trees i 0 (omega arith) c.loop-start.invariant (wrote_as (ap line (sym this)) c.put_start_sum.ensures)

pub returns : goal.returns
returns g c =
    let rows = c.args.names.now.roots.now.rows in
    let trees = range_with_len 0 (suc (length rows)) in
    let all : length trees ≡ suc (length rows) = length-range_with_len 0 (suc (length rows)) in
    wrote_all (numbered_sum c.args.tally.now (start_name c.args.names.now.encoding rows)
    (rows_sum c.args.rows.now.ranges.now c.args.rows.now.indexes.now rows)) trees c.loop-start.start (omega arith) c.loop-start.invariant
