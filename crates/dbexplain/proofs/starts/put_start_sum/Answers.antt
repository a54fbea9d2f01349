use Rattle.std.proofs.Common.{◌≡◌, ◌++◌, [], false, cond, sym, ap, ap₂, ◌∙◌, arith}
use Rattle.std.specs.Prelude.{◌==◌}
use Rattle.std.proofs.lemmas.Bool.Decides.{nat_tests}
use Rattle.dblines.proofs.Writing.{wrote_as, wrote_then}
use Rattle.dbexplain.proofs.Common.{start_name, rows_sum, start_sum, StartCount}
use Rattle.dbexplain.proofs.SumPieces.{start_pieces}
use Rattle.dbexplain.proofs.starts.put_start_sum.Goals as goal

pub returns : goal.returns
returns g c =
    let n = c.start-count.result in
    let name = start_name c.args.names.now.encoding c.args.names.now.roots.now.rows c.args.start in
    let some : (n.faults == 0) ≡ false = grind (arith, nat_tests, c.if-count-eq0.false) in
    let below = rows_sum c.args.rows.now.ranges.now c.args.rows.now.indexes.now c.args.names.now.roots.now.rows c.args.start in
    wrote_as (ap (λ b. start_sum c.all.result name n ++ cond b [] below) (sym some)
    ∙ ap₂ (λ all (n : StartCount). start_sum all name n ++ cond (n.faults == 0) [] below) c.all.ensures c.start-count.ensures)
    (wrote_then (wrote_as (start_pieces c.all.result name n (omega arith) (omega arith) some)
    (wrote_then (wrote_then (wrote_as (c.as_slice.ensures.value ∙ c.sum_front.ensures.text) c.put.ensures) c.put-2.ensures)
    (wrote_then c.put_name.ensures (wrote_as (c.as_slice-2.ensures.value ∙ c.pages_text.ensures) c.put-3.ensures)))) c.put_rows_below.ensures)
