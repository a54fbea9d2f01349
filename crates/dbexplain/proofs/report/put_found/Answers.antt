use Rattle.std.proofs.Common.{◌≡◌, rules, ap}
use Rattle.dblines.proofs.Writing.{put_written}
use Rattle.dbexplain.specs.Keeping.{lines_of}
use Rattle.dbexplain.proofs.report.put_found.Goals as goal

pub returns : goal.returns
returns g c =
    let wrote = c.put_fault_lines.ensures in
    let same = wrote.same_out in
    let k : c.out-1.given.0 ≡ c.put_fault_lines.new.writer.out.now = search (rules, same) in
    rw k (put_written c.end.result _ _ _ _ _ c.new-writer.ensures.fresh c.end.ensures
    (rw (ap g.O.Out.held c.new-writer.ensures.out, ap lines_of c.listed.ensures) at wrote.written))
