use Rattle.std.proofs.Common.{◌≡◌, ◌<◌, ◌≤◌, length, ap, arith}
use Rattle.std.specs.List.{flat_map}
use Rattle.dblines.proofs.Writing.{wrote_all, wrote_as, wrote_more, wrote_none}
use Rattle.dbpicture.specs.Faults.{code_if, shown}
use Rattle.dbpicture.proofs.faults.SquareFaults.draw_codes.Goals as goal

pub loop-code-init : goal.loop-code-init
loop-code-init g c = wrote_none (code_if (shown c.args.self.bits)) c.all-code-items.result c.args.writer.now

pub loop-code-preserved : goal.loop-code-preserved
loop-code-preserved g c =
    let all = c.all-code-items.result in
    let count : length all ≡ 35 = ap length c.all-code-items.ensures in
    let within : c.loop-code.code-index < length all = omega (arith, count) in
    wrote_more (code_if (shown c.args.self.bits)) all c.loop-code.code-index _ within c.loop-code.invariant c.draw_code.ensures

pub returns : goal.returns
returns g c =
    let all = c.all-code-items.result in
    let count : length all ≡ 35 = ap length c.all-code-items.ensures in
    let end : length all ≤ c.loop-code.code-index = omega (arith, count) in
    wrote_as (ap (flat_map (code_if (shown c.args.self.bits))) c.all-code-items.ensures)
    (wrote_all (code_if (shown c.args.self.bits)) all c.loop-code.code-index end c.loop-code.invariant)
