use Rattle.std.proofs.Common.{◌≡◌, ◌+◌, ◌-◌, arith}
use Rattle.dbpage.proofs.Tables.{Marks_more, HasMarked_more, either_more}
use Rattle.dbpage.proofs.mark_table.claim_long.Goals as goal

pub loop-at-preserved : goal.loop-at-preserved
loop-at-preserved c =
    let now = c.loop-at.invariant in
    record {
      after = omega arith;
      before = omega arith;
      whole = omega arith;
      marked = Marks_more c.args.table.now c.loop-at.table c.args.from c.loop-at.at (c.loop-at.at + 256) now.after (omega arith) now.marked
          c.claim_lanes.new.table c.if-not-claim_lanes.ensures;
    }

pub returns-then-not-claim_lanes : goal.returns-then-not-claim_lanes
returns-then-not-claim_lanes c =
    let now = c.loop-at.invariant in
    HasMarked_more c.args.table.now c.loop-at.table c.args.from c.loop-at.at (c.args.from + c.args.len) now.after now.before now.marked _ (omega arith)
    c.if-not-claim_lanes.ensures

pub returns : goal.returns
returns c =
    let now = c.loop-at.invariant in
    let at = c.loop-at.at in
    let end : at + (c.args.from + c.args.len - at) ≡ c.args.from + c.args.len = omega arith in
    either_more c.args.table.now c.loop-at.table c.args.from at (c.args.from + c.args.len) now.after now.before now.marked c.claim_plain.result
    c.claim_plain.new.table (rw end at c.claim_plain.ensures)
