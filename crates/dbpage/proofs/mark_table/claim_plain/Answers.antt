use Rattle.std.proofs.Common.{◌≡◌, ◌+◌, ◌-◌, ◌%◌, arith}
use Rattle.dbpage.proofs.Tables.{Marks_more, HasMarked_more, either_more}
use Rattle.dbpage.proofs.mark_table.claim_plain.Goals as goal

pub loop-at-preserved : goal.loop-at-preserved
loop-at-preserved c =
    let now = c.loop-at.invariant in
    let at = c.loop-at.at in
    record {
      after = omega arith;
      before = omega arith;
      marked = Marks_more c.args.table.now c.loop-at.table c.args.from at (at + (64 - at % 8)) now.after (omega arith) now.marked c.claim_few.new.table
          c.if-not-claim_few.ensures.marked;
    }

pub returns-then-not-claim_few : goal.returns-then-not-claim_few
returns-then-not-claim_few c =
    let now = c.loop-at.invariant in
    HasMarked_more c.args.table.now c.loop-at.table c.args.from c.loop-at.at (c.args.from + c.args.len) now.after now.before now.marked _ (omega arith)
    c.if-not-claim_few.ensures.marked

pub returns : goal.returns
returns c =
    let now = c.loop-at.invariant in
    let at = c.loop-at.at in
    let end : at + (c.args.from + c.args.len - at) ≡ c.args.from + c.args.len = omega arith in
    either_more c.args.table.now c.loop-at.table c.args.from at (c.args.from + c.args.len) now.after now.before now.marked c.claim_few-2.result
    c.claim_few-2.new.table (rw end at c.claim_few-2.ensures.marked)
