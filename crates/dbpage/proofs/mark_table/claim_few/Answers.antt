use Rattle.std.proofs.Common.{arith}
use Rattle.dbpage.proofs.Tables.{marked_of_common, Marks-set}
use Rattle.dbpage.proofs.mark_table.claim_few.Goals as goal

pub returns-then-old-bits-ne0 : goal.returns-then-old-bits-ne0
returns-then-old-bits-ne0 c =
    record {
      marked = marked_of_common c.args.table.now c.args.from c.args.len c.requires.few c.ones-bits.result c.ones-bits.ensures c.eight_at-old.result
          c.eight_at-old.ensures
          (omega (arith, c.if-old-bits-ne0.true)) c.eight_at-old.type_inv;
    }

pub returns : goal.returns
returns c =
    record {
      marked = Marks-set c.args.table.now c.args.from c.args.len c.requires.few c.ones-bits.result c.ones-bits.ensures c.eight_at-old.result
          c.eight_at-old.ensures c.set_eight.new.table c.set_eight.ensures.inside
          c.set_eight.ensures.outside c.if-old-bits-ne0.false;
    }
