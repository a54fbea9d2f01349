use Rattle.dbpage.proofs.Lanes.{marked_of_byte, all_set}
use Rattle.dbpage.proofs.mark_table.claim_lanes.Goals as goal

pub returns-then-has_other : goal.returns-then-has_other
returns-then-has_other c = marked_of_byte c.args.table.now c.args.from c.requires.room c.requires.whole c.if-has_other.ensures

pub returns : goal.returns
returns c = all_set c.args.table.now c.args.from c.requires.room c.requires.whole c.if-has_other.ensures
