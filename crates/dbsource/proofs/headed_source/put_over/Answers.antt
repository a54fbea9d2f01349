use Rattle.dbsource.proofs.Overs.{over_first}
use Rattle.dbsource.proofs.headed_source.put_over.Goals as goal

pub returns-then-offset-eq0 : goal.returns-then-offset-eq0
returns-then-offset-eq0 c = over_first c.args.header.now c.args.buf.now c.copy_from_slice.new.self c.args.offset c.min-count.result c.if-offset-eq0.true
    c.requires c.min-count.ensures c.copy_from_slice.ensures.after
