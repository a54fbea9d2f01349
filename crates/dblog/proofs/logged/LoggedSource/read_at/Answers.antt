use Rattle.std.proofs.Common.{◌≡◌, arith, length}
use Rattle.dblog.specs.Placed.{placed, placed_len}
use Rattle.dblog.proofs.Besides.{step_past_end, step_read, told_read}
use Rattle.dblog.proofs.logged.LoggedSource.read_at.Goals as goal
use Rattle.dblog.proofs.logged.LoggedSource.read_at.Goals.{then-offset-len-via-then-offset-len, then-offset-len-via-else-offset-len+then-count-len}

pub returns-then-offset-len-clause-trail : goal.returns-then-offset-len-clause-trail
returns-then-offset-len-clause-trail g c =
    let p = placed c.self.inside.pages c.self.inside.base_len in
    let len : c.byte_count-len.result ≡ placed_len p = c.byte_count-len.ensures in
    rw (← c.self.view_is) (step_past_end p (record { base = g.B.Source.held c.self.inside.base; log = g.L.Source.held c.self.inside.log })
    c.args.offset (length c.args.buf.now) (elim c.then-offset-len.branch [
      | then-offset-len-via-then-offset-len w ↦ omega (arith, len, w.if-offset-len.true)
      | then-offset-len-via-else-offset-len+then-count-len w ↦ omega (arith, len, w.if-offset-len.false, w.if-count-len.true)
    ]))

pub returns-clause-trail : goal.returns-clause-trail
returns-clause-trail g c = rw (← c.self.view_is) (step_read (placed c.self.inside.pages c.self.inside.base_len)
    c.args.offset c.read_range.result c.read_range.new.buf _ _
    c.read_range.ensures)

pub returns-clause-bytes : goal.returns-clause-bytes
returns-clause-bytes g c = rw (← c.self.view_is) (told_read (placed c.self.inside.pages c.self.inside.base_len) c.args.offset c.read_range.result
    c.read_range.new.buf _ _ c.read_range.ensures)
