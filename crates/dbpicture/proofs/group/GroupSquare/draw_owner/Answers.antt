use Rattle.std.proofs.Common.{sym}
use Rattle.dblines.proofs.Writing.{wrote_then}
use Rattle.dbpicture.proofs.group.GroupSquare.draw_owner.Goals as goal

pub returns : goal.returns
returns g c =
    let has = rw c.if-not-has.false at c.has.ensures in
    let front = rw (c.owner_mark.ensures, c.share.ensures, c.words.ensures) at c.write_all.ensures in
    rw (sym has) (wrote_then front c.draw.ensures)
