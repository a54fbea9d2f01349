use Rattle.dbpicture.specs.Legends.{share_text}
use Rattle.dblines.proofs.Writing.{wrote_then}
use Rattle.dbpicture.proofs.legend_text.draw_share.Goals as goal

pub returns : goal.returns
unfolding share_text
returns g c =
    let size = rw (c.size-tenths.ensures.tenths, c.size-tenths.ensures.unit) at c.draw_right-2.ensures in
    wrote_then c.draw_right.ensures (wrote_then c.draw_overflow.ensures size)
