use Rattle.dbpicture.specs.Groups.{mixed_text}
use Rattle.dblines.proofs.Writing.{wrote_then}
use Rattle.dbpicture.proofs.group.GroupSquare.draw_mixed.Goals as goal

pub returns : goal.returns
unfolding mixed_text
returns g c =
    let below = rw (c.shows-faulty.ensures, c.shows-strong.ensures) at c.draw_frame.ensures in
    let above = rw c.shows-strong.ensures at c.draw_frame-2.ensures in
    wrote_then c.write_all.ensures (wrote_then c.draw_title.ensures (wrote_then c.write_all-2.ensures
    (wrote_then below (wrote_then c.draw_bands.ensures (wrote_then above c.write_all-3.ensures)))))
