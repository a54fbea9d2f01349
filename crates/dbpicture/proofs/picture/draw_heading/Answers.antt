use Rattle.dbpicture.specs.Pictures.{heading_text}
use Rattle.dblines.proofs.Writing.{wrote_then}
use Rattle.dbpicture.proofs.picture.draw_heading.Goals as goal

pub returns : goal.returns
unfolding heading_text
returns g c =
    wrote_then c.write_all.ensures (wrote_then c.write_shown.ensures (wrote_then c.write_all-2.ensures
    (wrote_then c.draw_size.ensures (wrote_then c.draw_faults.ensures c.draw_unit.ensures))))
