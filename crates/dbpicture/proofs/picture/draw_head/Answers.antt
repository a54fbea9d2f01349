use Rattle.dbpicture.specs.Pictures.{head_text}
use Rattle.dblines.proofs.Writing.{wrote_then}
use Rattle.dbpicture.proofs.picture.draw_head.Goals as goal

pub returns : goal.returns
unfolding head_text
returns g c =
    wrote_then c.write_all.ensures (wrote_then c.write_shown.ensures (wrote_then c.write_all-2.ensures
    (wrote_then c.write_shown-2.ensures
    (wrote_then c.write_all-3.ensures (wrote_then c.draw_patterns.ensures c.write_all-4.ensures)))))
