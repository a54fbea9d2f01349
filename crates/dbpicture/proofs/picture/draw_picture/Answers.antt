use Rattle.dbpicture.specs.Pictures.{picture_text}
use Rattle.dblines.proofs.Writing.{of_all, of_then, wrote_then}
use Rattle.dbpicture.proofs.picture.draw_picture.Goals as goal

pub returns : goal.returns
unfolding picture_text
returns g c =
    let head = rw (c.top_of-bottom.ensures.top, c.rows.ensures, c.from-height.ensures, c.height.ensures) at c.draw_head.ensures in
    let legend = rw (c.top_of-bottom.ensures.top, c.rows.ensures) at c.draw-2.ensures in
    of_then (of_all head) (of_then (of_all c.draw_heading.ensures) (of_then (of_all c.draw_row_names.ensures)
    (of_then c.draw.ensures (of_all (wrote_then legend c.write_all.ensures)))))
