use Rattle.dblines.proofs.Writing.{wrote_then}
use Rattle.dbpicture.proofs.outlines.draw_outline.Goals as goal

pub returns : goal.returns
returns g c =
    let first = rw (c.x_of.ensures.x, c.outline_tail.ensures) at c.write_all.ensures in
    let last = rw c.outside_words.ensures at c.write_all-2.ensures in
    wrote_then first (wrote_then c.draw_pages.ensures last)
