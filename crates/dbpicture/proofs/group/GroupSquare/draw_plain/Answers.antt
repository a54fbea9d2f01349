use Rattle.std.proofs.Common.{ap, ◌∙◌}
use Rattle.dbpicture.specs.Owners.{is_shaded}
use Rattle.dbpicture.specs.Groups.{plain_text}
use Rattle.dblines.proofs.Writing.{wrote_then}
use Rattle.dbpicture.proofs.group.GroupSquare.draw_plain.Goals as goal

pub returns : goal.returns
unfolding plain_text
returns g c =
    let shaded = c.is_overflow.ensures ∙ ap is_shaded c.share.ensures in
    let first = rw (c.shade_letter.ensures, shaded, c.extent.ensures, c.stroke.ensures, c.frame-frame.ensures) at c.write_all.ensures in
    wrote_then first (wrote_then c.draw_title.ensures c.write_all-2.ensures)
