use Rattle.std.proofs.Common.{ap, ◌∙◌}
use Rattle.dbpicture.specs.Owners.{is_shaded}
use Rattle.dbpicture.proofs.FaultBits.{unequal}
use Rattle.dbpicture.proofs.group.GroupSquare.draw_band.Goals as goal

pub returns : goal.returns
returns g c =
    let some = unequal c.args.height 0 c.if-height-eq0.false in
    let shaded = c.is_overflow-is_overflow.ensures ∙ ap is_shaded c.share.ensures in
    rw some (rw (c.shade_letter.ensures, shaded) at c.write_all.ensures)
