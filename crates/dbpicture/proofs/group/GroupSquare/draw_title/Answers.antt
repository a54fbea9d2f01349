use Rattle.dbpicture.specs.Groups.{title_text}
use Rattle.dblines.proofs.Writing.{wrote_then}
use Rattle.dbpicture.proofs.group.GroupSquare.draw_title.Goals as goal

pub returns : goal.returns
unfolding title_text
returns g c =
    wrote_then c.draw_group_pages.ensures (wrote_then c.draw_owners.ensures c.draw.ensures)
