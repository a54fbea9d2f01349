use Rattle.std.proofs.Common.{sym, ◌∙◌}
use Rattle.dblines.proofs.Writing.{wrote_then}
use Rattle.dbpicture.proofs.faults.SquareFaults.draw.Goals as goal

pub returns-then-shows : goal.returns-then-shows
returns-then-shows g c = rw (sym c.shows.ensures ∙ c.if-shows.true) (wrote_then c.write_all.ensures c.draw_codes.ensures)
