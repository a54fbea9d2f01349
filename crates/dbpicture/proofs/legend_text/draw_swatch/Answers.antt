use Rattle.std.proofs.Common.{sym, ◌∙◌}
use Rattle.dblines.proofs.Writing.{wrote_then}
use Rattle.dbpicture.proofs.legend_text.draw_swatch.Goals as goal

pub returns-in-Some : goal.returns-in-Some
returns-in-Some g c =
    let box = rw c.saturating_sub.ensures at c.draw_box.ensures in
    rw (sym c.owner_of.ensures ∙ c.in-Some.is) (wrote_then c.draw_shade.ensures box)

pub returns-in-None : goal.returns-in-None
returns-in-None g c = rw (sym c.owner_of.ensures ∙ c.in-None.is) c.draw_frame.ensures
