use Rattle.std.proofs.Common.{max, sym, ap, ◌∙◌}
use Rattle.dbformat.specs.Cell.{Cell}
use Rattle.dbpage.proofs.Items.{Holds-from_read}
use Rattle.dbpage.proofs.held_bytes.held_by_cell.Goals as goal

pub returns-in-Ok : goal.returns-in-Ok
returns-in-Ok c =
    Holds-from_read c.args.view.now c.args.i c.in-Ok.cell c.cell.inside.offset c.max.result (sym c.read_cell.ensures ∙ c.in-Ok.is)
    (sym (ap (λ (d : Cell). d.offset) c.cell.view_is)) (sym (c.max.ensures ∙ ap (λ (d : Cell). max d.len 4) c.cell.view_is))
