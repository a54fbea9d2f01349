use Rattle.std.proofs.Common.{max, sym, ap, ◌∙◌}
use Rattle.dbformat.specs.Cell.{Cell}
use Rattle.dbpage.proofs.Items.{Holds-from_read}
use Rattle.dbpage.proofs.PackedLemmas.{unpacked_at_unreadable}
use Rattle.dbpage.proofs.view.PageView.add_cell.Goals as goal

pub returns-in_default : goal.returns-in_default
returns-in_default c = unpacked_at_unreadable c.args.self.now c.args.i c.in_default.field-0 c.requires.within (sym c.read_cell.ensures ∙ c.in_default.is)

pub returns : goal.returns
returns c =
    let d = c.in-Ok.cell in
    let same = c.cell.view_is in
    let has = Holds-from_read c.args.self.now c.args.i d c.cell.inside.offset c.max.result (sym c.read_cell.ensures ∙ c.in-Ok.is)
    (sym (ap (λ (e : Cell). e.offset) same)) (sym (c.max.ensures ∙ ap (λ (e : Cell). max e.len 4) same)) in
    (has, c.if-not-add_read.ensures)
