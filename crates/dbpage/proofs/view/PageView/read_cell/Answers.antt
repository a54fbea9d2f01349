use Rattle.std.proofs.Common.{ℕ, inl, inr, sym, ap, ◌∙◌, arith}
use Rattle.dbformat.specs.Head.{View, content_start}
use Rattle.std.specs.Prelude.{ok_or, Option}
use Rattle.dbformat.specs.Cell.{Cell, cell_at}
use Rattle.dbformat.specs.declared.PageKind.{PageKind}
use Rattle.dbformat.specs.declared.CellFault.TheVariants.{Unreadable}
use Rattle.dbpage.proofs.CellLemmas.{cell_outside, cell_inside}
use Rattle.dbpage.proofs.view.PageView.read_cell.Goals as goal
use Rattle.dbpage.proofs.view.PageView.read_cell.Goals.{then-offset-self-via-then-offset-self, then-offset-self-via-else-offset-self+then-offset-self-2}

pub returns-then-offset-self : goal.returns-then-offset-self
returns-then-offset-self c =
    let start = ap (λ (v : View). content_start v.number v.bytes) c.self.view_is in
    let usable = ap (λ (v : View). v.usable) c.self.view_is in
    sym (cell_outside c.args.self.now c.args.i (elim c.then-offset-self.branch [
      | then-offset-self-via-then-offset-self w ↦ inl (omega (arith, start, c.self.invariant.start_is, c.pointer-offset.ensures))
      | then-offset-self-via-else-offset-self+then-offset-self-2 w ↦ inr (omega (arith, usable, c.pointer-offset.ensures))
    ]))

pub returns : goal.returns
returns c =
    let start = ap (λ (v : View). content_start v.number v.bytes) c.self.view_is in
    let usable = ap (λ (v : View). v.usable) c.self.view_is in
    let inside = cell_inside c.args.self.now c.args.i (omega (arith, start, c.self.invariant.start_is, c.pointer-offset.ensures))
    (omega (arith, usable, c.pointer-offset.ensures)) in
    let found = ap (λ (at : ℕ). ok_or (cell_at c.args.self.now.kind c.args.self.now at) Unreadable) c.pointer-offset.ensures in
    let kind = ap (λ (k : PageKind). ok_or (cell_at k c.args.self.now c.pointer-offset.result) Unreadable) c.requires.kind in
    c.ok_or.ensures.value ∙ ap (λ (o : Option Cell). ok_or o Unreadable) c.cell_at.ensures ∙ kind ∙ found ∙ sym inside
