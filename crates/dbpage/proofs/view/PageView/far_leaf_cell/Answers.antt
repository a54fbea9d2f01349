use Rattle.std.proofs.Common.{ℕ, Option, ap, sym, ◌∙◌, arith}
use Rattle.std.specs.Prelude.{ok_or}
use Rattle.dbformat.specs.Head.{View, content_start}
use Rattle.dbformat.specs.Cell.{Cell, cell_at}
use Rattle.dbformat.specs.declared.CellFault.TheVariants.{Unreadable}
use Rattle.dbformat.specs.declared.PageKind.{PageKind}
use Rattle.dbpage.proofs.CellLemmas.{cell_inside}
use Rattle.dbpage.proofs.view.PageView.far_leaf_cell.Goals as goal

pub returns : goal.returns
returns c =
    let v = c.args.self.now in
    let far = c.in_ok-found.ensures in
    let start = ap (λ (w : View). content_start w.number w.bytes) c.self.view_is in
    let usable = ap (λ (w : View). w.usable) c.self.view_is in
    let inside = cell_inside v c.args.i (omega (arith, start, c.self.invariant.start_is, c.pointer-offset.ensures, c.if-offset-self.false))
    (omega (arith, usable, c.pointer-offset.ensures, c.if-offset-self-2.false)) in
    let found = ap (λ (at : ℕ). ok_or (cell_at v.kind v at) Unreadable) c.pointer-offset.ensures in
    let kind = ap (λ (k : PageKind). ok_or (cell_at k v c.pointer-offset.result) Unreadable) c.requires.kind in
    (inside ∙ sym found ∙ kind ∙ ap (λ (o : Option Cell). ok_or o Unreadable) far.0, far.1, far.2)
