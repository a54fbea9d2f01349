use Rattle.std.proofs.Common.{ℕ, ◌+◌, ◌≤◌, refl, ap, sym, ◌∙◌, arith}
use Rattle.std.specs.Prelude.{ok_or}
use Rattle.dbformat.specs.Head.{View, content_start}
use Rattle.dbformat.specs.Cell.{cell_at}
use Rattle.dbformat.specs.declared.CellFault.TheVariants.{Unreadable}
use Rattle.dbformat.specs.declared.PageKind.{PageKind}
use Rattle.dbpage.specs.Beginning.{IsShort}
use Rattle.dbpage.proofs.CellLemmas.{cell_found, cell_inside}
use Rattle.dbpage.proofs.view.PageView.short_index_cell.Goals.{else-offset-self-2-via-then-offset-self-2+else-not-ends_short_cell}
use Rattle.dbpage.proofs.view.PageView.short_index_cell.Goals.{else-offset-self-2-via-else-offset-self-2}
use Rattle.dbpage.proofs.view.PageView.short_index_cell.Goals as goal

pub returns : goal.returns
returns c =
    let v = c.args.self.now in
    let start = ap (λ (w : View). content_start w.number w.bytes) c.self.view_is in
    let usable = ap (λ (w : View). w.usable) c.self.view_is in
    let room : c.pointer-offset.result + 4 ≤ v.usable = elim c.else-offset-self-2.branch [
      | else-offset-self-2-via-then-offset-self-2+else-not-ends_short_cell w ↦ (w.if-not-ends_short_cell.ensures refl).0
      | else-offset-self-2-via-else-offset-self-2 w ↦ omega (arith, usable, c.self.invariant.least, w.if-offset-self-2.false)
    ] in
    let inside = cell_inside v c.args.i (omega (arith, start, c.self.invariant.start_is, c.pointer-offset.ensures, c.if-offset-self.false))
    (omega (arith, room, c.pointer-offset.ensures)) in
    let found = ap (λ (at : ℕ). ok_or (cell_at v.kind v at) Unreadable) c.pointer-offset.ensures in
    let kind = ap (λ (k : PageKind). ok_or (cell_at k v c.pointer-offset.result) Unreadable) c.requires.kind in
    cell_found c.short_index_leaf_cell.result _ _ IsShort c.short_index_leaf_cell.ensures (inside ∙ sym found ∙ kind)
