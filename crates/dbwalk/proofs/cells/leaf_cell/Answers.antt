use Rattle.std.proofs.Common.{◌≡◌, ◌≤◌, Some, None, sym, ap, ◌∙◌, arith, option_map}
use Rattle.dbwalk.proofs.Common.{most_payload, Cell, overflow_size}
use Rattle.dbwalk.proofs.Leaves.LeafCells.{readable, unreadable, cell_size}
use Rattle.dbwalk.proofs.cells.leaf_cell.Goals as goal

pub returns-in-Some : goal.returns-in-Some
returns-in-Some c =
    let x = c.in-Ok.cell in
    let read = sym c.cell.ensures ∙ c.in-Ok.is in
    let is = c.cell-in-Ok.view_is in
    let over : x.overflow ≡ Some c.in-Some.first = sym (ap (λ (c : Cell). c.overflow) is) ∙ c.in-Some.is in
    let short = cell_size c.args.view.now c.args.i x read in
    let size = c.overflow_size.ensures in
    let most : c.overflow_size.result ≤ most_payload = omega (arith, size, short) in
    readable c.args.view.now c.args.i x (Some (c.in-Some.first, c.overflow_size.result)) c.cell-in-Ok.inside.key most read
    (ap (λ n. Some (c.in-Some.first, n)) size ∙ ap (λ o. option_map (λ p. (p, overflow_size x)) o) (sym over)) (ap (λ (c : Cell). c.key) is)

pub returns-in-None : goal.returns-in-None
returns-in-None c =
    let x = c.in-Ok.cell in
    let read = sym c.cell.ensures ∙ c.in-Ok.is in
    let is = c.cell-in-Ok.view_is in
    let over : x.overflow ≡ None = sym (ap (λ (c : Cell). c.overflow) is) ∙ c.in-None.is in
    readable c.args.view.now c.args.i x None c.cell-in-Ok.inside.key tt read (ap (λ o. option_map (λ p. (p, overflow_size x)) o) (sym over))
    (ap (λ (c : Cell). c.key) is)

pub returns-in-Err : goal.returns-in-Err
returns-in-Err c = unreadable c.args.view.now c.args.i c.in-Err.field-0 (sym c.cell.ensures ∙ c.in-Err.is)
