use Rattle.std.proofs.Common.{◌≡◌, ℕ, ◌<◌, ◌≤◌, None, Ok, refl, sym, subst, arith, ◌∙◌, ap}
use Rattle.dbwalk.proofs.Common.{Cell, cell, count, View, InteriorTable, no_chain, Fits, at_offset, cell_fits}
use Rattle.dbwalk.proofs.Leaves.LeafCells.{no_overflow, bad_cell}
use Rattle.dbwalk.proofs.steps.chain_at.Goals as goal

pub returns-then-i-cells-2 : goal.returns-then-i-cells-2
returns-then-i-cells-2 c =
    let n : c.args.cells ≡ count c.args.view.now = c.requires in
    let l : c.args.i ≤ count c.args.view.now = omega arith in
    no_chain c.args.i refl l (λ x m e. absurd (let f : ⊥ = omega arith in f))

-- a cell of an interior page of a table has no overflow page
no_payload : (v : View) (n : ℕ) → v.kind ≡ InteriorTable → (x : Cell) → n < count v → cell v n ≡ Ok x → x.overflow ≡ None
no_payload v n kind x low e = let h = at_offset v n x e in (subst (λ k. Fits k x) kind (cell_fits v.kind v h.0 x h.1)).0

pub returns-in-InteriorTable : goal.returns-in-InteriorTable
returns-in-InteriorTable c =
    let n : c.args.cells ≡ count c.args.view.now = c.requires in
    let l : c.args.i ≤ count c.args.view.now = omega arith in
    no_chain c.args.i refl l (no_payload c.args.view.now c.args.i (sym c.kind.ensures ∙ c.in-InteriorTable.is))

pub returns-in-None : goal.returns-in-None
returns-in-None c =
    let n : c.args.cells ≡ count c.args.view.now = c.requires in
    let l : c.args.i ≤ count c.args.view.now = omega arith in
    no_chain c.args.i refl l (no_overflow c.args.view.now c.args.i c.in-Ok.cell (sym c.cell.ensures ∙ c.in-Ok.is)
    (sym (ap (λ (x : Cell). x.overflow) c.cell-in-Ok.view_is) ∙ c.in-None.is))

pub returns-in-Err : goal.returns-in-Err
returns-in-Err c =
    let n : c.args.cells ≡ count c.args.view.now = c.requires in
    let l : c.args.i ≤ count c.args.view.now = omega arith in
    no_chain c.args.i refl l (bad_cell c.args.view.now c.args.i c.in-Err.field-0 (sym c.cell.ensures ∙ c.in-Err.is))
