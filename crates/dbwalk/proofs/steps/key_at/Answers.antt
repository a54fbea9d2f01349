use Rattle.std.proofs.Common.{◌≡◌, ℕ, ◌<◌, Result, Ok, Err, refl, sym, subst, arith, ◌∙◌, ap}
use Rattle.dbwalk.proofs.Common.{key_step, Cell, cell, count, View, CellFault, InteriorIndex, IsEmptyAt, without_key, Fits, at_offset, cell_fits, unreadable}
use Rattle.dbwalk.proofs.steps.key_at.Goals as goal

-- a cell of an interior page of an index has no key
no_rowid : (v : View) (n : ℕ) → v.kind ≡ InteriorIndex → n < count v → (r : Result Cell CellFault) → cell v n ≡ r → IsEmptyAt v (key_step n)
no_rowid v n kind low (Ok x) e = let h = at_offset v n x e in without_key n x refl low e (subst (λ k. Fits k x) kind (cell_fits v.kind v h.0 x h.1)).1
no_rowid v n kind low (Err f) e = unreadable n f refl low e

pub returns-in-InteriorIndex : goal.returns-in-InteriorIndex
returns-in-InteriorIndex c =
    let n : c.args.cells ≡ count c.args.view.now = c.requires in
    let l : c.args.i < count c.args.view.now = omega arith in
    no_rowid c.args.view.now c.args.i (sym c.kind.ensures ∙ c.in-InteriorIndex.is) l _ refl

pub returns-in-None : goal.returns-in-None
returns-in-None c =
    let n : c.args.cells ≡ count c.args.view.now = c.requires in
    let l : c.args.i < count c.args.view.now = omega arith in
    without_key c.args.i c.in-Ok.cell refl l (sym c.cell.ensures ∙ c.in-Ok.is) (sym (ap (λ (x : Cell). x.key) c.cell-in-Ok.view_is) ∙ c.in-None.is)

pub returns-in-Err : goal.returns-in-Err
returns-in-Err c =
    let n : c.args.cells ≡ count c.args.view.now = c.requires in
    let l : c.args.i < count c.args.view.now = omega arith in
    unreadable c.args.i c.in-Err.field-0 refl l (sym c.cell.ensures ∙ c.in-Err.is)
