use Rattle.std.proofs.Common.{◌≡◌, ◌+◌, length, max, sym, ap, ◌∙◌, arith, Ok, Err}
use Rattle.dbwalk.proofs.Common.{Cell, cell, count, first_cells, payload_of, greatest_of}
use Rattle.dbpage.proofs.CellLemmas.{cell_local}
use Rattle.dbpage.proofs.PackedLemmas.{first_cells_more}
use Rattle.dbwalk.proofs.Pages.PageReportings.{cells_all, cells_err, local_more, greatest_more, ord_max-max}
use Rattle.dbwalk.proofs.page_row.payload_sums.Goals.{in-Ok, in_default}
use Rattle.dbwalk.proofs.page_row.payload_sums.Goals as goal

pub loop-i-preserved : goal.loop-i-preserved
loop-i-preserved c = elim c.match-cell.branch [
  | in-Ok w ↦ (
      let v = c.args.view.now in
      let n = c.loop-i.i in
      let x = w.in-Ok.cell in
      let read : cell v n ≡ Ok x = sym c.cell.ensures ∙ w.in-Ok.is in
      let len : length w.cell-in-Ok.inside.local.now ≡ length x.local = ap (λ (c : Cell). length c.local) w.cell-in-Ok.view_is in
      let size : w.cell-in-Ok.inside.size ≡ x.size = ap (λ (c : Cell). c.size) w.cell-in-Ok.view_is in
      let short = cell_local v n x read in
      let most = c.requires in
      record {
        all = w.all-is ∙ ap (λ m. c.loop-i.all + m) len ∙ ap (λ m. m + length x.local) c.loop-i.invariant.all ∙ sym (local_more (first_cells v n) n x)
            ∙ ap payload_of (sym (first_cells_more v n x read));
        greatest = w.greatest-is ∙ w.max-greatest.ensures ∙ ord_max-max c.loop-i.greatest w.from.result
            ∙ ap (λ m. max c.loop-i.greatest m) (w.from.ensures ∙ size) ∙ ap (λ m. max m x.size) c.loop-i.invariant.greatest
            ∙ sym (greatest_more (first_cells v n) n x) ∙ ap greatest_of (sym (first_cells_more v n x read));
        small = omega arith;
      })
  | in_default w ↦ (
      let v = c.args.view.now in
      let n = c.loop-i.i in
      let read : cell v n ≡ Err w.in_default.field-0 = sym c.cell.ensures ∙ w.in_default.is in
      record {
        all = w.all-is ∙ c.loop-i.invariant.all ∙ ap payload_of (sym (cells_err v n w.in_default.field-0 read));
        greatest = w.greatest-is ∙ c.loop-i.invariant.greatest ∙ ap greatest_of (sym (cells_err v n w.in_default.field-0 read));
        small = omega arith;
      })
]

pub returns-clause-all : goal.returns-clause-all
returns-clause-all c = let e : c.loop-i.i ≡ count c.args.view.now = omega arith in c.loop-i.invariant.all
    ∙ ap (λ n. payload_of (first_cells c.args.view.now n)) e ∙ ap payload_of (sym (cells_all c.args.view.now))

pub returns-clause-greatest : goal.returns-clause-greatest
returns-clause-greatest c = let e : c.loop-i.i ≡ count c.args.view.now = omega arith in c.loop-i.invariant.greatest
    ∙ ap (λ n. greatest_of (first_cells c.args.view.now n)) e ∙ ap greatest_of (sym (cells_all c.args.view.now))
