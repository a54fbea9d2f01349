use Rattle.std.proofs.Common.{rules, ◌≡◌, ℕ, refl, sym, subst, ap, ◌∙◌, arith}
use Rattle.dbformat.specs.Head.{View, cell_count, content_start}
use Rattle.dbformat.specs.Cell.{count}
use Rattle.dbformat.specs.Coverage.{items}
use Rattle.dbpage.specs.Beginning.{AreInRun}
use Rattle.dbpage.specs.Marking.{ShareNoByte}
use Rattle.dbpage.specs.Packed.{AddUpTo}
use Rattle.dbpage.proofs.Runs.{cell_joins, run_of_items}
use Rattle.dbpage.proofs.view.PageView.packed_in_run.Goals as goal

pub loop-i-init : goal.loop-i-init
loop-i-init c = record { read = c.in_ok-begun.ensures.read; run = c.in_ok-begun.ensures.run }

pub loop-i-preserved : goal.loop-i-preserved
loop-i-preserved c =
    let was = c.loop-i.run in
    let run = c.add.new.self in
    let cell = c.in_ok-offset in
    record {
      read = cell.ensures.1;
      run = cell_joins c.args.self.now c.loop-i.i was.from was.to c.loop-i.invariant.run cell.offset cell.len run.from run.to cell.ensures.0
          (c.if-not-add.ensures.beside refl);
    }

pub packed_from-requires-clause-apart : goal.packed_from-requires-clause-apart
packed_from-requires-clause-apart c =
    let v = c.args.self.now in
    let run = c.loop-i.run in
    let all : c.loop-i.i ≡ count v = omega (
      arith,
      c.loop-i-test.false,
      c.loop-i.auto.i-end,
      c.in_ok-begun.ensures.few,
      c.self.invariant.cells_is,
      ap (λ (w : View). cell_count w.number w.bytes) c.self.view_is,
    ) in
    subst (λ (n : ℕ). ShareNoByte (items v) (content_start v.number v.bytes) v.usable n) (sym c.len.ensures)
    (run_of_items v c.loop-i.i run.from run.to c.loop-i.invariant.run all
    (sym c.freeblocks.ensures.all ∙ c.in-None.ensures.steps.0.0))

pub packed_by_marks-requires-in-Some-clause-begun : goal.packed_by_marks-requires-in-Some-clause-begun
packed_by_marks-requires-in-Some-clause-begun c =
    let v = c.args.self.now in
    let sums = c.loop-i.sums in
    let run = c.loop-i.run in
    let cells = ap (λ (w : View). cell_count w.number w.bytes) c.self.view_is in
    let all : c.loop-i.i ≡ c.self.inside.cells =
    omega (arith, c.loop-i-test.false, c.loop-i.auto.i-end, c.in_ok-begun.ensures.few, c.self.invariant.cells_is, cells) in
    record {
      few = omega (arith, c.self.invariant.cells_is, cells);
      read = subst (λ (n : ℕ). AddUpTo v n sums) all c.loop-i.invariant.read;
      runs = subst (λ (n : ℕ). AreInRun v n run.from run.to) all c.loop-i.invariant.run;
    }

pub returns-then-not-add : goal.returns-then-not-add
returns-then-not-add c = search rules
