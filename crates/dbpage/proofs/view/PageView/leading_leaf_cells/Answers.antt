use Rattle.std.proofs.Common.{◌≡◌, ◌≤◌, ℕ, sym, subst, ap, arith}
use Rattle.dbformat.specs.Head.{View, cell_count, content_start}
use Rattle.dbpage.specs.Beginning.{AreInRun, HasRun, IsRunning}
use Rattle.dbpage.specs.Packed.{AddUpTo}
use Rattle.dbpage.proofs.PackedLemmas.{none_running}
use Rattle.dbpage.proofs.view.PageView.leading_leaf_cells.Goals as goal

pub returns-then-self-lt33 : goal.returns-then-self-lt33
returns-then-self-lt33 c =
    let v = c.args.self.now in
    let usable = ap (λ (w : View). w.usable) c.self.view_is in
    let start : content_start v.number v.bytes ≤ v.usable =
    omega (arith, usable, ap (λ (w : View). content_start w.number w.bytes) c.self.view_is, c.self.invariant.start_is, c.self.invariant.inside) in
    subst (IsRunning v) (sym c.new-begun.ensures)
    (none_running v c.args.first c.self.inside.usable start usable c.requires.some c.requires.none)

pub returns-then-self-eq0 : goal.returns-then-self-eq0
returns-then-self-eq0 c =
    let v = c.args.self.now in
    let usable = ap (λ (w : View). w.usable) c.self.view_is in
    let start : content_start v.number v.bytes ≤ v.usable =
    omega (arith, usable, ap (λ (w : View). content_start w.number w.bytes) c.self.view_is, c.self.invariant.start_is, c.self.invariant.inside) in
    subst (IsRunning v) (sym c.new-begun.ensures)
    (none_running v c.args.first c.self.inside.usable start usable c.requires.some c.requires.none)

pub add_to_run-requires-clause-before : goal.add_to_run-requires-clause-before
add_to_run-requires-clause-before c =
    let v = c.args.self.now in
    let usable = ap (λ (w : View). w.usable) c.self.view_is in
    let start : content_start v.number v.bytes ≤ v.usable =
    omega (arith, usable, ap (λ (w : View). content_start w.number w.bytes) c.self.view_is, c.self.invariant.start_is, c.self.invariant.inside) in
    let none = none_running v c.args.first c.self.inside.usable start usable c.requires.some c.requires.none in
    subst (HasRun v 0) (sym c.new-begun.ensures) (record { read = none.read; run = none.run })

pub returns : goal.returns
returns c =
    let v = c.args.self.now in
    let run = c.loop-i.begun.run in
    let all : c.loop-i.i ≡ c.self.inside.cells = omega (arith, c.loop-i-test.false, c.loop-i.auto.i-end, c.if-self-eq0.false) in
    record {
      few = omega (arith, c.self.invariant.cells_is, ap (λ (w : View). cell_count w.number w.bytes) c.self.view_is);
      read = subst (λ (n : ℕ). AddUpTo v n c.loop-i.begun.sums) all c.loop-i.invariant.read;
      run = subst (λ (n : ℕ). AreInRun v n run.from run.to) all c.loop-i.invariant.run;
    }
