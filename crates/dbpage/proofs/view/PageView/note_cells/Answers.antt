use Rattle.std.proofs.Common.{◌≡◌, ℕ, ◌+◌, ◌<◌, ◌≤◌, subst, ap, arith}
use Rattle.dbformat.specs.Head.{View, cell_count, content_start}
use Rattle.dbformat.specs.Cell.{count}
use Rattle.dbpage.specs.Marking.{cells_upto}
use Rattle.dbpage.specs.Notes.{AreNotedIn, HasNear, Notes, end_at}
use Rattle.dbpage.specs.Packed.{AddUpTo}
use Rattle.dbpage.proofs.NotedLeaf.{Holds-four, cell_near, cell_noted}
use Rattle.dbpage.proofs.view.PageView.note_cells.Goals as goal

pub loop-i-init : goal.loop-i-init
loop-i-init c =
    let noted = c.in_ok-noted.ensures in
    record { read = noted.read; noted = noted.noted; few = noted.small }

pub returns-then-not-note : goal.returns-then-not-note
returns-then-not-note c =
    let v = c.args.self.now in
    let i = c.loop-i.i in
    let cell = c.in_ok-offset in
    let four = Holds-four v i cell.offset cell.len cell.ensures.0 (cell.ensures.1.readable i (omega arith)) in
    let within : i < count v = omega (arith, c.loop-i-test.true, c.self.invariant.cells_is, ap (λ (w : View). cell_count w.number w.bytes) c.self.view_is) in
    let start : c.self.inside.start ≡ content_start v.number v.bytes =
    omega (arith, c.self.invariant.start_is, ap (λ (w : View). content_start w.number w.bytes) c.self.view_is) in
    let before : cell.offset ≤ v.usable = omega (arith, cell.ensures.0.ends) in
    cell_near v i c.loop-i.table c.loop-i.held c.loop-i.invariant.noted cell.offset cell.len cell.ensures.0 four within
    (subst (λ (n : ℕ). HasNear (end_at c.loop-i.table n v.usable) cell.offset) start (c.if-not-note.ensures v.usable before))

pub overflow_add-held : goal.overflow_add-held
overflow_add-held c =
    let v = c.args.self.now in
    let within : c.loop-i.i < count v = omega (
      arith,
      c.loop-i-test.true,
      c.self.invariant.cells_is,
      ap (λ (w : View). cell_count w.number w.bytes) c.self.view_is,
    ) in
    omega (
      arith,
      c.loop-i.invariant.few,
      within,
      c.self.invariant.cells_is,
      ap (λ (w : View). cell_count w.number w.bytes) c.self.view_is,
      c.self.invariant.room,
      c.self.invariant.inside,
      ap (λ (w : View). w.usable) c.self.view_is,
      c.in_ok-offset.ensures.0.ends,
      c.requires.short,
    )

pub loop-i-preserved : goal.loop-i-preserved
loop-i-preserved c =
    let v = c.args.self.now in
    let i = c.loop-i.i in
    let cell = c.in_ok-offset in
    let four = Holds-four v i cell.offset cell.len cell.ensures.0 (cell.ensures.1.readable i (omega arith)) in
    let start : c.self.inside.start ≡ content_start v.number v.bytes =
    omega (arith, c.self.invariant.start_is, ap (λ (w : View). content_start w.number w.bytes) c.self.view_is) in
    let before : cell.offset ≤ v.usable = omega (arith, cell.ensures.0.ends) in
    record {
      read = cell.ensures.1;
      noted = cell_noted v i c.loop-i.table c.loop-i.held c.loop-i.invariant.noted cell.offset cell.len cell.ensures.0 four c.note.new.table
          (subst (λ (n : ℕ). Notes (end_at c.loop-i.table n v.usable) (end_at c.note.new.table n v.usable) cell.offset (cell.offset + cell.len)) start
          (c.if-not-note.ensures v.usable before));
      few = omega (arith, c.loop-i.invariant.few, cell.ensures.0.ends, c.requires.short);
    }

pub returns : goal.returns
returns c =
    let v = c.args.self.now in
    let cells = ap (λ (w : View). cell_count w.number w.bytes) c.self.view_is in
    let all : c.loop-i.i ≡ count v = omega (arith, c.loop-i-test.false, c.loop-i.auto.i-end, c.in_ok-noted.ensures.few, c.self.invariant.cells_is, cells) in (
      subst (λ (n : ℕ). AddUpTo v n c.loop-i.sums) all c.loop-i.invariant.read,
      subst (λ (n : ℕ). AreNotedIn v (cells_upto v n) c.loop-i.table c.loop-i.held) all c.loop-i.invariant.noted,
      omega (
        arith,
        c.loop-i.invariant.few,
        all,
        c.self.invariant.cells_is,
        cells,
        c.self.invariant.room,
        c.self.invariant.inside,
        ap (λ (w : View). w.usable) c.self.view_is,
        c.requires.short,
      ),
    )
