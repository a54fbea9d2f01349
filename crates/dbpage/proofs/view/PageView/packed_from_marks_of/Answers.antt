use Rattle.std.proofs.Common.{◌≡◌, ℕ, ◌<◌, subst, ap, arith}
use Rattle.dbformat.specs.Head.{View, cell_count, content_start}
use Rattle.dbformat.specs.Cell.{count}
use Rattle.dbpage.specs.Marking.{AreMarked, cells_upto}
use Rattle.dbpage.specs.Packed.{AddUpTo}
use Rattle.dbpage.proofs.Items.{cell_marked, cell_overlaps}
use Rattle.dbpage.proofs.PackedLemmas.{unpacked_at_overlap}
use Rattle.dbpage.proofs.view.PageView.packed_from_marks_of.Goals as goal

pub returns-then-not-claim : goal.returns-then-not-claim
returns-then-not-claim g c =
    let v = c.args.self.now in
    let i = c.loop-i.i in
    let cell = c.in_ok-offset in
    let within : i < count v = omega (arith, c.loop-i-test.true, c.self.invariant.cells_is, ap (λ (w : View). cell_count w.number w.bytes) c.self.view_is) in
    unpacked_at_overlap v i (cell_overlaps v i c.loop-i.table c.loop-i.held c.loop-i.invariant.marked cell.offset cell.len within cell.ensures.0
    c.if-not-claim.ensures.marked)

pub loop-i-preserved : goal.loop-i-preserved
loop-i-preserved g c =
    let cell = c.in_ok-offset in
    record {
      read = cell.ensures.1;
      marked = cell_marked c.args.self.now c.loop-i.i c.loop-i.table c.loop-i.held c.loop-i.invariant.marked cell.offset cell.len c.claim.new.table
          cell.ensures.0 c.if-not-claim.ensures.marked;
    }

pub mark_freeblocks-requires-clause-cells : goal.mark_freeblocks-requires-clause-cells
mark_freeblocks-requires-clause-cells g c =
    let v = c.args.self.now in
    let all : c.loop-i.i ≡ count v = omega (
      arith,
      c.loop-i-test.false,
      c.loop-i.auto.i-end,
      c.in_ok-marked.ensures.few,
      c.self.invariant.cells_is,
      ap (λ (w : View). cell_count w.number w.bytes) c.self.view_is,
    ) in
    subst (λ (n : ℕ). AreMarked (cells_upto v n) (content_start v.number v.bytes) v.usable c.loop-i.table c.loop-i.held) all c.loop-i.invariant.marked

pub returns-in-Err : goal.returns-in-Err
returns-in-Err g c = unpacked_at_overlap c.args.self.now c.in-Err.field-0.item c.in-Err.ensures.marked.1

pub packed_from-requires-clause-read : goal.packed_from-requires-clause-read
packed_from-requires-clause-read g c =
    let v = c.args.self.now in
    let all : c.loop-i.i ≡ count v = omega (
      arith,
      c.loop-i-test.false,
      c.loop-i.auto.i-end,
      c.in_ok-marked.ensures.few,
      c.self.invariant.cells_is,
      ap (λ (w : View). cell_count w.number w.bytes) c.self.view_is,
    ) in
    subst (λ (n : ℕ). AddUpTo v n c.loop-i.sums) all c.loop-i.invariant.read
