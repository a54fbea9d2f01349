use Rattle.std.proofs.Common.{ℕ, List, ◌+◌, ◌<◌, sym, subst, ap, arith}
use Rattle.dbformat.specs.Head.{View, cell_count, content_start}
use Rattle.dbformat.specs.Cell.{count}
use Rattle.dbpage.specs.Marking.{AreMarked, cells_upto}
use Rattle.dbpage.proofs.Items.{AreMarked_none, cell_marked, cell_passed, cell_overlaps}
use Rattle.dbpage.proofs.held_bytes.mark_cells_of.Goals as goal
use Rattle.dbpage.proofs.held_bytes.mark_cells_of.Goals.{in-Some+else-not-claim, in_default}

pub loop-i-init : goal.loop-i-init
loop-i-init g c = record { marked = AreMarked_none c.args.view.now c.args.table.now c.requires.free; counted = omega arith }

pub returns-then-not-claim : goal.returns-then-not-claim
returns-then-not-claim g c =
    let v = c.args.view.now in
    let now = c.loop-i.invariant in
    let within : c.loop-i.i < count v = omega (
      arith,
      c.loop-i-test.true,
      c.view.invariant.cells_is,
      ap (λ (w : View). cell_count w.number w.bytes) c.view.view_is,
    ) in
    record {
      marked = (
        omega (arith, c.if-not-claim.ensures.counted, now.counted, now.marked.counted),
        cell_overlaps v c.loop-i.i c.loop-i.table c.loop-i.held now.marked c.in-Some.offset c.in-Some.len within c.in-Some.ensures
            c.if-not-claim.ensures.marked,
      );
    }

pub loop-i-preserved : goal.loop-i-preserved
loop-i-preserved g c =
    let v = c.args.view.now in
    let now = c.loop-i.invariant in
    let to = c.match-held_by_cell in
    let marked = λ (table : List ℕ) (held : ℕ). AreMarked (cells_upto v (c.loop-i.i + 1)) (content_start v.number v.bytes) v.usable table held in
    elim to.branch [
      | in-Some+else-not-claim w ↦
          let more = cell_marked v c.loop-i.i c.loop-i.table c.loop-i.held now.marked w.in-Some.offset w.in-Some.len w.claim.new.table w.in-Some.ensures
          w.if-not-claim.ensures.marked in
          record {
            marked = subst (λ (t : List ℕ). marked t to.held) (sym w.table-is) (subst (marked w.claim.new.table) (sym w.held-is) more);
            counted = omega (arith, w.mark_count-is, w.held-is, w.if-not-claim.ensures.counted, now.counted);
          }
      | in_default w ↦
          let more = cell_passed v c.loop-i.i c.loop-i.table c.loop-i.held now.marked w.in_default.ensures in
          record {
            marked = subst (λ (t : List ℕ). marked t to.held) (sym w.table-is) (subst (marked c.loop-i.table) (sym w.held-is) more);
            counted = omega (arith, w.mark_count-is, w.held-is, now.counted);
          }
    ]
