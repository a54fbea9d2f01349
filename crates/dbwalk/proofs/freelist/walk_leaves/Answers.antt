use Rattle.std.proofs.Common.{◌≡◌, ◌+◌, ◌-◌, ◌<◌, inl, inr, ◌++◌, refl, sym, subst, arith}
use Rattle.dbwalk.proofs.Common.{refusal_cause, IsUnderway, fed, never, leaves_from, KeepsMarks, cases_Bool, keeps_same}
use Rattle.dbwalk.proofs.FreeTrunks.{leaf_of, leaves_more, next_of_left, leaf_entered}
use Rattle.dbwalk.proofs.Underway.Underways.{stop_now}
use Rattle.dbmarks.proofs.Readings.{keeps_then, keeps_put}
use Rattle.dbwalk.proofs.Reporting.Sinks.{err_is, moves_then, walks_after, walks_as, walks_ok}
use Rattle.dbwalk.proofs.freelist.walk_leaves.Goals as goal

pub returns-clause-done : goal.returns-clause-done
returns-clause-done g c = λ file whole before now d tail tree p h.
    let k = c.loop-index.invariant.left file whole before now d tail tree p h in
    let z : c.args.count - c.loop-index.index ≡ 0 = omega arith in (
      k.0,
      rw z at k.1,
    )

pub returns-in_err-enter-clause-done : goal.returns-in_err-enter-clause-done
returns-in_err-enter-clause-done g c = λ file whole before now d tail tree p h.
    let k = c.loop-index.invariant.left file whole before now d tail tree p h in
    let n : 0 < c.args.count - c.loop-index.index = omega arith in
    let l = rw (leaves_more d c.args.bytes.now c.loop-index.index (c.args.count - c.loop-index.index) n) at k.1 in
    let e = leaf_of d c.args.bytes.now c.loop-index.index in
    rw (err_is c.from_residual.ensures.1) (record {
      at = tt;
      handed = stop_now (fed g.K.Sink.takes) file whole before k.0 (c.loop-index.marks, tree) (c.loop-index.marks, tree) c.loop-index.sink c.enter.new.sink
          never c.in_err-enter.field-0.0 _ l (inr c.in_err-enter.ensures.after_error.0)
          (c.in_err-enter.ensures.entered file k.0.visits e (refusal_cause file k.0.visits e)
          (record { page = sym c.u32_at.ensures; mark = refl; from = p; item = refl; deep = refl }) (next_of_left l) l.at.0 (λ why p. sym p)).1;
    })

pub returns-in_err-enter-clause-writes : goal.returns-in_err-enter-clause-writes
returns-in_err-enter-clause-writes g c =
    walks_as (err_is c.from_residual.ensures.1) (walks_after c.in_err-enter.ensures.writes c.loop-index.invariant.writes)

pub returns-clause-writes : goal.returns-clause-writes
returns-clause-writes g c = walks_ok c.loop-index.invariant.writes

pub loop-index-preserved : goal.loop-index-preserved
loop-index-preserved g c = record {
  keeps = keeps_then c.args.marks.now c.loop-index.marks c.enter.new.marks c.loop-index.invariant.keeps
      (elim (cases_Bool c.in_ok-enter.field-0) [
        | inl e ↦ (let k = c.in_ok-enter.ensures.marked e in
            subst (λ m. KeepsMarks c.loop-index.marks m) (sym k.1) (keeps_put c.loop-index.marks c.u32_at.result _ k.0 refl))
        | inr e ↦ subst (λ m. KeepsMarks c.loop-index.marks m) (sym (c.in_ok-enter.ensures.unmarked e)) (keeps_same c.loop-index.marks)
      ]);
  writes = moves_then c.loop-index.invariant.writes c.in_ok-enter.ensures.writes.moves;
  left = λ file whole before now d tail tree p h.
      let k = c.loop-index.invariant.left file whole before now d tail tree p h in
      let n : 0 < c.args.count - c.loop-index.index = omega arith in
      let l = rw (leaves_more d c.args.bytes.now c.loop-index.index (c.args.count - c.loop-index.index) n) at k.1 in
      let e = leaf_of d c.args.bytes.now c.loop-index.index in
      let m : c.args.count - c.loop-index.index - 1 ≡ c.args.count - (c.loop-index.index + 1) = omega arith in
      let r = leaf_entered l c.in_ok-enter.field-0 refl (c.in_ok-enter.ensures.entered file k.0.visits e (refusal_cause file k.0.visits e)
      (record { page = sym c.u32_at.ensures; mark = refl; from = p; item = refl; deep = refl }) (next_of_left l) l.at.0 (λ why p. sym p)) in (
        r.0,
        subst (λ n. IsUnderway (fed g.K.Sink.takes) file whole before r.0 (leaves_from d c.args.bytes.now (c.loop-index.index + 1) n ++ tail)
            (c.enter.new.marks, tree) c.enter.new.sink) m r.1,
      );
}
