use Rattle.dbscan.proofs.Common.{[], sym, ◌∙◌, subst, AreMarksFor, marks_of}
use Rattle.dbmarks.proofs.FirstMarks.{first_marks}
use Rattle.dbscan.proofs.desk.Desk.new_in.Goals as goal

pub invariant_of-result : goal.invariant_of-result
invariant_of-result g c =
    let geo = c.geometry-geometry.result in
    record {
      accepted = c.geometry-geometry.ensures.accepted;
      shape = c.in_ok-bench.ensures ∙ c.geometry-geometry.ensures.shape;
      marks = subst (AreMarksFor c.in_ok-bench.bench.geometry) (sym c.in_ok-marks.ensures)
          (subst (λ shape. AreMarksFor shape (marks_of geo [])) (sym c.in_ok-bench.ensures) (first_marks geo));
    }

pub returns-in_err-bench-clause-range : goal.returns-in_err-bench-clause-range
returns-in_err-bench-clause-range g c = rw (sym c.geometry-geometry.ensures.shape) c.geometry-geometry.ensures.range

pub returns-clause-range : goal.returns-clause-range
returns-clause-range g c = rw (sym c.geometry-geometry.ensures.shape) c.geometry-geometry.ensures.range
