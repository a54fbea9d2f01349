use Rattle.dbscan.proofs.Common.{ap, ◌∙◌, fresh_marks, DeskView}
use Rattle.dbscan.proofs.desk.Desk.renew.Goals as goal

pub invariant_of-self : goal.invariant_of-self
invariant_of-self g c = record {
  accepted = c.self.invariant.accepted;
  shape = c.self.invariant.shape;
  marks = fresh_marks c.self.inside.bench.geometry c.clear.new.self (c.clear.ensures ∙ c.self.invariant.marks);
}

pub returns-clause-refusals : goal.returns-clause-refusals
returns-clause-refusals g c = c.clear-2.ensures.refusals ∙ ap (λ (d : DeskView). d.roots.refusals) c.self.view_is
