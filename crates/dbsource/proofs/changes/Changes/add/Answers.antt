use Rattle.std.proofs.Common.{rules, sym, ◌∙◌, ap}
use Rattle.std.specs.List.{list_any}
use Rattle.dbsource.specs.Changes.{overlaps}
use Rattle.dbsource.proofs.Changed.{changes_one_more}
use Rattle.dbsource.proofs.changes.Changes.add.Goals as goal

pub invariant_of-self : goal.invariant_of-self
invariant_of-self c = rw c.push.ensures.items (changes_one_more c.self.inside.changes.items c.args.change c.self.invariant c.overlaps_any.ensures.right
    (search rules) (ap (list_any (overlaps c.args.change)) (sym c.as_slice.ensures.value) ∙ sym c.overlaps_any.ensures.value ∙ c.if-overlaps_any.false))
