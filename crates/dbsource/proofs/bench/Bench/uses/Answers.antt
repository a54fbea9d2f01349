use Rattle.std.proofs.Common.{refl, ap, ◌∙◌, length}
use Rattle.std.proofs.Math.Nat.{le_of_lt}
use Rattle.dbsource.proofs.Benches.{level_is}
use Rattle.dbsource.proofs.bench.Bench.uses.Goals as goal

pub bounds-deref-level : goal.bounds-deref-level
bounds-deref-level g c = rw (c.deref.ensures.0, c.self.invariant.count) c.requires

pub offset_bounds-deref-level : goal.offset_bounds-deref-level
offset_bounds-deref-level g c = rw (c.deref.ensures.0, c.self.invariant.count) (le_of_lt c.requires)

pub invariant_of-self-lent : goal.invariant_of-self-lent
invariant_of-self-lent g c = λ w. let i = c.self.invariant in record { range = i.range; count = i.count; levels = i.levels; chain = i.chain; uses = i.uses }

pub returns : goal.returns
returns g c =
    let at = level_is c.self.inside c.deref.result.now c.args.level c.index-deref-level.result c.self.invariant c.deref.ensures.0
    (rw (c.deref.ensures.0, c.self.invariant.count) c.requires) c.index-deref-level.is in (
      (refl, λ w. rw (← c.self.view_is, c.self.invariant.uses) refl),
      record {
        writes_back = tt;
        page = rw (← c.self.view_is, c.as_slice.ensures.value) at.0;
        bytes = rw (← c.self.view_is) c.as_mut_slice.ensures.value;
        len = rw (← c.self.view_is) (ap length c.as_slice.ensures.value ∙ at.1, c.as_mut_slice.ensures.len ∙ c.self.invariant.uses);
      },
    )
