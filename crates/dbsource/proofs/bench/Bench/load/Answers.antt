use Rattle.std.proofs.Common.{◌≡◌, ◌<◌, length, arith, ap, ◌∙◌, refl}
use Rattle.dbsource.proofs.Benches.{level_set, whole_after}
use Rattle.dbsource.proofs.bench.Bench.load.Goals as goal
use Rattle.dbsource.proofs.bench.Bench.load.Goals.{In-Some}

-- the level's buffer has a page's size
size_of : (g : _) (c : In-Some g) → c.in-Some.buffer.now.len ≡ c.self.inside.geometry.page_size
size_of g c = ap (λ v. v.len) c.in-Some.ensures.value ∙ c.self.invariant.levels c.args.level c.in-Some.buffer.now (c.in-Some.ensures.variant.0 refl)

pub invariant_of-self : goal.invariant_of-self
invariant_of-self g c =
    whole_after c.self.inside c.args.level c.in-Some.buffer.now c.load_page.new.buffer c.self.invariant (size_of g (goal.at.invariant_of-self g c).In-Some)

pub returns-in-Some-clause-level : goal.returns-in-Some-clause-level
returns-in-Some-clause-level g c =
    let same = c.as_mut_slice.ensures.len ∙ size_of g (goal.at.returns-in-Some-clause-level g c).In-Some in
    let len = c.load_page.auto.buffer ∙ same in
    let level : c.args.level < length c.self.inside.levels.items = c.in-Some.ensures.variant.0 refl in
    let below : c.args.level < 20 = omega (arith, c.self.invariant.count) in
    record {
      bytes = c.load_page.new.buffer;
      size = rw (← c.self.view_is) len;
      only = rw (← c.self.view_is)
          (level_set c.self.inside.geometry c.self.inside.levels.items c.self.inside.chain.items c.self.inside.uses.items c.args.level c.in-Some.buffer.now
          c.load_page.new.buffer below (c.load_page.auto.buffer ∙ ap length c.as_mut_slice.ensures.value));
      holds = rw (← c.self.view_is) (rw same at c.load_page.ensures.trail, rw same at c.load_page.ensures.bytes);
    }

pub invariant_of-self-in-None : goal.invariant_of-self-in-None
invariant_of-self-in-None g c = let i = c.self.invariant in record { range = i.range; count = i.count; levels = i.levels; chain = i.chain; uses = i.uses }

pub returns-in-Some-clause-count : goal.returns-in-Some-clause-count
returns-in-Some-clause-count g c = c.load_page.ensures.count
