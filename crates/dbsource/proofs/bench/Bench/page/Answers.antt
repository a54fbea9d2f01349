use Rattle.std.proofs.Common.{length, nat_lt, ap, ◌∙◌, sym, []}
use Rattle.std.proofs.lemmas.Option.{get_or_from_slice_get}
use Rattle.dbsource.specs.Bench.{pages}
use Rattle.dbsource.proofs.Benches.{level_is}
use Rattle.dbsource.proofs.bench.Bench.page.Goals as goal

pub returns-in-Some : goal.returns-in-Some
returns-in-Some g c =
    let h = c.in-Some.ensures.lookup in
    let at = level_is c.self.inside c.deref.result.now c.args.level c.in-Some.buffer.now c.self.invariant c.deref.ensures.0 h.3.0 h.1 in
    let small = sym (h.0 ∙ ap (nat_lt c.args.level) (ap length c.deref.ensures.0 ∙ c.self.invariant.count)) in
    record {
      bytes = rw (← c.self.view_is, small) (c.as_slice.ensures.value ∙ sym (get_or_from_slice_get (pages c.self.inside).levels c.args.level _ [] at.0));
      len = rw (← c.self.view_is) (ap length c.as_slice.ensures.value ∙ at.1);
    }

pub returns-in-None : goal.returns-in-None
returns-in-None g c =
    let small = sym (c.in-None.ensures.lookup.0 ∙ ap (nat_lt c.args.level) (ap length c.deref.ensures.0 ∙ c.self.invariant.count)) in
    record {
      bytes = rw (← c.self.view_is, small) c.as_slice-in-None.ensures.value;
      len = rw (← c.self.view_is) (c.as_slice-in-None.ensures.len ∙ c.self.invariant.chain);
    }
