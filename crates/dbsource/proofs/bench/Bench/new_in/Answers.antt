use Rattle.std.proofs.Common.{◌≡◌, ◌+◌, vec_len, refl, ap, ◌∙◌, arith}
use Rattle.dbsource.proofs.Benches.{whole_more}
use Rattle.dbsource.proofs.bench.Bench.new_in.Goals as goal

pub loop-i-preserved : goal.loop-i-preserved
loop-i-preserved g c =
    let len = c.in_ok-filled.ensures in (
      c.push.ensures.len ∙ ap (λ n. n + 1) c.loop-i.invariant.0,
      rw c.push.ensures.items (whole_more (λ v. vec_len v ≡ c.args.geometry.page_size) c.loop-i.levels.items _ c.loop-i.invariant.1 len.len),
    )

pub loop-i-init : goal.loop-i-init
loop-i-init g c = rw c.new_in-levels.ensures (refl, λ k d h. omega (arith, h))

pub invariant_of-result : goal.invariant_of-result
invariant_of-result g c = record {
  range = c.requires;
  count = omega (arith, c.loop-i.invariant.0, c.loop-i-test.false, c.loop-i.auto._i-end);
  levels = c.loop-i.invariant.1;
  chain = c.in_ok-chain.ensures.len;
  uses = c.in_ok-uses.ensures.len;
}
