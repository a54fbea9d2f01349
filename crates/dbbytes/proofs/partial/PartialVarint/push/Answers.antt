use Rattle.std.proofs.Common.{arith}
use Rattle.dbbytes.proofs.VarintLemmas.{sevens_more, sevens_small}
use Rattle.dbbytes.proofs.partial.PartialVarint.push.Goals as goal

pub overflow_mul-value : goal.overflow_mul-value
overflow_mul-value c =
    let s = c.args.self in
    omega (arith, sevens_small s.length s.value s.small)

pub overflow_add-value : goal.overflow_add-value
overflow_add-value c =
    let s = c.args.self in
    omega (arith, sevens_small s.length s.value s.small)

pub invariant_of-result : goal.invariant_of-result
invariant_of-result c =
    let s = c.args.self in
    record {
      few = omega arith;
      small = sevens_more s.length s.value c.from-2.result s.small (omega arith);
    }
