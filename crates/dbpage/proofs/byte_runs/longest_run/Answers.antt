use Rattle.std.proofs.Common.{◌≡◌, ◌+◌, ◌-◌, ◌<◌, ℕ, suc, false, true, length, drop, sym, ap, ◌∙◌, arith}
use Rattle.std.specs.Prelude.{nat_le}
use Rattle.std.proofs.Math.Seq.{drop-length}
use Rattle.std.proofs.lemmas.Bool.Decides.{nat_tests}
use Rattle.std.proofs.lemmas.List.{length-drop}
use Rattle.dbformat.specs.Runs.{longest_run}
use Rattle.dbpage.proofs.LongRuns.{no_run, run_at, run_short, longest_at, run_here}
use Rattle.dbpage.proofs.byte_runs.longest_run.Goals as goal

pub loop-i-init : goal.loop-i-init
loop-i-init c =
    let xs = c.args.bytes.now in
    let none = sym (drop-length xs) in
    record {
      within = omega arith;
      longest_is = no_run (c.args.at + length xs) ∙ ap (longest_run (c.args.at + length xs)) none;
      run_is = ap (run_at (c.args.at + length xs)) none;
    }

pub run_before-run-requires : goal.run_before-run-requires
run_before-run-requires c =
    let xs = c.args.bytes.now in
    let short = run_short (c.args.at + c.loop-i.i) (drop c.loop-i.i xs) in
    let len : c.loop-i.run.len ≡ (run_at (c.args.at + c.loop-i.i) (drop c.loop-i.i xs)).len = ap (λ r. r.len) c.loop-i.invariant.run_is in
    omega (arith, short, len, length-drop c.loop-i.i xs)

pub loop-i-preserved-then-run-longest : goal.loop-i-preserved-then-run-longest
loop-i-preserved-then-run-longest c =
    let xs = c.args.bytes.now in
    let j : ℕ = c.loop-i.i - 1 in
    let more : c.loop-i.i ≡ suc j = omega arith in
    let low : j < length xs = omega arith in
    let run = run_here xs c.args.at j c.loop-i.i more low c.loop-i.run c.run_before-run.result c.loop-i.invariant.run_is c.run_before-run.ensures in
    let test : nat_le c.loop-i.longest.len c.run_before-run.result.len ≡ true = grind (arith, nat_tests, c.if-run-longest.true) in
    record {
      within = omega arith;
      longest_is = longest_at xs c.args.at j c.loop-i.i more low c.loop-i.longest c.run_before-run.result c.loop-i.invariant.longest_is run true test;
      run_is = run;
    }

pub loop-i-preserved : goal.loop-i-preserved
loop-i-preserved c =
    let xs = c.args.bytes.now in
    let j : ℕ = c.loop-i.i - 1 in
    let more : c.loop-i.i ≡ suc j = omega arith in
    let low : j < length xs = omega arith in
    let run = run_here xs c.args.at j c.loop-i.i more low c.loop-i.run c.run_before-run.result c.loop-i.invariant.run_is c.run_before-run.ensures in
    let test : nat_le c.loop-i.longest.len c.run_before-run.result.len ≡ false = grind (arith, nat_tests, c.if-run-longest.false) in
    record {
      within = omega arith;
      longest_is = longest_at xs c.args.at j c.loop-i.i more low c.loop-i.longest c.run_before-run.result c.loop-i.invariant.longest_is run false test;
      run_is = run;
    }
