use Rattle.std.proofs.Common.{[], arith, refl}
use Rattle.std.proofs.lemmas.Bool.Decides.{nat_tests}
use Rattle.std.proofs.lemmas.Result.{err_from_is_err_and}
use Rattle.dblog.proofs.ReadSteps.{reads_failed, reads_given, reads_none}
use Rattle.dblog.proofs.journal_reading.read_within.Goals as goal

pub returns-then-len-at : goal.returns-then-len-at
returns-then-len-at g c = record {
  seen = [];
  reads = reads_none c.args.at _ _ refl refl refl;
  within = c.requires.within;
  short = omega (arith, c.requires.within);
  whole = (grind (arith, nat_tests), refl);
  unmeasured = tt;
}

pub returns-in_err-read_at : goal.returns-in_err-read_at
returns-in_err-read_at g c =
    let p = err_from_is_err_and c.from_residual.result c.from_residual.ensures.1 in
    rw p.1 (rw p.2 (record {
      seen = [];
      reads = reads_failed c.args.at c.read_at.new.buf _ _ (omega (arith, c.read_at.auto.buf, c.requires.short))
          c.in_err-read_at.ensures.told c.in_err-read_at.ensures.trail c.in_err-read_at.ensures.count;
      within = omega (arith, c.read_at.auto.buf, c.if-len-at.false, c.requires.within);
      short = omega (arith, c.requires.within);
      whole = tt;
      unmeasured = λ z. absurd cc;
    }))

pub returns : goal.returns
returns g c = record {
  seen = c.read_at.new.buf;
  reads = reads_given c.args.at c.read_at.new.buf c.read_at.new.buf _ _ refl (omega (arith, c.read_at.auto.buf, c.requires.short))
      c.in_ok-read_at.ensures.told c.in_ok-read_at.ensures.trail c.in_ok-read_at.ensures.count c.in_ok-read_at.ensures.bytes;
  within = omega (arith, c.read_at.auto.buf, c.if-len-at.false, c.requires.within);
  short = omega (arith, c.read_at.auto.buf, c.if-len-at.false, c.requires.within);
  whole = (grind (arith, nat_tests, c.read_at.auto.buf, c.if-len-at.false, c.requires.within), refl);
  unmeasured = tt;
}
