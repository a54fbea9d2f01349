-- What holds of an Out where there was no run: the answer is an error other than a failed write.
use Rattle.dbreport.proofs.Common.{◌≡◌, ℕ, false, List, Err, refl, ap, sym, subst, if◌then◌else◌, Verdict, is_write_failed, CountsAfter, failures_after}
use Rattle.dbreport.proofs.Common.{RunError}
use Rattle.dbsource.specs.Failures.{HasOneMore, MovesIf, one_more}

-- it has as many failures
pub no_failure : (e : RunError) (n : ℕ) → is_write_failed e ≡ false → n ≡ failures_after {A = Verdict} is_write_failed (Err e) n
no_failure e n h = ap (λ b. if b then one_more n else n) (sym h)

pub no_failures : (e : RunError) (counts : List ℕ) → is_write_failed e ≡ false → CountsAfter {A = Verdict} is_write_failed (Err e) counts counts
no_failures e counts h = subst (λ b. MovesIf b HasOneMore counts counts) (sym h) refl
