-- What a search does after the run without changes.
use Rattle.std.specs.Prelude.{◌≡◌, ◌≤◌, ℕ, List, [], length, min, Result}
use Rattle.dbformat.specs.declared.Verdict.{Verdict}
use Rattle.dbsource.specs.Errors.{is_read_failed, is_write_failed}
use Rattle.dbsource.specs.Failures.{failures_after}
use Rattle.dbsource.specs.Outs.{Writes}
use Rattle.dbsource.specs.declared.error.RunError.{RunError}
use Rattle.dbsource.specs.declared.out.Out.{Ghosts as OutWords}
use Rattle.dbsource.specs.declared.source.Source.{Ghosts as SourceWords}
use Rattle.dbmend.specs.Deeds.{Deed, DoesAll, runs_in}
use Rattle.dbmend.specs.Mended.{AreSteps, Fix, Follows, ended, faults_of, mend_text}
use Rattle.dbmend.specs.declared.count.Count.{Count}

-- What is said of a search for at most `limit` changes, but for the run without changes, which answered `first`.
pub record HasSearched {S O : Type 0} (source : SourceWords S) (out : OutWords O) (limit : ℕ) (first : Result Count RunError)
    (r : Result Verdict RunError) (old new : S × O) : Type 0 where
  pub deeds : List Deed
  pub done : DoesAll source deeds old.0 new.0
  pub runs : runs_in deeds ≤ 255
  pub fixes : List Fix
  pub steps : AreSteps [] (faults_of first) fixes deeds
  pub few : length fixes ≤ min limit 16
  pub written : Writes (ended r) (out.held old.1).bytes (out.held new.1).bytes (mend_text first fixes)
  pub answer : Follows first deeds fixes r old.1 new.1
  pub reads : (source.held new.0).failures ≡ failures_after is_read_failed r (source.held old.0).failures
  pub writes : (out.held new.1).failures ≡ failures_after is_write_failed r (out.held old.1).failures
