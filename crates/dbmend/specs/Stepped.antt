-- Changes that a search writes one after another.
use Rattle.std.specs.Prelude.{◌≡◌, ◌+◌, ◌≤◌, ℕ, List, [], ◌++◌, flat_map, length, Result, IfErr}
use Rattle.dbsource.specs.Changes.{Change}
use Rattle.dbsource.specs.Errors.{is_read_failed, is_write_failed}
use Rattle.dbsource.specs.Failures.{failures_after}
use Rattle.dbsource.specs.Outs.{Writes}
use Rattle.dbsource.specs.declared.error.RunError.{RunError}
use Rattle.dbsource.specs.declared.out.Out.{Ghosts as OutWords}
use Rattle.dbsource.specs.declared.source.Source.{Ghosts as SourceWords}
use Rattle.dbwalk.specs.Reporting.{IsReadWriteOrMemory}
use Rattle.dbmend.specs.Deeds.{Deed, DoesAll, runs_in}
use Rattle.dbmend.specs.Mended.{AreSteps, Fix, changes_of, fix_text, left_after}

-- after some changes these are all, and this is how many faults are left
pub record IsAfter (before : List Change) (faults : ℕ) (fixes : List Fix) (changes : List Change) (left : ℕ) : Type 0 where
  pub are : changes ≡ before ++ changes_of fixes
  pub still : left ≡ left_after faults fixes

module _ {S O : Type 0} (source : SourceWords S) (out : OutWords O) where
  -- What a call did: some deeds, with the runs that it left at most those that it had; and it wrote at most `most` changes after some
  -- others, each of a run, of which this is so; without one it put nothing.
  pub record HasPut {A : Type 0} (before : List Change) (faults had left most : ℕ) (r : Result A RunError)
      (Of : List Fix → Type 0) (old new : S × O) : Type 0 where
    pub deeds : List Deed
    pub done : DoesAll source deeds old.0 new.0
    pub runs : runs_in deeds + left ≤ had
    pub fixes : List Fix
    pub steps : AreSteps before faults fixes deeds
    pub few : length fixes ≤ most
    pub of : Of fixes
    pub written : Writes r (out.held old.1).bytes (out.held new.1).bytes (flat_map fix_text fixes)
    pub idle : fixes ≡ [] → new.1 ≡ old.1
    pub reads : (source.held new.0).failures ≡ failures_after is_read_failed r (source.held old.0).failures
    pub writes : (out.held new.1).failures ≡ failures_after is_write_failed r (out.held old.1).failures
    pub only : IfErr r IsReadWriteOrMemory
