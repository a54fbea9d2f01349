-- What is done to a source: runs over it with some changes, and looks at pieces of it.
use Rattle.std.specs.Prelude.{◌≡◌, ◌+◌, ◌≤◌, ◌⊎◌, ℕ, List, [], ◌∷◌, sum_by, Result, IfErr, IfOk, IfSome}
use Rattle.dbformat.specs.File.{geometry}
use Rattle.dbformat.specs.Log.{IsRunLog, IsSomeRunLog}
use Rattle.dbsource.specs.Answers.{Answer, FitsAnswer, asked, failed, given}
use Rattle.dbsource.specs.Changes.{Change, patched}
use Rattle.dbsource.specs.Errors.{is_read_failed}
use Rattle.dbsource.specs.Failures.{failures_after, one_more}
use Rattle.dbsource.specs.Snapshots.{HasRead}
use Rattle.dbsource.specs.declared.error.RunError.{RunError}
use Rattle.dbsource.specs.declared.error.RunError.TheVariants.{OutOfMemory, ReadFailed}
use Rattle.dbsource.specs.declared.source.Source.{Ghosts as SourceWords}
use Rattle.dbreport.specs.Runs.{AsksHeaderAlone}
use Rattle.dbmend.specs.Counts.{IsCountOf}
use Rattle.dbmend.specs.declared.count.Count.{Count}

-- A run with these changes, and what it answered; or a look: one read, and what the source answered.
pub data Deed : Type 0 where
  tried : List Change → Result Count RunError → Deed
  looked : Answer → Deed

-- how many runs a deed is
abbrev pub runs_of : Deed → ℕ
runs_of (tried changes r) = 1
runs_of (looked a) = 0

abbrev pub runs_in : List Deed → ℕ
runs_in deeds = sum_by runs_of deeds

-- a count of failures after the answer to a read
abbrev pub failures_by : Answer → ℕ → ℕ
failures_by (given offset bytes) count = count
failures_by (failed r) count = one_more count

-- an error of reading, or of memory
abbrev pub IsReadOrMemory : RunError → Type 0
IsReadOrMemory e = (e ≡ ReadFailed) ⊎ (e ≡ OutOfMemory)

module _ {S : Type 0} (source : SourceWords S) where
  -- A run, whatever the source answered: there is a file that agrees with every byte that the run used, and of each such file the answer is so.
  pub record HasCounted (r : Result Count RunError) (old new : S) : Type 0 where
    pub read : HasRead source.step source.lengths IsSomeRunLog (λ file ranges. IsRunLog (geometry file) ranges
        × IsCountOf file r) (source.held old) (source.held new)
    pub reads : (source.held new).failures ≡ failures_after is_read_failed r (source.held old).failures
    pub asked : AsksHeaderAlone source.step r (source.held old).trail (source.held new).trail

  -- A run with changes, whatever the source answered: there is a file, of the length that it answered, that agrees with every byte that
  -- the run used. Of each such file the answer is so of the file with the changes, and what was asked for is what a run over that asks
  -- for: each page once. The source failed, once, exactly at a failed read. At a refusal the header alone was asked for.
  pub record HasTried (changes : List Change) (r : Result Count RunError) (old new : S) : Type 0 where
    pub read : HasRead source.step source.lengths IsSomeRunLog
        (λ file ranges. IsRunLog (geometry (patched changes file)) ranges × IsCountOf (patched changes file) r) (source.held old) (source.held new)
    pub reads : (source.held new).failures ≡ failures_after is_read_failed r (source.held old).failures
    pub asked : AsksHeaderAlone source.step r (source.held old).trail (source.held new).trail

  -- A look: one read, of 65536 bytes at most, which is the size of the largest page. Told bytes agree with its answer.
  pub record HasLooked (a : Answer) (old new : S) : Type 0 where
    pub told : (source.held new).bytes ≡ (source.held old).bytes
    pub moved : source.step (source.held old).trail a (source.held new).trail
    pub fits : IfSome (source.held old).bytes (λ file. FitsAnswer file a)
    pub reads : (source.held new).failures ≡ failures_by a (source.held old).failures
    pub few : (asked a).len ≤ 65536

  abbrev pub Does : Deed → S → S → Type 0
  Does (tried changes r) old new = HasTried changes r old new
  Does (looked a) old new = HasLooked a old new

  -- these deeds, one after another, lead the source from old to new
  abbrev pub DoesAll : List Deed → S → S → Type 0
  DoesAll [] old new = new ≡ old
  DoesAll (d ∷ ds) old new = (mid : S) × Does d old mid × DoesAll ds mid new

  -- What a call did: some deeds, of which this is so, with its answer. With the runs that it left, its runs are at most those that it had.
  -- The source failed, once, exactly at a failed read; and no other error is answered but that memory was refused.
  pub record HasDone {A : Type 0} (r : Result A RunError) (had left : ℕ) (Of : A → List Deed → Type 0) (old new : S) : Type 0 where
    pub deeds : List Deed
    pub done : DoesAll deeds old new
    pub runs : runs_in deeds + left ≤ had
    pub of : IfOk r (λ a. Of a deeds)
    pub reads : (source.held new).failures ≡ failures_after is_read_failed r (source.held old).failures
    pub only : IfErr r IsReadOrMemory
