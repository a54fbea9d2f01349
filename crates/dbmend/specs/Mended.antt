-- What a search for changes leaves.
use Rattle.std.specs.Prelude.{◌≡◌, ◌≤◌, ◌-◌, ◌^◌, ◌⊎◌, ℕ, List, [], ◌∷◌, ◌++◌, flat_map, length, map, min, Option, None, Some, Result, Ok, Err, IfSome}
use Rattle.dbformat.specs.Log.{IsSomeRunLog}
use Rattle.dbformat.specs.Report.{verdict_of}
use Rattle.dbformat.specs.Sound.{Sound}
use Rattle.dbformat.specs.declared.Verdict.{Verdict}
use Rattle.dbsource.specs.Changes.{Change, patched}
use Rattle.dbsource.specs.Errors.{is_read_failed, is_write_failed}
use Rattle.dbsource.specs.Failures.{failures_after}
use Rattle.dbsource.specs.Outs.{Writes}
use Rattle.dbsource.specs.Snapshots.{HasRead}
use Rattle.dbsource.specs.declared.error.RunError.{RunError}
use Rattle.dbsource.specs.declared.error.RunError.TheVariants.{Refused}
use Rattle.dbsource.specs.declared.out.Out.{Ghosts as OutWords}
use Rattle.dbsource.specs.declared.source.Source.{Ghosts as SourceWords}
use Rattle.dbwalk.specs.Reporting.{IsReadWriteOrMemory}
use Rattle.dbmend.specs.Deeds.{Deed, DoesAll, runs_in, tried}
use Rattle.dbmend.specs.Texts.{change_line, end_text, first_text, page_line, still_text}
use Rattle.dbmend.specs.Trials.{IsStep}
use Rattle.dbmend.specs.declared.count.Count.{Count}

-- A change that is written: its bytes, those that were there, and what the run with it and those before it found.
pub record Fix : Type 0 where
  pub change : Change
  pub was : List ℕ
  pub count : Count

-- the changes of some
abbrev pub changes_of : List Fix → List Change
changes_of fixes = map (λ (f : Fix). f.change) fixes

-- how many faults are left after some
abbrev pub left_after : ℕ → List Fix → ℕ
left_after faults [] = faults
left_after faults (f ∷ fixes) = left_after f.count.faults fixes

-- Each was found after the changes before it, and leaves fewer faults than there were.
abbrev pub AreSteps : List Change → ℕ → List Fix → List Deed → Type 0
AreSteps before faults [] deeds = Unit {0}
AreSteps before faults (f ∷ fixes) deeds =
    IsStep before faults f.change f.was f.count deeds × AreSteps (before ++ f.change ∷ []) f.count.faults fixes deeds

-- what is written of one: its line, its page, and how many faults are left, if there are any
abbrev pub fix_text : Fix → List ℕ
fix_text f = change_line f.change.offset f.change.bytes f.was ++ (page_line f.count.page_size f.change.offset ++ still_text f.count.faults)

-- how many faults there are before any: a file that is refused has as many as are ever counted
abbrev pub faults_of : Result Count RunError → ℕ
faults_of (Ok c) = c.faults
faults_of (Err e) = 2 ^ 64 - 1

-- and of all: how many faults there are, each change, and how many faults are left. Of a file that is refused: each change, and how many
-- faults are left, as with the first of them it is read; nothing, if there is none.
abbrev pub mend_text : Result Count RunError → List Fix → List ℕ
mend_text (Ok c) fixes = first_text c.faults ++ (flat_map fix_text fixes ++ end_text (left_after c.faults fixes))
mend_text (Err e) [] = []
mend_text (Err e) (f ∷ fixes) = flat_map fix_text (f ∷ fixes) ++ end_text (left_after f.count.faults fixes)

-- What is answered, by what the run without changes answered: its verdict or its refusal, if nothing failed after it. After a refusal
-- nothing was put, if there is no change; after another error nothing was done.
abbrev pub Follows : {O : Type 0} → Result Count RunError → List Deed → List Fix → Result Verdict RunError → O → O → Type 0
Follows (Ok c) deeds fixes (Ok v) old new = v ≡ verdict_of c.faults
Follows (Ok c) deeds fixes (Err e) old new = IsReadWriteOrMemory e
Follows (Err (Refused why)) deeds fixes (Ok v) old new = ⊥
Follows (Err (Refused why)) deeds fixes (Err e) old new = ((e ≡ Refused why) ⊎ IsReadWriteOrMemory e) × (fixes ≡ [] → new ≡ old)
Follows (Err e) deeds fixes r old new = (r ≡ Err e) × (deeds ≡ []) × (new ≡ old)

-- Whether all of the text was written: a refusal is the answer to all of it, as a verdict is.
abbrev pub ended : Result Verdict RunError → Result (Option Verdict) RunError
ended (Ok v) = Ok (Some v)
ended (Err (Refused why)) = Ok None
ended (Err e) = Err e

module _ {S : Type 0} (source : SourceWords S) where
  -- A run over a file with these changes found it sound: there is a file that agrees with what it read, and of each such file the file with
  -- the changes is sound.
  abbrev pub IsFoundSound : List Change → S → S → Type 0
  IsFoundSound changes old new =
      HasRead source.step source.lengths IsSomeRunLog (λ file ranges. Sound (patched changes file)) (source.held old) (source.held new)

  -- What is known where the last line of a text is `ok`: one of the deeds was a run that found the file with all changes sound, and the file
  -- with them is sound where the source tells its bytes.
  pub record IsMended (changes : List Change) (old new : S) : Type 0 where
    pub before : List Deed
    pub from : S
    pub to : S
    pub after : List Deed
    pub reached : DoesAll source before old from
    pub run : IsFoundSound changes from to
    pub ends : DoesAll source after to new
    pub told : IfSome (source.held old).bytes (λ file. Sound (patched changes file))

module _ {S O : Type 0} (source : SourceWords S) (out : OutWords O) where
  -- A search for at most `limit` changes, whatever the source answers.
  pub record HasMended (limit : ℕ) (r : Result Verdict RunError) (old new : S × O) : Type 0 where
    -- what a run without changes answered, and what was done after it: nothing else was
    pub first : Result Count RunError
    pub deeds : List Deed
    pub done : DoesAll source (tried [] first ∷ deeds) old.0 new.0
    -- with the first there are at most 256 runs
    pub runs : runs_in deeds ≤ 255
    -- the changes that are written: each of a run with it and all before it, and with fewer faults than before it
    pub fixes : List Fix
    pub steps : AreSteps [] (faults_of first) fixes deeds
    pub few : length fixes ≤ min limit 16
    -- the text of these, at an error a beginning of it
    pub written : Writes (ended r) (out.held old.1).bytes (out.held new.1).bytes (mend_text first fixes)
    -- the verdict of the run without changes, or its refusal
    pub answer : Follows first deeds fixes r old.1 new.1
    -- the source failed, once, exactly at a failed read, and the Out exactly at a failed write
    pub reads : (source.held new.0).failures ≡ failures_after is_read_failed r (source.held old.0).failures
    pub writes : (out.held new.1).failures ≡ failures_after is_write_failed r (out.held old.1).failures

  -- `ok` is the last line only of the text of changes with which the file is sound.
  pub record WritesOkOfSound (r : Result Verdict RunError) (old new : S × O) : Type 0 where
    pub first : Result Count RunError
    pub fixes : List Fix
    pub written : Writes (ended r) (out.held old.1).bytes (out.held new.1).bytes (mend_text first fixes)
    pub sound : left_after (faults_of first) fixes ≡ 0 → IsMended source (changes_of fixes) old.0 new.0
