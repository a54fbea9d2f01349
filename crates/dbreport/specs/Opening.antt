-- What the opening of a file makes of a source.
use Rattle.std.specs.Prelude.{◌≡◌, false, length, None, Err, Ok}
use Rattle.dbformat.specs.File.{geometry, refusal_of}
use Rattle.dbformat.specs.FixedPages.{geometry_of, IsInRange}
use Rattle.dbformat.specs.Log.{IsRunLog, IsSomeRunLog}
use Rattle.dbformat.specs.declared.Verdict.{Verdict}
use Rattle.dbsource.specs.Answers.{given}
use Rattle.dbsource.specs.Errors.{is_read_failed, is_write_failed}
use Rattle.dbsource.specs.Failures.{failures_after}
use Rattle.dbsource.specs.HeaderBytes.{HeaderBytes}
use Rattle.dbsource.specs.Headers.{Opens}
use Rattle.dbsource.specs.Snapshots.{HasRead}
use Rattle.dbsource.specs.declared.error.RunError.{RunError}
use Rattle.dbsource.specs.declared.source.Source.{Ghosts as SourceWords}
use Rattle.dbreport.specs.Runs.{AsksHeaderAlone, IsAnswerOf}

module _ {S : Type 0} (source : SourceWords S) where
  -- The header of a file was read, and accepted; nothing else was asked for.
  pub record IsOpened (h : HeaderBytes) (old new : S) : Type 0 where
    pub opens : Opens source.step source.lengths (Ok h) (source.held old) (source.held new)
    pub read : source.step (source.held old).trail (given 0 h.bytes) (source.held new).trail
    pub accepted : (refusal_of h.bytes h.file_len ≡ None) × (length h.bytes ≡ 100)
    pub range : IsInRange (geometry_of h.bytes h.file_len)

  -- There was no run. Whatever the source answered: there is a file, of the length that it answered, that agrees with what was read;
  -- and of each such file this is an answer. The source failed, once, exactly at a failed read; at a refusal the header alone was
  -- asked for; and no Out failed.
  pub record IsNotOpened (e : RunError) (old new : S) : Type 0 where
    pub read : HasRead source.step source.lengths IsSomeRunLog (λ file ranges. IsRunLog (geometry file) ranges
        × IsAnswerOf {A = Verdict} (Err e) file) (source.held old) (source.held new)
    pub reads : (source.held new).failures ≡ failures_after {A = Verdict} is_read_failed (Err e) (source.held old).failures
    pub asked : AsksHeaderAlone {A = Verdict} source.step (Err e) (source.held old).trail (source.held new).trail
    pub no_failed_write : is_write_failed e ≡ false
