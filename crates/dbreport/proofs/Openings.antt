-- What is said of a run from the header on, by how its file was opened.
use Rattle.dbreport.proofs.Common.{arith, ◌≡◌, ℕ, false, List, Err, Result, refl, ap, ◌∙◌, IfErr, geometry, Verdict, is_write_failed, run_error, failures_after}
use Rattle.dbreport.proofs.Common.{HeaderBytes, Opens, RunError, OutOfMemory, IsReadWriteOrMemory, AsksHeaderAlone, IsAnswerOf, IsSomeRunLog, OpenError}
use Rattle.dbreport.proofs.Common.{read_weaker, geometry_of, IsPageLog, IsRunLog, HasRead, HasReadAfterHeader, IsNotOpened, IsOpened}
use Rattle.dbsource.specs.Errors.{is_read_failed}
use Rattle.dbsource.specs.declared.source.Source.{Ghosts as SourceWords}
use Rattle.dbsource.proofs.Logs.{has_ranges, open_failures}
use Rattle.dbreport.proofs.RunAnswers.{read_refused, refused_answer, refused_log}
use Rattle.dbreport.proofs.RunLogs.{header_run, opened_run, whole_run}

never_written : (e : OpenError) → is_write_failed (run_error e) ≡ false
never_written e = grind arith

module _ {S : Type 0} (source : SourceWords S) (old : S) where
  -- the header was not read, or is refused
  pub header_refused : (e : OpenError) (new : S) → Opens source.step source.lengths (Err e) (source.held old) (source.held new)
      → IsNotOpened source (run_error e) old new
  header_refused e new opens = record {
    read = opened_run e opens (λ file h. refused_answer file e h);
    reads = opens.asks.count ∙ open_failures e (source.held old).failures;
    asked = refused_log e (source.held old).trail (source.held new).trail (has_ranges opens.asks.log);
    no_failed_write = never_written e;
  }

  -- memory was refused, before anything was read after the header
  pub memory_refused : (h : HeaderBytes) (new : S) → IsOpened source h old new → IsNotOpened source OutOfMemory old new
  memory_refused h new k = record {
    read = header_run h k.opens k.read k.accepted k.range (λ file is. is.is_read);
    reads = k.opens.asks.count;
    asked = tt;
    no_failed_write = refl;
  }

  -- A run from the header on, whatever the source answered: there is a file, of the length that it answered, that agrees with every
  -- byte that the run used, and what was asked for is a log of its geometry; and of each such file this is so. The source failed, once,
  -- exactly at a failed read. At a refusal the header alone was asked for.
  pub record IsRun (Says : List ℕ → Type 0) (r : Result Verdict RunError) (new : S) : Type 0 where
    pub read : HasRead source.step source.lengths IsSomeRunLog (λ file ranges. IsRunLog (geometry file) ranges × Says file) (source.held old) (source.held new)
    pub reads : (source.held new).failures ≡ failures_after is_read_failed r (source.held old).failures
    pub asked : AsksHeaderAlone source.step r (source.held old).trail (source.held new).trail

  -- there was no run: what is so of each file of which the error is an answer
  pub unopened : {Says : List ℕ → Type 0} (e : RunError) (new : S) → IsNotOpened source e old new
      → ((file : List ℕ) → IsAnswerOf {A = Verdict} (Err e) file → Says file) → IsRun Says (Err e) new
  unopened e new k says = record {
    read = read_weaker IsSomeRunLog _ k.read (λ ranges p. p) (λ file ranges p t. (t.0, says file t.1));
    reads = k.reads;
    asked = k.asked;
  }

  -- the file was opened, and this is what was read after its header
  pub opened : {Says : List ℕ → Type 0} (h : HeaderBytes) (mid new : S) → IsOpened source h old mid → (r : Result Verdict RunError)
      → HasReadAfterHeader source.step (IsPageLog (geometry_of h.bytes h.file_len)) h Says (source.held mid) (source.held new)
      → (source.held new).failures ≡ failures_after is_read_failed r (source.held mid).failures
      → IfErr r IsReadWriteOrMemory → IsRun Says r new
  opened h mid new k r read reads only = record {
    read = whole_run h k.opens k.read k.accepted k.range read;
    reads = reads ∙ ap (failures_after is_read_failed r) k.opens.asks.count;
    asked = read_refused source.step r _ _ only;
  }
