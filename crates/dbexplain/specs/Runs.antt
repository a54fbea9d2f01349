-- What a run of `explain` leaves.
use Rattle.std.specs.Prelude.{◌≡◌, ◌⊎◌, ◌↔◌, ℕ, List, Result, Ok, Err, IfOk, OnOk}
use Rattle.dbformat.specs.File.{geometry}
use Rattle.dbformat.specs.Log.{IsRunLog, IsSomeRunLog}
use Rattle.dbformat.specs.Lines.{counted}
use Rattle.dbformat.specs.Reference.{Reference}
use Rattle.dbformat.specs.Sound.{Sound}
use Rattle.dbformat.specs.Survey.{Survey, survey}
use Rattle.dbformat.specs.declared.Verdict.{Verdict}
use Rattle.dbformat.specs.declared.Verdict.TheVariants.{Clean}
use Rattle.dbsource.specs.Errors.{is_read_failed, is_write_failed}
use Rattle.dbsource.specs.Failures.{failures_after, one_more}
use Rattle.dbsource.specs.Outs.{OutState, Puts, Writes}
use Rattle.dbsource.specs.Answers.{Lengths, Step}
use Rattle.dbsource.specs.Snapshots.{HasRead, ToldFileIsRead}
use Rattle.dbsource.specs.Sources.{SourceState}
use Rattle.dbsource.specs.declared.error.RunError.{RunError}
use Rattle.dbsource.specs.declared.error.RunError.TheVariants.{ReadFailed}
use Rattle.dbsource.specs.declared.out.WriteFailed.{WriteFailed}
use Rattle.dbsource.specs.declared.out.Out.{Ghosts as OutWords}
use Rattle.dbsource.specs.declared.source.Source.{Ghosts as SourceWords}
use Rattle.dbreport.specs.Runs.{IsAnswerOf, SaysOk}
use Rattle.dbexplain.specs.AfterEnd.{references_after_end}
use Rattle.dbexplain.specs.Explained.{IsFoundText, explain_report}
use Rattle.dbexplain.specs.declared.runs.Explanation.{Explanation}

-- After a failed read the lines of the injuries found so far were put, and nothing else: a beginning of them where the Out failed too.
pub record PutsFound (limit : ℕ) (file : List ℕ) (V : List Reference) (old new : OutState) : Type 0 where
  pub text : List ℕ
  pub found : IsFoundText limit file V text
  pub answer : Result (Unit {0}) WriteFailed
  pub put : Puts answer old new text

-- What was written: after a failed read the injuries found so far; else the report, at an error a beginning of it.
abbrev pub WritesReport : ℕ → List ℕ → List Reference → Result Verdict RunError → OutState → OutState → Type 0
WritesReport limit file V (Err ReadFailed) old new = PutsFound limit file V old new
WritesReport limit file V r old new = Writes r old.bytes new.bytes (explain_report limit file V).out

-- What a run left is so of a file: the file has a survey, and by any survey of it this was written and found; `Clean` is what a
-- sound file is answered, and the line `ok` what is written of it, and of no other.
pub record IsExplained (limit : ℕ) (file : List ℕ) (r : Result Verdict RunError) (old new : OutState) : Type 0 where
  pub survey : Survey file (survey file)
  pub written : (V : List Reference) → Survey file V → WritesReport limit file V r old new
  pub verdict : (V : List Reference) → Survey file V → IfOk r (λ v. (explain_report limit file V).answer ≡ Ok v)
  pub answer : IsAnswerOf r file
  pub sound : IfOk r (λ v. v ≡ Clean ↔ Sound file)
  pub ok : OnOk r (SaysOk file old.bytes new.bytes)

-- ---- the answer of a run

-- a verdict, with this number of references
abbrev pub answer_with : Result Verdict RunError → ℕ → Result Explanation RunError
answer_with (Ok v) n = Ok (record { verdict = v; after_end = n })
answer_with (Err e) n = Err e

-- the verdict of an answer
abbrev pub verdict_in : Result Explanation RunError → Result Verdict RunError
verdict_in (Ok e) = Ok e.verdict
verdict_in (Err e) = Err e

-- an answer counts the references that lead to pages after the stated end of a file
abbrev pub CountsAfterEnd : List ℕ → Result Explanation RunError → Type 0
CountsAfterEnd file r = (V : List Reference) → Survey file V → IfOk r (λ e. e.after_end ≡ counted (references_after_end file V))

-- what an answer says of a file, and what was written of it
abbrev pub ExplainsFile : ℕ → List ℕ → Result Explanation RunError → OutState → OutState → Type 0
ExplainsFile limit file r old new = IsExplained limit file (verdict_in r) old new × CountsAfterEnd file r

-- how often an Out had failed before and after: it may fail once more after a failed read; else just where that is answered
abbrev pub OutFailures : Result Verdict RunError → ℕ → ℕ → Type 0
OutFailures (Err ReadFailed) old new = (new ≡ old) ⊎ (new ≡ one_more old)
OutFailures r old new = new ≡ failures_after is_write_failed r old

-- What a run says of each file that agrees with what was read, it says of the bytes that a source tells.
abbrev pub ToldFilesAreExplained : Step → Lengths → Type 0
ToldFilesAreExplained step lengths = (limit : ℕ) (r : Result Explanation RunError) (out_old out_new : OutState) (old new : SourceState)
    → ToldFileIsRead step lengths IsSomeRunLog (λ file ranges. IsRunLog (geometry file) ranges × ExplainsFile limit file r out_old out_new) old new

-- ---- a run from a source and an Out to what these have become, by what their traits say of them

module _ {S O : Type 0} (source : SourceWords S) (out : OutWords O) where
  -- Whatever the source answered: there is a file, of the length that it answered, that agrees with every byte that the run used;
  -- and of each such file this was the run, and what it asked for is what a run over that file asks for.
  abbrev pub HasExplained : ℕ → Result Explanation RunError → S × O → S × O → Type 0
  HasExplained limit r old new = HasRead source.step source.lengths IsSomeRunLog
      (λ file ranges. IsRunLog (geometry file) ranges × ExplainsFile limit file r (out.held old.1) (out.held new.1))
      (source.held old.0) (source.held new.0)

  -- Who failed is what was answered: the source failed, once, exactly at a failed read, and the Out, once, exactly at a failed write;
  -- but the lines after a failed read may fail too.
  pub record ExplainFails (r : Result Verdict RunError) (old new : S × O) : Type 0 where
    pub reads : (source.held new.0).failures ≡ failures_after is_read_failed r (source.held old.0).failures
    pub writes : OutFailures r (out.held old.1).failures (out.held new.1).failures
