-- What the answer of a run says.
use Rattle.dbreport.proofs.Common.{arith, ◌≡◌, ◌∙◌, ℕ, List, [], ◌∷◌, ◌++◌, None, Some, Option, Ok, Err, Result, inl, inr, refl, sym, ap, subst, ◌↔◌, IfErr}
use Rattle.dbreport.proofs.Common.{IfOk, OnOk, refusal, ok_line, Reference, Report, report, Survey, Check, Stat, Verdict, run_error, is_write_failed}
use Rattle.dbreport.proofs.Common.{CountsAfter, failures_after, IsOpenLog, IsRefusalOf, RunError, OutOfMemory, WriteFailed, IsReadWriteOrMemory}
use Rattle.dbreport.proofs.Common.{AsksHeaderAlone, IsAnswerOf, IsReported, Appends, OpenError, begins_nothing, Command, one_survey, Step, Trail, HasRanges}
use Rattle.dbreport.proofs.Common.{IsReportedBy, IsRunBy, IsRunOf, IsUnwritten, SaysOk, SaysOkWhereSound}
use Rattle.std.proofs.lemmas.List.{append_cancel_left}
use Rattle.dbformat.specs.Sound.{Sound}
use Rattle.dbformat.specs.Survey.{survey}
use Rattle.dbformat.specs.declared.Verdict.TheVariants.{Clean}
use Rattle.dbsound.proofs.Soundness.{sound_by_ok, sound_by_verdict}
use Rattle.dbsource.specs.declared.error.RunError.TheVariants.{Refused, ReadFailed}
use Rattle.dbreport.proofs.RunReports.{counts_pages}
use Rattle.dbsource.specs.declared.error.OpenError.TheVariants as opening

-- the header was not read
pub refused_answer : (file : List ℕ) (e : OpenError) → IsRefusalOf e file → IsAnswerOf {A = Verdict} (Err (run_error e)) file
refused_answer file (opening.Refused r) h = h
refused_answer file opening.ReadFailed h = tt

pub refused_unwritten : {X : Type 0} (r : Result Verdict RunError) (x : X) → IsUnwritten r x x
refused_unwritten (Err (Refused r)) x = refl
refused_unwritten _ x = tt

pub refused_failures : (e : OpenError) (n : ℕ) → n ≡ failures_after {A = Verdict} is_write_failed (Err (run_error e)) n
refused_failures e n = grind arith

pub refused_counts : (e : OpenError) (counts : List ℕ) → CountsAfter {A = Verdict} is_write_failed (Err (run_error e)) counts counts
refused_counts (opening.Refused r) counts = refl
refused_counts opening.ReadFailed counts = refl

pub refused_log : {step : Step} (e : OpenError) (old new : Trail) → HasRanges step (IsOpenLog (Err e)) old new
    → AsksHeaderAlone {A = Verdict} step (Err (run_error e)) old new
refused_log (opening.Refused r) old new h = h
refused_log opening.ReadFailed old new h = tt

-- no error of a run over a file that is read is a refusal
never_refused : (e : RunError) → IsReadWriteOrMemory e → (P : RunError → Type 0) → P ReadFailed → P WriteFailed → P OutOfMemory → P e
never_refused e (inl (inl h)) P a b c = subst P (sym h) a
never_refused e (inl (inr h)) P a b c = subst P (sym h) b
never_refused e (inr h) P a b c = subst P (sym h) c

pub read_answer : (file : List ℕ) (r : Result Verdict RunError) → IfErr r IsReadWriteOrMemory → refusal file ≡ None → IsAnswerOf r file
read_answer file (Ok v) only read = read
read_answer file (Err e) only read = never_refused e only (λ e. IsAnswerOf {A = Verdict} (Err e) file) tt read read

pub read_unwritten : {X : Type 0} (r : Result Verdict RunError) (old new : X) → IfErr r IsReadWriteOrMemory → IsUnwritten r old new
read_unwritten (Ok v) old new only = tt
read_unwritten (Err e) old new only = never_refused e only (λ e. IsUnwritten {A = Verdict} (Err e) old new) tt tt tt

pub read_refused : (step : Step) (r : Result Verdict RunError) (old new : Trail) → IfErr r IsReadWriteOrMemory → AsksHeaderAlone step r old new
read_refused step (Ok v) old new only = tt
read_refused step (Err e) old new only = never_refused e only (λ e. AsksHeaderAlone {A = Verdict} step (Err e) old new) tt tt tt

pub if_ok : {P Q : Verdict → Type 0} (r : Result Verdict RunError) → ((v : Verdict) → P v → Q v) → IfOk r P → IfOk r Q
if_ok (Ok v) f h = f v h
if_ok (Err e) f h = tt

-- the failures of each of two Outs, where only the first one's can have changed
pub first_failures : (r : Result Verdict RunError) (a n b : ℕ) → n ≡ failures_after is_write_failed r a
    → CountsAfter is_write_failed r (a ∷ b ∷ []) (n ∷ b ∷ [])
first_failures (Err WriteFailed) a n b e = inl (e, refl)
first_failures _ a n b e = ap (λ k. k ∷ b ∷ []) e

-- ---- what a run left of a file

-- the verdict of a report is clean just where the file is sound
abbrev pub IsSoundRep : (List ℕ → List Reference → Report) → List ℕ → Type 0
IsSoundRep rep file = (v : Verdict) → (rep file (survey file)).answer ≡ Ok v → v ≡ Clean ↔ Sound file

-- the file was read: by any survey of it this is its report
pub run_by : (rep : List ℕ → List Reference → Report) (file : List ℕ) (r : Result Verdict RunError) (out_old out_new err_old err_new : Option (List ℕ))
    → IfErr r IsReadWriteOrMemory → refusal file ≡ None
    → IsSoundRep rep file → ((V : List Reference) → Survey file V → IsReportedBy (rep file V) r out_old out_new err_old err_new)
    → IsRunBy rep file r out_old out_new err_old err_new
run_by rep file r out_old out_new err_old err_new only read sound given = record {
  survey = (one_survey file).0;
  reported = given;
  answer = read_answer file r only read;
  sound = if_ok r sound (given (survey file) (one_survey file).0).verdict;
}

-- nothing was written, and no verdict found
pub none_by : (rep : List ℕ → List Reference → Report) (file : List ℕ) (e : RunError) (out err : Option (List ℕ)) → IsAnswerOf {A = Verdict} (Err e) file
    → IsRunBy rep file (Err e) out out err err
none_by rep file e out err answer = record {
  survey = (one_survey file).0;
  reported = λ V s. record { out = begins_nothing out (rep file V).out; err = begins_nothing err (rep file V).err; verdict = tt };
  answer = answer;
  sound = tt;
}

-- a text that is the line `ok` exactly where the file is sound was added
pub said_ok : (file text : List ℕ) (old new : Option (List ℕ)) → text ≡ ok_line ↔ Sound file → Appends old new text → SaysOk file old new
said_ok file text None new is k = tt
said_ok file text (Some had) None is k = absurd k
said_ok file text (Some had) (Some has) is k = (
  (λ e. let h : has ≡ had ++ ok_line = cc in is.0 (append_cancel_left had text ok_line (sym k ∙ h))),
  (λ sound. ap Some (k ∙ ap (λ l. had ++ l) (is.1 sound))),
)

-- what a check wrote says whether the file is sound
pub says_ok : (command : Command) (file : List ℕ) (V : List Reference) (old new : Option (List ℕ)) → Survey file V → Appends old new (report command file V).out
    → SaysOkWhereSound command file old new
says_ok (Check limit) file V old new s k = said_ok file (report (Check limit) file V).out old new (sound_by_ok file limit V s) k
says_ok (Stat aggregate all) file V old new s k = tt

ok_by : (command : Command) (file : List ℕ) (r : Result Verdict RunError) (out_old out_new err_old err_new : Option (List ℕ))
    → IsReported command file (survey file) r out_old out_new err_old err_new → OnOk r (SaysOkWhereSound command file out_old out_new)
ok_by command file (Ok v) out_old out_new err_old err_new k = says_ok command file (survey file) out_old out_new (one_survey file).0 k.out
ok_by command file (Err e) out_old out_new err_old err_new k = tt

-- the same of a run of a command
pub run_of : (command : Command) (file : List ℕ) (r : Result Verdict RunError) (out_old out_new err_old err_new : Option (List ℕ)) → IfErr r IsReadWriteOrMemory
    → refusal file ≡ None
    → ((V : List Reference) → Survey file V → IsReported command file V r out_old out_new err_old err_new)
    → IsRunOf command file r out_old out_new err_old err_new
run_of command file r out_old out_new err_old err_new only read given = record {
  run = run_by (report command) file r out_old out_new err_old err_new only read (λ v e. sound_by_verdict file command (survey file) (one_survey file).0 v e)
      given;
  counts = λ V s. counts_pages command file V s;
  ok = ok_by command file r out_old out_new err_old err_new (given (survey file) (one_survey file).0);
}

pub none_of : (command : Command) (file : List ℕ) (e : RunError) (out err : Option (List ℕ)) → IsAnswerOf {A = Verdict} (Err e) file
    → IsRunOf command file (Err e) out out err err
none_of command file e out err answer = record {
  run = none_by (report command) file e out err answer;
  counts = λ V s. counts_pages command file V s;
  ok = tt;
}

-- the verdict of a run of a command is clean exactly where the file is sound
abbrev pub IsSoundAnswer : Result Verdict RunError → List ℕ → Type 0
IsSoundAnswer r file = IfOk r (λ v. v ≡ Clean ↔ Sound file)
