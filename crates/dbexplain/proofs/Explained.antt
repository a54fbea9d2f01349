-- What a run of `explain` leaves of a file that is read.
use Rattle.std.proofs.Common.{◌≡◌, ◌⊎◌, ℕ, zero, suc, false, List, [], Ok, Err, None, Result, inl, inr, refl, sym, ap, subst, ◌∙◌}
use Rattle.std.specs.Prelude.{IfErr, IfOk, OnOk}
use Rattle.dbformat.specs.File.{refusal}
use Rattle.dbexplain.proofs.Common.{counted, Reference, Survey, Verdict, RunError, ReadFailed, OutOfMemory, listed_injuries, injuries, ListsFirst}
use Rattle.dbexplain.proofs.Common.{references_after_end, explain_text, Receives, IsFresh, LeavesExplained, ExplainReporter}
use Rattle.dbformat.specs.Survey.{survey}
use Rattle.dbformat.proofs.Theory.{one_survey}
use Rattle.dbsource.specs.Errors.{is_write_failed}
use Rattle.dbsource.specs.Failures.{failures_after, is_any, one_more}
use Rattle.dbsource.specs.Outs.{OutState, Puts, Writes}
use Rattle.dbsource.specs.declared.error.RunError.TheVariants.{Refused, WriteFailed}
use Rattle.dbsource.proofs.Beginnings.{begins_nothing}
use Rattle.dbsource.proofs.Puts.{appends_nothing}
use Rattle.dbwalk.specs.Reporting.{IsReadWriteOrMemory}
use Rattle.dbscan.specs.Finishes.{Leaves}
use Rattle.dbreport.specs.Runs.{IsAnswerOf, SaysOk}
use Rattle.dbreport.proofs.NotBegun.{no_failure}
use Rattle.dbreport.proofs.RunAnswers.{if_ok, read_answer}
use Rattle.dbinjuries.specs.Listed.{listed_faults}
use Rattle.dbexplain.specs.Explained.{explain_report, found_text}
use Rattle.dbexplain.specs.Keeping.{lines_of}
use Rattle.dbexplain.specs.Reporting.{Ends, IsReportLeft, PutsLines}
use Rattle.dbexplain.specs.Runs.{IsExplained, OutFailures, PutsFound, WritesReport, answer_with, verdict_in}
use Rattle.dbexplain.specs.declared.after_end.AfterEnd.{AfterEnd}
use Rattle.dbexplain.specs.declared.runs.Explanation.{Explanation}
use Rattle.dbexplain.proofs.KeptInjuries.{found_lines}
use Rattle.dbexplain.proofs.Left.{is_left}
use Rattle.dbexplain.proofs.ReadReports.{answer_is, explain_says_ok, explain_sound, out_is}

-- ---- by what a run leaves of the reporter, and then the lines after a failed read

module _ {A O : Type 0} (held : O → OutState) (limit : ℕ) (file : List ℕ) (V : List Reference) (read : refusal file ≡ None)
    (first now after : ExplainReporter A O) where
  found_put : IsReportLeft held limit file V (Err ReadFailed) first now → PutsLines held now after
      → PutsFound limit file V (held first.out.now) (held after.out.now)
  found_put k lines =
      let found : ListsFirst limit file V now.kept.now.listing = k.1 in
      let l = now.kept.now.listing in
      let text = lines_of l.injuries.listed in record {
        text = text;
        found = record {
          reported = found.reported;
          first = found.first;
          lines = found_lines limit (injuries found.reported) l found.shows;
        };
        answer = lines.put;
        put = subst (λ o. Puts lines.put (held o) (held after.out.now) text) k.0 lines.lines;
      }

  -- at any other answer nothing is put after the run
  as_left : (r : Result Verdict RunError) → Writes r (held first.out.now).bytes (held now.out.now).bytes (explain_text limit file V (listed_injuries file V))
      → after.out.now ≡ now.out.now
      → Writes r (held first.out.now).bytes (held after.out.now).bytes (explain_report limit file V).out
  as_left r w e =
      subst (λ o. Writes r (held first.out.now).bytes (held o).bytes (explain_report limit file V).out) (sym e)
      (subst (Writes r (held first.out.now).bytes (held now.out.now).bytes) (out_is limit file V read) w)

  written : (r : Result Verdict RunError) → IsReportLeft held limit file V r first now → Ends held r now after
      → WritesReport limit file V r (held first.out.now) (held after.out.now)
  written (Ok v) k e = as_left (Ok v) k.0 e
  written (Err ReadFailed) k e = found_put k e
  written (Err WriteFailed) k e = as_left (Err WriteFailed) k e
  written (Err OutOfMemory) k e = as_left (Err OutOfMemory) k e
  written (Err (Refused x)) k e = as_left (Err (Refused x)) k e

  found : (r : Result Verdict RunError) → IsReportLeft held limit file V r first now → IfOk r (λ v. (explain_report limit file V).answer ≡ Ok v)
  found (Ok v) k = answer_is limit file V read v k.1
  found (Err e) k = tt

  pub explained : (r : Result Verdict RunError) (old : O) → Survey file V → IsFresh limit file first → first.out.now ≡ old
      → Leaves Receives (LeavesExplained held) file V r first now → Ends held r now after
      → WritesReport limit file V r (held old) (held after.out.now) × IfOk r (λ v. (explain_report limit file V).answer ≡ Ok v)
  explained r old survey fresh begun left ends =
      let k = is_left held file V survey first now limit fresh r left in
      (subst (λ o. WritesReport limit file V r (held o) (held after.out.now)) begun (written r k ends), found r k)

  -- and the references to pages after the stated end were counted
  counted_in : (r : Result Verdict RunError) → IsReportLeft held limit file V r first now
      → IfOk r (λ v. now.after_end.references ≡ counted (references_after_end file V))
  counted_in (Ok v) k = k.2
  counted_in (Err e) k = tt

  pub references_counted : (r : Result Verdict RunError) → Survey file V → IsFresh limit file first
      → Leaves Receives (LeavesExplained held) file V r first now → after.after_end ≡ now.after_end
      → IfOk r (λ v. after.after_end.references ≡ counted (references_after_end file V))
  references_counted r survey fresh left same =
      subst (λ (c : AfterEnd). IfOk r (λ v. c.references ≡ counted (references_after_end file V))) (sym same)
      (counted_in r (is_left held file V survey first now limit fresh r left))

-- ---- the answer, with the number of these

pub verdict_with : (r : Result Verdict RunError) (n : ℕ) → verdict_in (answer_with r n) ≡ r
verdict_with (Ok v) n = refl
verdict_with (Err e) n = refl

pub counts_with : (r : Result Verdict RunError) (n m : ℕ) → IfOk r (λ v. n ≡ m) → IfOk (answer_with r n) (λ e. e.after_end ≡ m)
counts_with (Ok v) n m h = h
counts_with (Err e) n m h = tt

-- what is so at a verdict
pub at_verdict : (T : Type 0) (r : Result Explanation RunError) → OnOk (verdict_in r) T → OnOk r T
at_verdict T (Ok e) h = h
at_verdict T (Err e) h = tt

-- ---- how often the Out failed

after_lines : {E : Type 0} (r : Result (Unit {0}) E) (a b : ℕ) → b ≡ failures_after is_any r a → (b ≡ a) ⊎ (b ≡ one_more a)
after_lines (Ok u) a b e = inl e
after_lines (Err x) a b e = inr e

module _ {A O : Type 0} (held : O → OutState) (now after : ExplainReporter A O) where
  pub out_failures : (r : Result Verdict RunError) (a : ℕ) → (held now.out.now).failures ≡ failures_after is_write_failed r a → Ends held r now after
      → OutFailures r a (held after.out.now).failures
  out_failures (Ok v) a e k = ap (λ o. (held o).failures) k ∙ e
  out_failures (Err ReadFailed) a e k = let l = after_lines k.put (held now.out.now).failures (held after.out.now).failures k.lines.count in
      let P : ℕ → Type 0 = λ m. ((held after.out.now).failures ≡ m) ⊎ ((held after.out.now).failures ≡ one_more m) in subst P e l
  out_failures (Err WriteFailed) a e k = ap (λ o. (held o).failures) k ∙ e
  out_failures (Err OutOfMemory) a e k = ap (λ o. (held o).failures) k ∙ e
  out_failures (Err (Refused x)) a e k = ap (λ o. (held o).failures) k ∙ e

-- ---- what a run leaves of a file

-- the file was read
pub is_explained : (limit : ℕ) (file : List ℕ) (r : Result Verdict RunError) (old new : OutState) → IfErr r IsReadWriteOrMemory → refusal file ≡ None
    → ((V : List Reference) → Survey file V → WritesReport limit file V r old new × IfOk r (λ v. (explain_report limit file V).answer ≡ Ok v))
    → IsExplained limit file r old new
is_explained limit file r old new only read reported = record {
  survey = (one_survey file).0;
  written = λ V s. (reported V s).0;
  verdict = λ V s. (reported V s).1;
  answer = read_answer file r only read;
  sound = if_ok r (explain_sound limit file read) (reported (survey file) (one_survey file).0).1;
  ok = ok_at r (reported (survey file) (one_survey file).0).0;
}
  where
    ok_at : (r : Result Verdict RunError) → WritesReport limit file (survey file) r old new → OnOk r (SaysOk file old.bytes new.bytes)
    ok_at (Ok v) w = explain_says_ok limit file (survey file) old.bytes new.bytes (one_survey file).0 w
    ok_at (Err e) w = tt

-- there was no run
pub not_explained : (limit : ℕ) (file : List ℕ) (e : RunError) (out : OutState) → IsAnswerOf {A = Verdict} (Err e) file → IsExplained limit file (Err e) out out
not_explained limit file e out answer = record {
  survey = (one_survey file).0;
  written = λ V s. unwritten V e;
  verdict = λ V s. tt;
  answer = answer;
  sound = tt;
  ok = tt;
}
  where
    none : (n : ℕ) → [] ≡ found_text n []
    none zero = refl
    none (suc n) = refl

    unwritten : (V : List Reference) (e : RunError) → WritesReport limit file V (Err e) out out
    unwritten V ReadFailed = record {
      text = [];
      found = record {
        reported = [];
        first = (listed_faults file V, refl);
        lines = none limit;
      };
      answer = Ok tt;
      put = record { held = appends_nothing out.bytes; count = refl };
    }
    unwritten V WriteFailed = begins_nothing out.bytes (explain_report limit file V).out
    unwritten V OutOfMemory = begins_nothing out.bytes (explain_report limit file V).out
    unwritten V (Refused x) = begins_nothing out.bytes (explain_report limit file V).out

-- the Out failed as is answered
pub unfailed : (e : RunError) (n : ℕ) → is_write_failed e ≡ false → OutFailures (Err e) n n
unfailed ReadFailed n h = inl refl
unfailed WriteFailed n h = no_failure WriteFailed n h
unfailed OutOfMemory n h = refl
unfailed (Refused x) n h = refl
