-- What an explanation leaves, before the last handing on and after it.
use Rattle.std.proofs.Common.{◌≡◌, ℕ, List, [], Option, Some, None, Result, Ok, Err, inl, refl, arith}
use Rattle.std.specs.Prelude.{◌↔◌, ◌≢◌, IfOk, OnOk}
use Rattle.std.specs.Io.KnownBytes.{Appends, Keeps}
use Rattle.std.specs.Option.{option_map_or}
use Rattle.dbformat.specs.File.{refusal}
use Rattle.dbformat.specs.Reference.{Reference}
use Rattle.dbformat.specs.Report.{Report, refused_report, report}
use Rattle.dbformat.specs.Sound.{Sound}
use Rattle.dbformat.specs.Survey.{Survey}
use Rattle.dbformat.specs.declared.Refusal.{Refusal}
use Rattle.dbformat.specs.declared.Verdict.{Verdict}
use Rattle.dbformat.specs.declared.Verdict.TheVariants.{Clean, Faulty}
use Rattle.dbmap.specs.Maps.{IsMapOf}
use Rattle.dbreport.proofs.RunAnswers.{first_failures}
use Rattle.dbreport.specs.Runs.{IsAnswerOf, IsRunBy}
use Rattle.dbreport.specs.StatReporter.{failures_of_each}
use Rattle.dbsource.proofs.Beginnings.{all_begun}
use Rattle.dbsource.proofs.Puts.{appends_kept, appends_nothing}
use Rattle.dbsource.specs.Errors.{is_write_failed}
use Rattle.dbsource.specs.Failures.{CountsAfter}
use Rattle.dbsource.specs.Outs.{Begins, OutState, Puts, Writes}
use Rattle.dbsource.specs.declared.error.RunError.{RunError}
use Rattle.dbsource.specs.declared.error.RunError.TheVariants.{Refused, ReadFailed, OutOfMemory, WriteFailed}
use Rattle.dbexplain.specs.Explained.{explain_report}
use Rattle.dbexplain.specs.Runs.{OutFailures, PutsFound}
use Rattle.dbcli.proofs.Failures.{after_one}
use Rattle.dbcli.specs.Exit.{GetsFound}
use Rattle.dbcli.specs.Handing.{TriesToFlush}
use Rattle.dbcli.specs.Requests.{OutsFail}
use Rattle.dbcli.specs.Status.{exit_status}
use Rattle.dbcli.specs.declared.request.Request.{Request}
use Rattle.dbcli.specs.declared.request.Request.TheVariants as request

-- ---- what it leaves in the end

-- the first Out, by a survey: after a failed read the lines found so far; else the report, at an error a beginning of it
abbrev pub LeavesText : ℕ → List ℕ → List Reference → Result Verdict RunError → OutState → OutState → Type 0
LeavesText limit file V (Err ReadFailed) out out' = GetsFound limit file V out out'
LeavesText limit file V r out out' = Writes r out.bytes out'.bytes (explain_report limit file V).out

-- and what is answered
abbrev pub IsExplainedTo : ℕ → List ℕ → Result Verdict RunError → OutState → OutState → Type 0
IsExplainedTo limit file r out out' =
    ((V : List Reference) → Survey file V → LeavesText limit file V r out out' × IfOk r (λ v. (explain_report limit file V).answer ≡ Ok v))
    × IsAnswerOf r file × IfOk r (λ v. v ≡ Clean ↔ Sound file)

-- what is left in the end, by what was asked
abbrev pub IsEndFor : Request → List ℕ → Result Verdict RunError → OutState → OutState → OutState → OutState → Type 0
IsEndFor (request.Report command) file r out out' err err' = IsRunBy (report command) file r out.bytes out'.bytes err.bytes err'.bytes
IsEndFor (request.Explain limit) file r out out' err err' = IsExplainedTo limit file r out out'
IsEndFor (request.Map name) file r out out' err err' = IsMapOf name.now file r out.bytes out'.bytes

-- ---- the lines found so far

-- what was put is a beginning
put_begun : {A E : Type 0} (r : Result A E) (old mid new : OutState) (text : List ℕ) → Puts r old mid text → Keeps mid.bytes new.bytes
    → Begins old.bytes new.bytes text
put_begun (Ok x) old mid new text p k = all_begun old.bytes new.bytes text (appends_kept old.bytes mid.bytes new.bytes text p.held k)
put_begun (Err x) old mid new text p k = record {
  part = p.held.part;
  rest = p.held.rest;
  whole = p.held.whole;
  added = appends_kept old.bytes mid.bytes new.bytes p.held.part p.held.added k;
}

-- and all, where no call failed
put_uncut : {A E : Type 0} (r : Result A E) (old mid new : OutState) (text : List ℕ) → Puts r old mid text → TriesToFlush mid new
    → new.failures ≡ old.failures → Appends old.bytes new.bytes text
put_uncut (Ok x) old mid new text p t e = appends_kept old.bytes mid.bytes new.bytes text p.held t.kept
put_uncut (Err x) old mid new text p t e = absurd (after_one 1 old mid new p.count (omega arith) t.once e)

-- what was put, and then handed on, if that could be
pub gets_found : (limit : ℕ) (file : List ℕ) (V : List Reference) (old mid new : OutState) → PutsFound limit file V old mid → TriesToFlush mid new
    → GetsFound limit file V old new
gets_found limit file V old mid new p t = record {
  text = p.text;
  found = p.found;
  begun = put_begun p.answer old mid new p.text p.put t.kept;
  uncut = put_uncut p.answer old mid new p.text p.put t;
}

-- ---- what it says of each status

-- at 4
pub found_at_4 : (limit : ℕ) (file : List ℕ) (V : List Reference) (r : Result Verdict RunError) (out out' : OutState) → LeavesText limit file V r out out'
    → exit_status r ≡ 4 → GetsFound limit file V out out'
found_at_4 limit file V (Ok Clean) out out' k e = absurd (omega arith)
found_at_4 limit file V (Ok (Faulty n)) out out' k e = absurd (omega arith)
found_at_4 limit file V (Err (Refused x)) out out' k e = absurd (omega arith)
found_at_4 limit file V (Err ReadFailed) out out' k e = k
found_at_4 limit file V (Err OutOfMemory) out out' k e = absurd (omega arith)
found_at_4 limit file V (Err WriteFailed) out out' k e = absurd (omega arith)

-- and at another
pub begun_not_at_4 : (limit : ℕ) (file : List ℕ) (V : List Reference) (r : Result Verdict RunError) (out out' : OutState) → LeavesText limit file V r out out'
    → exit_status r ≢ 4 → Begins out.bytes out'.bytes (explain_report limit file V).out
begun_not_at_4 limit file V (Ok v) out out' k e = all_begun out.bytes out'.bytes (explain_report limit file V).out k
begun_not_at_4 limit file V (Err (Refused x)) out out' k e = k
begun_not_at_4 limit file V (Err ReadFailed) out out' k e = absurd (e refl)
begun_not_at_4 limit file V (Err OutOfMemory) out out' k e = k
begun_not_at_4 limit file V (Err WriteFailed) out out' k e = k

-- all of it at a verdict
pub whole_text : (limit : ℕ) (file : List ℕ) (V : List Reference) (r : Result Verdict RunError) (out out' : OutState) → LeavesText limit file V r out out'
    → OnOk r (Appends out.bytes out'.bytes (explain_report limit file V).out)
whole_text limit file V (Ok v) out out' k = k
whole_text limit file V (Err (Refused x)) out out' k = tt
whole_text limit file V (Err ReadFailed) out out' k = tt
whole_text limit file V (Err OutOfMemory) out out' k = tt
whole_text limit file V (Err WriteFailed) out out' k = tt

-- nothing of it is for the second Out
err_of : (o : Option Refusal) (r : Report) → r.err ≡ [] → (option_map_or refused_report o r).err ≡ []
err_of None r h = h
err_of (Some e) r h = refl

pub explain_err : (limit : ℕ) (file : List ℕ) (V : List Reference) → (explain_report limit file V).err ≡ []
unfolding explain_report
explain_err limit file V = err_of (refusal file) _ refl

-- so all of that was written to it
pub kept_writes : {A E : Type 0} (r : Result A E) (old new : Option (List ℕ)) (bytes : List ℕ) → bytes ≡ [] → Keeps old new → Writes r old new bytes
kept_writes (Ok x) old new bytes e k = rw e (appends_kept old old new [] (appends_nothing old) k)
kept_writes (Err x) old new bytes e k = record { part = []; rest = bytes; whole = refl; added = appends_kept old old new [] (appends_nothing old) k }

-- ---- who failed

-- the Outs failed as answered
pub fail_as_answered : (r : Result Verdict RunError) (asked : Request) (out out' err err' : OutState)
    → CountsAfter is_write_failed r (failures_of_each out err) (failures_of_each out' err') → OutsFail r asked out out' err err'
fail_as_answered (Ok v) asked out out' err err' h = h
fail_as_answered (Err (Refused x)) asked out out' err err' h = h
fail_as_answered (Err ReadFailed) (request.Report command) out out' err err' h = h
fail_as_answered (Err ReadFailed) (request.Explain limit) out out' err err' h =
    let e : out'.failures ≡ out.failures = cc in let f : err'.failures ≡ err.failures = cc in (inl e, f)
fail_as_answered (Err ReadFailed) (request.Map name) out out' err err' h = h
fail_as_answered (Err OutOfMemory) asked out out' err err' h = h
fail_as_answered (Err WriteFailed) asked out out' err err' h = h

-- the first failed as of an explanation, and the second did not
pub explain_fails : (r : Result Verdict RunError) (limit : ℕ) (out out' err : OutState) → OutFailures r out.failures out'.failures
    → OutsFail r (request.Explain limit) out out' err err
explain_fails (Ok v) limit out out' err h = first_failures (Ok v) out.failures out'.failures err.failures h
explain_fails (Err (Refused x)) limit out out' err h = first_failures (Err (Refused x)) out.failures out'.failures err.failures h
explain_fails (Err ReadFailed) limit out out' err h = (h, refl)
explain_fails (Err OutOfMemory) limit out out' err h = first_failures (Err OutOfMemory) out.failures out'.failures err.failures h
explain_fails (Err WriteFailed) limit out out' err h = first_failures (Err WriteFailed) out.failures out'.failures err.failures h
