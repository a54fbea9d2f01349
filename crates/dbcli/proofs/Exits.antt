-- What a status says of what was asked of a file, by the outcome that it belongs to.
use Rattle.std.proofs.Common.{inl, inr, ◌≡◌, ◌↔◌, ℕ, List, [], Option, Some, None, Result, Ok, Err, ◌≤◌, ◌%◌, ◌^◌, refl, sym, ◌∙◌, ap, subst, arith}
use Rattle.std.specs.Prelude.{OnErr, OnOk, IfErr, IfOk}
use Rattle.std.specs.Io.KnownBytes.{Appends, Keeps}
use Rattle.std.proofs.KnownBytes.{Appends-trans}
use Rattle.std.proofs.lemmas.List.{append-nil}
use Rattle.dbformat.specs.File.{refusal}
use Rattle.dbformat.specs.Reference.{Reference}
use Rattle.dbformat.specs.Report.{Report, faults, report, verdict}
use Rattle.dbformat.specs.Sound.{Sound}
use Rattle.dbformat.specs.Survey.{Survey, survey}
use Rattle.dbformat.specs.declared.Command.{Command}
use Rattle.dbformat.specs.declared.Command.TheVariants.{Check}
use Rattle.dbformat.specs.declared.Refusal.{Refusal}
use Rattle.dbexplain.specs.Explained.{explain_report}
use Rattle.dbformat.specs.declared.Verdict.{Verdict}
use Rattle.dbformat.specs.declared.Verdict.TheVariants.{Clean, Faulty}
use Rattle.dbreport.specs.Runs.{AsksHeaderAlone, IsAnswerOf, IsRunBy, IsUnwritten}
use Rattle.dbreport.proofs.RunAnswers.{says_ok}
use Rattle.dbformat.proofs.Theory.{one_survey}
use Rattle.dbexplain.proofs.ReadReports.{explain_says_ok}
use Rattle.dbsource.proofs.Beginnings.{all_begun}
use Rattle.dbsource.specs.Answers.{Step, Trail}
use Rattle.dbsource.specs.Headers.{IsOpenLog}
use Rattle.dbsource.specs.Outs.{Begins, OutState, Writes}
use Rattle.dbsource.specs.Sources.{HasRanges}
use Rattle.dbsource.specs.declared.error.OpenError.TheVariants as opening
use Rattle.dbsource.specs.declared.error.RunError.{RunError}
use Rattle.dbsource.specs.declared.error.RunError.TheVariants.{Refused, ReadFailed, OutOfMemory, WriteFailed}
use Rattle.dbcli.proofs.Explaining.{IsEndFor, IsExplainedTo, begun_not_at_4, explain_err, found_at_4, kept_writes, whole_text}
use Rattle.dbcli.proofs.Failures.{FewFailed, none_failed, more_failures}
use Rattle.dbcli.specs.ErrorLines.{error_line, exit_line, refused_line}
use Rattle.dbreport.proofs.RunReports.{check_answer}
use Rattle.dbpicture.specs.Pictures.{map_picture}
use Rattle.dbmap.specs.Maps.{IsMapOf, PutsMap}
use Rattle.dbmap.proofs.MapAnswers.{nothing_begun}
use Rattle.dbcli.specs.Exit.{BeginsThenLine, EndsWithLine, IsExit, IsExitOf, IsExplainExit, IsFinishOf, IsKnown, IsStatusOf, SaysOkFor, map_report, second_most}
use Rattle.dbcli.specs.Requests.{WritesToFirst}
use Rattle.dbcli.specs.Status.{exit_status}
use Rattle.dbcli.specs.declared.request.Request.{Request}
use Rattle.dbcli.specs.declared.request.Request.TheVariants as request

-- the reports of a refused file answer its refusal
abbrev AnswersRefusals : (List ℕ → List Reference → Report) → Type 0
AnswersRefusals rep = (file : List ℕ) (V : List Reference) (e : Refusal) → refusal file ≡ Some e → (rep file V).answer ≡ Err e

command_answers : (command : Command) → AnswersRefusals (report command)
unfolding report
command_answers command file V e h = rw h refl

explain_answers : (limit : ℕ) → AnswersRefusals (explain_report limit)
unfolding explain_report
explain_answers limit file V e h = rw h refl

-- a status that is none of 0, 1 and 3
neither : (n : ℕ) (r : Report) (why : Option Refusal) (out out' err err' : OutState) → 4 ≤ n
    → BeginsThenLine err err' r.err (exit_line n why) → IsStatusOf n r why out out' err err'
neither n r why out out' err err' h ends = record {
  ends = ends;
  clean = λ e. absurd (omega arith);
  faulty = λ e. absurd (omega arith);
  refused = λ e. absurd (omega arith);
}

-- all of it is a beginning of it, with no line after it
all_then_line : (old new : OutState) (bytes : List ℕ) → Appends old.bytes new.bytes bytes → BeginsThenLine old new bytes []
all_then_line old new bytes a = record {
  part = bytes;
  rest = [];
  whole = append-nil bytes;
  shown = [];
  cut = [];
  of_line = refl;
  added = let P : List ℕ → Type 0 = λ l. Appends old.bytes new.bytes l in subst P (sym (append-nil bytes)) a;
  uncut = λ e. refl;
}

-- a beginning, and then the line of an error
begins_then_line : (most : ℕ) (old mid new : OutState) (bytes line : List ℕ) → most ≤ 3 → Begins old.bytes mid.bytes bytes → FewFailed most old mid
    → EndsWithLine line 2 mid new → BeginsThenLine old new bytes line
begins_then_line most old mid new bytes line room b f l = record {
  part = b.part;
  rest = b.rest;
  whole = b.whole;
  shown = l.shown;
  cut = l.cut;
  of_line = l.of_line;
  added = Appends-trans old.bytes mid.bytes new.bytes b.part l.shown b.added l.added;
  uncut = λ e. l.uncut (none_failed old.failures f.moved l.tried.failed
      (ap (λ n. n % 2 ^ 64) (sym e) ∙ more_failures old.failures mid.failures new.failures f.moved l.tried.failed f.count l.tried.count)
      (let x = f.bound in let y = l.tried.bound in omega (arith, room, x, y)));
}

-- the line of a refusal
refused_ends : (err err' : OutState) (bytes : List ℕ) (why : Option Refusal) (e : Refusal) → why ≡ Some e
    → BeginsThenLine err err' bytes (error_line (Refused e)) → BeginsThenLine err err' bytes (refused_line why)
refused_ends err err' bytes why e h ends = let P : Option Refusal → Type 0 = λ w. BeginsThenLine err err' bytes (refused_line w) in subst P (sym h) ends

-- what the second Out got of a report, where nothing more was put to it
err_written : (err mid err' : OutState) (bytes : List ℕ) → Appends err.bytes mid.bytes bytes → err' ≡ mid → Appends err.bytes err'.bytes bytes
err_written err mid err' bytes h e = let P : OutState → Type 0 = λ o. Appends err.bytes o.bytes bytes in subst P (sym e) h

-- what the status says of a report
status_by_outcome : (rep : Report) (file : List ℕ) → ((e : Refusal) → refusal file ≡ Some e → rep.answer ≡ Err e)
    → (outcome : Result Verdict RunError) (out out' err mid err' : OutState)
    → IsAnswerOf outcome file → OnOk outcome (Appends out.bytes out'.bytes rep.out) → Writes outcome err.bytes mid.bytes rep.err
    → IfOk outcome (λ v. rep.answer ≡ Ok v) → IsUnwritten outcome out.bytes out'.bytes
    → OnOk outcome (err' ≡ mid) → OnErr outcome (FewFailed (second_most (exit_status outcome)) err mid)
    → IfErr outcome (λ error. EndsWithLine (error_line error) 2 mid err') → IsStatusOf (exit_status outcome) rep (refusal file) out out' err err'
status_by_outcome rep file refusing (Ok Clean) out out' err mid err' answer written second verdict unwritten quiet few line = record {
  ends = all_then_line err err' rep.err (err_written err mid err' rep.err second quiet);
  clean = λ e. (verdict, record { first = written; second = err_written err mid err' rep.err second quiet });
  faulty = λ e. absurd (omega arith);
  refused = λ e. absurd (omega arith);
}
status_by_outcome rep file refusing (Ok (Faulty n)) out out' err mid err' answer written second verdict unwritten quiet few line = record {
  ends = all_then_line err err' rep.err (err_written err mid err' rep.err second quiet);
  clean = λ e. absurd (omega arith);
  faulty = λ e. (n, verdict, record { first = written; second = err_written err mid err' rep.err second quiet });
  refused = λ e. absurd (omega arith);
}
status_by_outcome rep file refusing (Err (Refused e)) out out' err mid err' answer written second verdict unwritten quiet few line = record {
  ends = refused_ends err err' rep.err (refusal file) e answer
      (begins_then_line 2 err mid err' rep.err (error_line (Refused e)) (omega arith) second few line);
  clean = λ h. absurd (omega arith);
  faulty = λ h. absurd (omega arith);
  refused = λ h. (e, refusing e answer, unwritten);
}
status_by_outcome rep file refusing (Err ReadFailed) out out' err mid err' answer written second verdict unwritten quiet few line =
    neither 4 rep (refusal file) out out' err err' (omega arith)
    (begins_then_line 2 err mid err' rep.err (error_line ReadFailed) (omega arith) second few line)
status_by_outcome rep file refusing (Err OutOfMemory) out out' err mid err' answer written second verdict unwritten quiet few line =
    neither 5 rep (refusal file) out out' err err' (omega arith)
    (begins_then_line 2 err mid err' rep.err (error_line OutOfMemory) (omega arith) second few line)
status_by_outcome rep file refusing (Err WriteFailed) out out' err mid err' answer written second verdict unwritten quiet few line =
    neither 6 rep (refusal file) out out' err err' (omega arith)
    (begins_then_line 3 err mid err' rep.err (error_line WriteFailed) (omega arith) second few line)

-- want of memory and a failed write end the run of a file that is read
memory_by : (outcome : Result Verdict RunError) (file : List ℕ) → IsAnswerOf outcome file → exit_status outcome ≡ 5 → refusal file ≡ None
memory_by (Ok Clean) file answer e = absurd (omega arith)
memory_by (Ok (Faulty n)) file answer e = absurd (omega arith)
memory_by (Err (Refused r)) file answer e = absurd (omega arith)
memory_by (Err ReadFailed) file answer e = absurd (omega arith)
memory_by (Err OutOfMemory) file answer e = answer
memory_by (Err WriteFailed) file answer e = absurd (omega arith)

unwritable_by : (outcome : Result Verdict RunError) (file : List ℕ) → IsAnswerOf outcome file → exit_status outcome ≡ 6 → refusal file ≡ None
unwritable_by (Ok Clean) file answer e = absurd (omega arith)
unwritable_by (Ok (Faulty n)) file answer e = absurd (omega arith)
unwritable_by (Err (Refused r)) file answer e = absurd (omega arith)
unwritable_by (Err ReadFailed) file answer e = absurd (omega arith)
unwritable_by (Err OutOfMemory) file answer e = absurd (omega arith)
unwritable_by (Err WriteFailed) file answer e = answer

-- the statuses that there are
pub known : (outcome : Result Verdict RunError) → IsKnown (exit_status outcome)
known (Ok Clean) = inl (omega arith)
known (Ok (Faulty n)) = inl (omega arith)
known (Err (Refused e)) = inr (omega arith, omega arith)
known (Err ReadFailed) = inr (omega arith, omega arith)
known (Err OutOfMemory) = inr (omega arith, omega arith)
known (Err WriteFailed) = inr (omega arith, omega arith)

-- of the two statuses of a verdict 0 is that of a sound file
sound_by : (outcome : Result Verdict RunError) (file : List ℕ) → IfOk outcome (λ v. v ≡ Clean ↔ Sound file)
    → exit_status outcome ≤ 1 → exit_status outcome ≡ 0 ↔ Sound file
sound_by (Ok Clean) file h = λ m. (λ e. h.0 refl, λ s. refl)
sound_by (Ok (Faulty n)) file h = λ m. (λ e. absurd (omega arith), λ s. let e : Faulty n ≡ Clean = h.1 s in cc)
sound_by (Err (Refused e)) file h = λ m. absurd (omega arith)
sound_by (Err ReadFailed) file h = λ m. absurd (omega arith)
sound_by (Err OutOfMemory) file h = λ m. absurd (omega arith)
sound_by (Err WriteFailed) file h = λ m. absurd (omega arith)

-- all was written at a verdict, and else a beginning
whole_by : {A E : Type 0} (r : Result A E) (old new : Option (List ℕ)) (bytes : List ℕ) → Writes r old new bytes → OnOk r (Appends old new bytes)
whole_by (Ok x) old new bytes h = h
whole_by (Err x) old new bytes h = tt

begun_by : {A E : Type 0} (r : Result A E) (old new : Option (List ℕ)) (bytes : List ℕ) → Writes r old new bytes → Begins old new bytes
begun_by (Ok x) old new bytes h = all_begun old new bytes h
begun_by (Err x) old new bytes h = h

-- of a report, by any survey
report_exit : (command : Command) (file : List ℕ) (outcome : Result Verdict RunError) (out out' err mid err' : OutState)
    → IsRunBy (report command) file outcome out.bytes out'.bytes err.bytes mid.bytes → IsUnwritten outcome out.bytes out'.bytes
    → OnOk outcome (err' ≡ mid) → OnErr outcome (FewFailed (second_most (exit_status outcome)) err mid)
    → IfErr outcome (λ error. EndsWithLine (error_line error) 2 mid err')
    → (V : List Reference) → Survey file V → IsExit (exit_status outcome) (report command file V) (refusal file) out out' err err'
report_exit command file outcome out out' err mid err' run unwritten quiet few line V s =
    let k = run.reported V s in
    let rep = report command file V in record {
      begun = begun_by outcome out.bytes out'.bytes rep.out k.out;
      says = status_by_outcome rep file (command_answers command file V) outcome out out' err mid err' run.answer
          (whole_by outcome out.bytes out'.bytes rep.out k.out) k.err k.verdict unwritten quiet few line;
    }

-- of an explanation
explain_exit : (limit : ℕ) (file : List ℕ) (outcome : Result Verdict RunError) (out out' err mid err' : OutState)
    → IsExplainedTo limit file outcome out out' → IsUnwritten outcome out.bytes out'.bytes → Keeps err.bytes mid.bytes
    → OnOk outcome (err' ≡ mid) → OnErr outcome (FewFailed (second_most (exit_status outcome)) err mid)
    → IfErr outcome (λ error. EndsWithLine (error_line error) 2 mid err')
    → (V : List Reference) → Survey file V → IsExplainExit (exit_status outcome) limit file V out out' err err'
explain_exit limit file outcome out out' err mid err' run unwritten kept quiet few line V s =
    let k = (run.0 V s).0 in
    let rep = explain_report limit file V in record {
      found = found_at_4 limit file V outcome out out' k;
      begun = begun_not_at_4 limit file V outcome out out' k;
      says = status_by_outcome rep file (explain_answers limit file V) outcome out out' err mid err' run.1
          (whole_text limit file V outcome out out' k) (kept_writes outcome err.bytes mid.bytes rep.err (explain_err limit file V) kept)
          ((run.0 V s).1) unwritten quiet few line;
    }

-- of a map: at a verdict its picture was put, at a failed write a beginning of it, and else nothing
map_writes : (outcome : Result Verdict RunError) (old new : Option (List ℕ)) (picture : List ℕ) → PutsMap outcome old new picture
    → Writes outcome old new picture
map_writes (Ok v) old new picture h = h
map_writes (Err (Refused e)) old new picture h = nothing_begun old new picture h
map_writes (Err ReadFailed) old new picture h = nothing_begun old new picture h
map_writes (Err OutOfMemory) old new picture h = nothing_begun old new picture h
map_writes (Err WriteFailed) old new picture h = h

map_unwritten : (outcome : Result Verdict RunError) (old new : Option (List ℕ)) (picture : List ℕ) → PutsMap outcome old new picture
    → (4 ≤ exit_status outcome) × (exit_status outcome ≤ 5) → Keeps old new
map_unwritten (Ok Clean) old new picture h s = let k = s.0 in absurd (omega (arith, k))
map_unwritten (Ok (Faulty n)) old new picture h s = let k = s.0 in absurd (omega (arith, k))
map_unwritten (Err (Refused e)) old new picture h s = h
map_unwritten (Err ReadFailed) old new picture h s = h
map_unwritten (Err OutOfMemory) old new picture h s = h
map_unwritten (Err WriteFailed) old new picture h s = let k = s.1 in absurd (omega (arith, k))

map_answers : (file : List ℕ) (V : List Reference) (outcome : Result Verdict RunError) → IsAnswerOf outcome file
    → IfOk outcome (λ v. v ≡ verdict (faults file V))
    → IfOk outcome (λ v. (report (Check 0) file V).answer ≡ Ok v)
map_answers file V (Ok v) answer h = check_answer 0 file V answer v h
map_answers file V (Err e) answer h = tt

map_exit : (name file : List ℕ) (outcome : Result Verdict RunError) (out out' err mid err' : OutState)
    → IsMapOf name file outcome out.bytes out'.bytes → IsUnwritten outcome out.bytes out'.bytes → Keeps err.bytes mid.bytes
    → OnOk outcome (err' ≡ mid) → OnErr outcome (FewFailed (second_most (exit_status outcome)) err mid)
    → IfErr outcome (λ error. EndsWithLine (error_line error) 2 mid err')
    → (V : List Reference) → Survey file V → IsExit (exit_status outcome) (map_report name file V) (refusal file) out out' err err'
    × ((4 ≤ exit_status outcome) × (exit_status outcome ≤ 5) → Keeps out.bytes out'.bytes)
map_exit name file outcome out out' err mid err' run unwritten kept quiet few line V s =
    let picture = map_picture file V name in
    let put = run.picture V s in
    let writes = map_writes outcome out.bytes out'.bytes picture put in (
      record {
        begun = begun_by outcome out.bytes out'.bytes picture writes;
        says = status_by_outcome (map_report name file V) file (command_answers (Check 0) file V) outcome out out' err mid err' run.answer
            (whole_by outcome out.bytes out'.bytes picture writes) (kept_writes outcome err.bytes mid.bytes [] refl kept)
            (map_answers file V outcome run.answer (run.verdict V s)) unwritten quiet few line;
      },
      map_unwritten outcome out.bytes out'.bytes picture put,
    )

-- and of what was asked
exit_of : (asked : Request) (file : List ℕ) (outcome : Result Verdict RunError) (out out' err mid err' : OutState)
    → IsEndFor asked file outcome out out' err mid
    → IsUnwritten outcome out.bytes out'.bytes → (WritesToFirst asked → Keeps err.bytes mid.bytes)
    → OnOk outcome (err' ≡ mid) → OnErr outcome (FewFailed (second_most (exit_status outcome)) err mid)
    → IfErr outcome (λ error. EndsWithLine (error_line error) 2 mid err')
    → IsExitOf (exit_status outcome) asked file out out' err err'
exit_of (request.Report command) file outcome out out' err mid err' run unwritten kept quiet few line =
    report_exit command file outcome out out' err mid err' run unwritten quiet few line
exit_of (request.Explain limit) file outcome out out' err mid err' run unwritten kept quiet few line =
    explain_exit limit file outcome out out' err mid err' run unwritten (kept tt) quiet few line
exit_of (request.Map name) file outcome out out' err mid err' run unwritten kept quiet few line =
    map_exit name.now file outcome out out' err mid err' run unwritten (kept tt) quiet few line

-- each run has an answer for the file, and its verdict says whether that is sound
answer_of : (asked : Request) (file : List ℕ) (outcome : Result Verdict RunError) (out out' err mid : OutState)
    → IsEndFor asked file outcome out out' err mid
    → IsAnswerOf outcome file × IfOk outcome (λ v. v ≡ Clean ↔ Sound file)
answer_of (request.Report command) file outcome out out' err mid run = (run.answer, run.sound)
answer_of (request.Explain limit) file outcome out out' err mid run = (run.1, run.2)
answer_of (request.Map name) file outcome out out' err mid run = (run.answer, run.sound)

-- at a verdict a check says whether the file is sound, and so does an explanation
ok_for : (asked : Request) (file : List ℕ) (outcome : Result Verdict RunError) (out out' err mid : OutState)
    → IsEndFor asked file outcome out out' err mid → exit_status outcome ≤ 1 → SaysOkFor asked file out out'
ok_for (request.Report command) file (Ok v) out out' err mid run m =
    says_ok command file (survey file) out.bytes out'.bytes run.survey (run.reported (survey file) run.survey).out
ok_for (request.Report command) file (Err (Refused e)) out out' err mid run m = absurd (omega arith)
ok_for (request.Report command) file (Err ReadFailed) out out' err mid run m = absurd (omega arith)
ok_for (request.Report command) file (Err OutOfMemory) out out' err mid run m = absurd (omega arith)
ok_for (request.Report command) file (Err WriteFailed) out out' err mid run m = absurd (omega arith)
ok_for (request.Explain limit) file (Ok v) out out' err mid run m =
    let s = (one_survey file).0 in explain_says_ok limit file (survey file) out.bytes out'.bytes s (run.0 (survey file) s).0
ok_for (request.Explain limit) file (Err (Refused e)) out out' err mid run m = absurd (omega arith)
ok_for (request.Explain limit) file (Err ReadFailed) out out' err mid run m = absurd (omega arith)
ok_for (request.Explain limit) file (Err OutOfMemory) out out' err mid run m = absurd (omega arith)
ok_for (request.Explain limit) file (Err WriteFailed) out out' err mid run m = absurd (omega arith)
ok_for (request.Map name) file outcome out out' err mid run m = tt

-- what finishing left of a file, by what its run left of it
pub finish_of : (asked : Request) (file : List ℕ) (outcome : Result Verdict RunError) (out out' err mid err' : OutState)
    → IsEndFor asked file outcome out out' err mid
    → IsUnwritten outcome out.bytes out'.bytes → (WritesToFirst asked → Keeps err.bytes mid.bytes)
    → OnOk outcome (err' ≡ mid) → OnErr outcome (FewFailed (second_most (exit_status outcome)) err mid)
    → IfErr outcome (λ error. EndsWithLine (error_line error) 2 mid err')
    → IsFinishOf (exit_status outcome) asked file out out' err err'
finish_of asked file outcome out out' err mid err' run unwritten kept quiet few line =
    let k = answer_of asked file outcome out out' err mid run in record {
      exit = exit_of asked file outcome out out' err mid err' run unwritten kept quiet few line;
      sound = sound_by outcome file k.1;
      ok = ok_for asked file outcome out out' err mid run;
      memory = memory_by outcome file k.0;
      unwritable = unwritable_by outcome file k.0;
    }

-- at a refusal it is as it was
pub unwritten_at_3 : {X : Type 0} (outcome : Result Verdict RunError) (old new : X) → IsUnwritten outcome old new → exit_status outcome ≡ 3 → new ≡ old
unwritten_at_3 (Ok Clean) old new u k = absurd (omega arith)
unwritten_at_3 (Ok (Faulty n)) old new u k = absurd (omega arith)
unwritten_at_3 (Err (Refused e)) old new u k = u
unwritten_at_3 (Err ReadFailed) old new u k = absurd (omega arith)
unwritten_at_3 (Err OutOfMemory) old new u k = absurd (omega arith)
unwritten_at_3 (Err WriteFailed) old new u k = absurd (omega arith)

-- and the header alone was asked for
pub refused_at_3 : (step : Step) (outcome : Result Verdict RunError) (old new : Trail) → AsksHeaderAlone step outcome old new → exit_status outcome ≡ 3
    → (why : Refusal) × HasRanges step (IsOpenLog (Err (opening.Refused why))) old new
refused_at_3 step (Ok Clean) old new h k = absurd (omega arith)
refused_at_3 step (Ok (Faulty n)) old new h k = absurd (omega arith)
refused_at_3 step (Err (Refused e)) old new h k = (e, h)
refused_at_3 step (Err ReadFailed) old new h k = absurd (omega arith)
refused_at_3 step (Err OutOfMemory) old new h k = absurd (omega arith)
refused_at_3 step (Err WriteFailed) old new h k = absurd (omega arith)

-- and what is said of it
pub unreported : {X Y : Type 0} (f : X → Y) (outcome : Result Verdict RunError) (old new : X) → IsUnwritten outcome old new
    → IsUnwritten outcome (f old) (f new)
unreported f (Ok v) old new u = tt
unreported f (Err (Refused e)) old new u = ap f u
unreported f (Err ReadFailed) old new u = tt
unreported f (Err OutOfMemory) old new u = tt
unreported f (Err WriteFailed) old new u = tt
