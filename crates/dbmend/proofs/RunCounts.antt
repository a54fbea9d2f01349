-- What a run has counted, by how it was opened and what its counter received.
use Rattle.std.proofs.Common.{◌≡◌, ◌∙◌, ℕ, Bool, true, cond, arith, List, Result, Ok, Err, false, ap, refl, sym}
use Rattle.std.proofs.lemmas.Bool.Decides.{nat_tests}
use Rattle.std.specs.Prelude.{◌==◌, ◌↔◌}
use Rattle.dbformat.specs.FixedPages.{geometry_of}
use Rattle.dbformat.specs.Log.{IsPageLog}
use Rattle.dbformat.specs.Reference.{Reference}
use Rattle.dbformat.specs.Report.{faults, verdict_of}
use Rattle.dbformat.specs.Sound.{Sound}
use Rattle.dbformat.specs.Survey.{Survey, survey}
use Rattle.dbformat.specs.declared.Command.TheVariants.{Check}
use Rattle.dbformat.specs.declared.Geometry.{Geometry}
use Rattle.dbformat.specs.declared.Verdict.{Verdict}
use Rattle.dbformat.specs.declared.Verdict.TheVariants.{Clean, Faulty}
use Rattle.dbformat.proofs.Theory.{one_survey}
use Rattle.dbformat.proofs.Verdicts.{verdict_counted}
use Rattle.dbsound.proofs.Soundness.{sound_by_verdict}
use Rattle.dbsource.specs.Answers.{Step, Trail}
use Rattle.dbsource.specs.Errors.{is_read_failed}
use Rattle.dbsource.specs.Failures.{failures_after}
use Rattle.dbsource.specs.HeaderBytes.{HeaderBytes}
use Rattle.dbsource.specs.Headers.{IsHeaderOf}
use Rattle.dbsource.specs.Snapshots.{HasReadAfterHeader}
use Rattle.dbsource.specs.declared.error.RunError.{RunError}
use Rattle.dbsource.specs.declared.error.RunError.TheVariants.{OutOfMemory, ReadFailed, Refused, WriteFailed}
use Rattle.dbsource.specs.declared.source.Source.{Ghosts as SourceWords}
use Rattle.dbwalk.specs.Reporting.{IsReadWriteOrMemory}
use Rattle.dbscan.specs.Finishes.{Leaves}
use Rattle.dbscan.specs.Notices.{ReceivesFaults}
use Rattle.dbscan.proofs.AfterHeader.{after_weaker}
use Rattle.dbreport.specs.Opening.{IsNotOpened, IsOpened}
use Rattle.dbreport.specs.Runs.{AsksHeaderAlone, IsAnswerOf}
use Rattle.dbreport.proofs.Openings.{opened, unopened}
use Rattle.dbreport.proofs.RunAnswers.{read_answer}
use Rattle.dbreport.proofs.RunReports.{check_answer}
use Rattle.dbmend.specs.Counts.{IsCountOf, LeavesCount}
use Rattle.dbmend.specs.Deeds.{HasCounted}
use Rattle.dbmend.specs.declared.count.Count.{Count}
use Rattle.dbmend.specs.declared.counter.Counter.{Counter}
use Rattle.dbmend.proofs.Counted.{CountsFault, count_left}

-- an error says the same of a file, whatever else might have been answered
error_answer : (file : List ℕ) (e : RunError) → IsAnswerOf {A = Verdict} (Err e) file → IsAnswerOf {A = Count} (Err e) file
error_answer file (Refused r) h = h
error_answer file ReadFailed h = tt
error_answer file OutOfMemory h = h
error_answer file WriteFailed h = h

error_asked : (step : Step) (e : RunError) (old new : Trail) → AsksHeaderAlone {A = Verdict} step (Err e) old new
    → AsksHeaderAlone {A = Count} step (Err e) old new
error_asked step (Refused r) old new h = h
error_asked step ReadFailed old new h = tt
error_asked step OutOfMemory old new h = tt
error_asked step WriteFailed old new h = tt

no_count : (file : List ℕ) (e : RunError) → IsAnswerOf {A = Verdict} (Err e) file → IsCountOf file (Err e)
no_count file e answer = record { survey = (one_survey file).0; faults = λ V s. tt; size = tt; answer = error_answer file e answer; sound = tt }

-- no fault is the clean verdict
none_is_clean : (n : ℕ) (v : Verdict) (P : Type 0) → v ≡ verdict_of n → (v ≡ Clean ↔ P) → n ≡ 0 ↔ P
none_is_clean n v P e k = by_test (n == 0) refl
  where
    by_test : (b : Bool) → b ≡ (n == 0) → n ≡ 0 ↔ P
    by_test true is =
        let z : n ≡ 0 = grind (arith, nat_tests) in
        (λ _. k.0 (e ∙ ap (λ b. cond b Clean (Faulty n)) (sym is)), λ p. z)
    by_test false is = (
      λ z. absurd (let no : (n == 0) ≡ true = grind (arith, nat_tests) in let q : false ≡ true = is ∙ no in cc),
      λ p. absurd (let q : Faulty n ≡ Clean = ap (λ b. cond b Clean (Faulty n)) is ∙ sym e ∙ k.1 p in cc),
    )

module _ {S : Type 0} (source : SourceWords S) (old : S) where
  -- the file was not opened
  pub not_counted : (e : RunError) (new : S) → IsNotOpened source e old new → HasCounted source (Err e) old new
  not_counted e new h =
      let k = unopened source old {Says = λ file. IsCountOf file (Err e)} e new h (λ file a. no_count file e a) in
      record { read = k.read; reads = k.reads; asked = error_asked source.step e _ _ k.asked }

  module _ (h : HeaderBytes) (mid new : S) (is_opened : IsOpened source h old mid) (s t : Counter) (none : s.faults ≡ 0) where
    abbrev HasLeft : Result Verdict RunError → Type 0
    HasLeft r = HasReadAfterHeader source.step (IsPageLog (geometry_of h.bytes h.file_len)) h
        (λ file. (V : List Reference) → Survey file V → Leaves (ReceivesFaults CountsFault) LeavesCount file V r s t)
        (source.held mid) (source.held new)

    -- an error stopped it
    pub stopped_count : (e : RunError) → HasLeft (Err e)
        → (source.held new).failures ≡ failures_after {A = Verdict} is_read_failed (Err e) (source.held mid).failures
        → IsReadWriteOrMemory e → HasCounted source (Err e) old new
    stopped_count e left reads only =
        let k = opened source old {Says = λ file. IsCountOf file (Err e)} h mid new is_opened (Err e)
        (after_weaker h _ left (λ file is l. no_count file e (read_answer file (Err e) only is.is_read))) reads only in
        record { read = k.read; reads = k.reads; asked = error_asked source.step e _ _ k.asked }

    -- all was received
    whole_count : (v : Verdict) (c : Count) → c.faults ≡ t.faults → c.page_size ≡ (geometry_of h.bytes h.file_len).page_size
        → (file : List ℕ) → IsHeaderOf h file
        → ((V : List Reference) → Survey file V → Leaves (ReceivesFaults CountsFault) LeavesCount file V (Ok v) s t)
        → IsCountOf file (Ok c)
    whole_count v c same size file is left =
        let V = survey file in
        let found = count_left file V (one_survey file).0 s t (Ok v) (left V (one_survey file).0) none in
        let clean = sound_by_verdict file (Check 0) V (one_survey file).0 v (check_answer 0 file V is.is_read v found.1) in
        record {
          survey = (one_survey file).0;
          faults = λ V s'. same ∙ (count_left file V s' s t (Ok v) (left V s') none).0;
          size = size ∙ ap (λ (g : Geometry). g.page_size) is.shape;
          answer = is.is_read;
          sound = none_is_clean c.faults v (Sound file)
              (found.1 ∙ sym (verdict_counted (faults file V)) ∙ ap verdict_of (sym found.0 ∙ sym same)) clean;
        }

    pub run_counted : (v : Verdict) (c : Count) → c.faults ≡ t.faults → c.page_size ≡ (geometry_of h.bytes h.file_len).page_size → HasLeft (Ok v)
        → (source.held new).failures ≡ (source.held mid).failures → HasCounted source (Ok c) old new
    run_counted v c same size left reads =
        let k = opened source old {Says = λ file. IsCountOf file (Ok c)} h mid new is_opened (Ok v)
        (after_weaker h _ left (whole_count v c same size)) reads tt in
        record { read = k.read; reads = k.reads; asked = tt }
