-- What handing on makes of the outcome of a run, and of what is said of it.
use Rattle.std.proofs.Common.{◌≡◌, ◌↔◌, ◌∙◌, ℕ, ◌+◌, ◌%◌, ◌^◌, ◌≤◌, List, [], ◌++◌, Option, None, Some, Result, Ok, Err, inl, inr, refl, sym, ap, subst, arith}
use Rattle.std.proofs.Common.{true, false}
use Rattle.std.specs.Prelude.{IfErr, IfOk, OnErr, OnOk, ◌⊎◌, is_ok}
use Rattle.std.specs.Io.KnownBytes.{Appends, Keeps}
use Rattle.std.proofs.lemmas.List.{append-nil}
use Rattle.dbformat.specs.Reference.{Reference}
use Rattle.dbformat.specs.Report.{Report, faults, report, verdict}
use Rattle.dbformat.specs.Sound.{Sound}
use Rattle.dbformat.specs.declared.Refusal.{Refusal}
use Rattle.dbformat.specs.declared.Verdict.{Verdict}
use Rattle.dbformat.specs.declared.Verdict.TheVariants.{Clean, Faulty}
use Rattle.dbreport.specs.Runs.{AsksHeaderAlone, IsAnswerOf, IsRunBy, IsUnwritten}
use Rattle.dbreport.specs.StatReporter.{failures_of_each}
use Rattle.dbsource.proofs.Beginnings.{all_begun}
use Rattle.dbsource.proofs.Puts.{appends_kept, kept_appends, keeps_same}
use Rattle.dbsource.specs.Answers.{Step, Trail}
use Rattle.dbsource.specs.Errors.{is_read_failed}
use Rattle.dbsource.specs.Failures.{HasOneMore, failures_after, one_more}
use Rattle.dbsource.specs.Outs.{Begins, Flushes, OutState, Puts, Writes}
use Rattle.dbsource.specs.declared.error.RunError.{RunError}
use Rattle.dbsource.specs.declared.error.RunError.TheVariants.{Refused, ReadFailed, OutOfMemory, WriteFailed}
use Rattle.dbpicture.specs.Pictures.{map_picture}
use Rattle.dbmap.specs.Maps.{PutsMap}
use Rattle.dbcli.proofs.Explaining.{IsEndFor, LeavesText, gets_found}
use Rattle.dbcli.proofs.Failures.{FewFailed, after_one, failed_then, few_then, few_then_line, more_count, more_failures, none_moved, not_same, one_moved}
use Rattle.dbcli.proofs.Failures.{same_count}
use Rattle.dbcli.specs.ErrorLines.{error_line}
use Rattle.dbcli.specs.Exit.{EndsWithLine, OutHasFailed, IsHandedOn, IsHandedOnOrFailed, failures_at_4, first_most, second_most, unread_most}
use Rattle.dbcli.specs.Handing.{IsHanded, IsMendHanded, StopsFlushing, TriesToFlush}
use Rattle.dbexplain.specs.Explained.{explain_report}
use Rattle.dbexplain.specs.Runs.{WritesReport}
use Rattle.dbcli.specs.Requests.{IsRunFor, OutsFail}
use Rattle.dbcli.specs.Status.{exit_status}
use Rattle.dbcli.specs.declared.request.Request.{Request}
use Rattle.dbcli.specs.declared.request.Request.TheVariants as request

-- ---- what held before an outcome holds after it

-- the verdict of a run has one of two statuses
at_verdict : (v : Verdict) → exit_status (Ok v) ≤ 1
at_verdict Clean = omega arith
at_verdict (Faulty n) = omega arith

begins_still : (o m n : Option (List ℕ)) (bytes : List ℕ) → Begins o m bytes → Keeps m n → Begins o n bytes
begins_still o m n bytes b k = record { part = b.part; rest = b.rest; whole = b.whole; added = appends_kept o m n b.part b.added k }

keeps_then : (o m n : Option (List ℕ)) → Keeps o m → Keeps m n → Keeps o n
keeps_then None m n h k = tt
keeps_then (Some x) None n h k = absurd h
keeps_then (Some x) (Some y) None h k = absurd k
keeps_then (Some x) (Some y) (Some z) h k = k ∙ h

module _ (out out' err err' : OutState) where
  -- the answer is one for the file
  still_answers : (o r : Result Verdict RunError) (file : List ℕ) → IsHanded o r out out' err err' → IsAnswerOf o file → IsAnswerOf r file
  still_answers (Ok v) (Ok w) file h a = a
  still_answers (Ok v) (Err e) file h a = rw h.0 a
  still_answers (Err (Refused x)) r file h a = rw h.0 a
  still_answers (Err ReadFailed) r file h a = rw h.0 a
  still_answers (Err OutOfMemory) r file h a = rw h.0 a
  still_answers (Err WriteFailed) r file h a = rw h.0 a

  -- a verdict is the same one
  still_of : (P : Verdict → Type 0) (o r : Result Verdict RunError) → IsHanded o r out out' err err' → IfOk o P → IfOk r P
  still_of P (Ok v) (Ok w) h p = rw h.0 p
  still_of P (Ok v) (Err e) h p = tt
  still_of P (Err (Refused x)) r h p = rw h.0 tt
  still_of P (Err ReadFailed) r h p = rw h.0 tt
  still_of P (Err OutOfMemory) r h p = rw h.0 tt
  still_of P (Err WriteFailed) r h p = rw h.0 tt

  -- at a refusal nothing was written
  pub still_unwritten : {X : Type 0} (o r : Result Verdict RunError) (a b c : X) → IsHanded o r out out' err err' → IsUnwritten o a b → IsUnwritten o b c
      → IsUnwritten r a c
  still_unwritten (Ok v) (Ok w) a b c h u k = tt
  still_unwritten (Ok v) (Err e) a b c h u k = rw h.0 tt
  still_unwritten (Err (Refused x)) r a b c h u k = rw h.0 (k ∙ u)
  still_unwritten (Err ReadFailed) r a b c h u k = rw h.0 tt
  still_unwritten (Err OutOfMemory) r a b c h u k = rw h.0 tt
  still_unwritten (Err WriteFailed) r a b c h u k = rw h.0 tt

  -- the header alone was asked for
  pub still_refused : (step : Step) (o r : Result Verdict RunError) (a b : Trail) → IsHanded o r out out' err err' → AsksHeaderAlone step o a b
      → AsksHeaderAlone step r a b
  still_refused step (Ok v) (Ok w) a b h k = tt
  still_refused step (Ok v) (Err e) a b h k = rw h.0 tt
  still_refused step (Err (Refused x)) r a b h k = rw h.0 k
  still_refused step (Err ReadFailed) r a b h k = rw h.0 tt
  still_refused step (Err OutOfMemory) r a b h k = rw h.0 tt
  still_refused step (Err WriteFailed) r a b h k = rw h.0 tt

  -- what was written of bytes to the first Out
  still_writes : (o r : Result Verdict RunError) (before : Option (List ℕ)) (bytes : List ℕ)
      → IsHanded o r out out' err err' → Writes o before out.bytes bytes → Writes r before out'.bytes bytes
  still_writes (Ok v) (Ok w) before bytes h k = appends_kept before out.bytes out'.bytes bytes k h.1.kept
  still_writes (Ok v) (Err e) before bytes h k = all_begun before out'.bytes bytes (appends_kept before out.bytes out'.bytes bytes k h.1.kept)
  still_writes (Err (Refused x)) r before bytes h k = rw h.0 (subst (λ g. Begins before g.bytes bytes) (sym h.1) k)
  still_writes (Err ReadFailed) r before bytes h k = rw h.0 (begins_still before out.bytes out'.bytes bytes k h.1.kept)
  still_writes (Err OutOfMemory) r before bytes h k = rw h.0 (begins_still before out.bytes out'.bytes bytes k h.1.kept)
  still_writes (Err WriteFailed) r before bytes h k = rw h.0 (begins_still before out.bytes out'.bytes bytes k h.1.kept)

  -- and to the second
  still_second : (o r : Result Verdict RunError) (before : Option (List ℕ)) (bytes : List ℕ)
      → IsHanded o r out out' err err' → Writes o before err.bytes bytes → Writes r before err'.bytes bytes
  still_second (Ok v) (Ok w) before bytes h k = appends_kept before err.bytes err'.bytes bytes k h.2.kept
  still_second (Ok v) (Err e) before bytes h k = all_begun before err'.bytes bytes (appends_kept before err.bytes err'.bytes bytes k h.1.second_kept)
  still_second (Err (Refused x)) r before bytes h k = rw h.0 (subst (λ g. Begins before g.bytes bytes) (sym h.2) k)
  still_second (Err ReadFailed) r before bytes h k = rw h.0 (subst (λ g. Begins before g.bytes bytes) (sym h.2) k)
  still_second (Err OutOfMemory) r before bytes h k = rw h.0 (subst (λ g. Begins before g.bytes bytes) (sym h.2) k)
  still_second (Err WriteFailed) r before bytes h k = rw h.0 (subst (λ g. Begins before g.bytes bytes) (sym h.2) k)

  -- so what a run left of a file is left of it still
  still_run : (rep : List ℕ → List Reference → Report) (file : List ℕ) (o r : Result Verdict RunError) (first second : Option (List ℕ))
      → IsHanded o r out out' err err'
      → IsRunBy rep file o first out.bytes second err.bytes → IsRunBy rep file r first out'.bytes second err'.bytes
  still_run rep file o r first second h run = record {
    survey = run.survey;
    reported = λ V s. let k = run.reported V s in record {
      out = still_writes o r first (rep file V).out h k.out;
      err = still_second o r second (rep file V).err h k.err;
      verdict = still_of (λ v. (rep file V).answer ≡ Ok v) o r h k.verdict;
    };
    answer = still_answers o r file h run.answer;
    sound = still_of (λ v. v ≡ Clean ↔ Sound file) o r h run.sound;
  }

  -- the picture of a map
  still_drawn : (o r : Result Verdict RunError) (before : Option (List ℕ)) (picture : List ℕ)
      → IsHanded o r out out' err err' → PutsMap o before out.bytes picture → PutsMap r before out'.bytes picture
  still_drawn (Ok v) (Ok w) before picture h k = appends_kept before out.bytes out'.bytes picture k h.1.kept
  still_drawn (Ok v) (Err e) before picture h k = rw h.0 (all_begun before out'.bytes picture (appends_kept before out.bytes out'.bytes picture k h.1.kept))
  still_drawn (Err (Refused x)) r before picture h k = rw h.0 (subst (λ g. Keeps before g.bytes) (sym h.1) k)
  still_drawn (Err ReadFailed) r before picture h k = rw h.0 (keeps_then before out.bytes out'.bytes k h.1.kept)
  still_drawn (Err OutOfMemory) r before picture h k = rw h.0 (keeps_then before out.bytes out'.bytes k h.1.kept)
  still_drawn (Err WriteFailed) r before picture h k = rw h.0 (begins_still before out.bytes out'.bytes picture k h.1.kept)

  -- what an explanation wrote
  still_explained : (limit : ℕ) (file : List ℕ) (V : List Reference) (o r : Result Verdict RunError) (first : OutState) → IsHanded o r out out' err err'
      → WritesReport limit file V o first out → LeavesText limit file V r first out'
  still_explained limit file V (Ok v) (Ok w) first h k = still_writes (Ok v) (Ok w) first.bytes (explain_report limit file V).out h k
  still_explained limit file V (Ok v) (Err e) first h k =
      rw h.0 (let b = (explain_report limit file V).out in all_begun first.bytes out'.bytes b (appends_kept first.bytes out.bytes out'.bytes b k h.1.kept))
  still_explained limit file V (Err (Refused x)) r first h k =
      rw h.0 (subst (λ g. Begins first.bytes g.bytes (explain_report limit file V).out) (sym h.1) k)
  still_explained limit file V (Err ReadFailed) r first h k = rw h.0 (gets_found limit file V first out out' k h.1)
  still_explained limit file V (Err OutOfMemory) r first h k =
      rw h.0 (begins_still first.bytes out.bytes out'.bytes (explain_report limit file V).out k h.1.kept)
  still_explained limit file V (Err WriteFailed) r first h k =
      rw h.0 (begins_still first.bytes out.bytes out'.bytes (explain_report limit file V).out k h.1.kept)

  -- for what was asked
  pub still_for : (asked : Request) (file : List ℕ) (o r : Result Verdict RunError) (first second : OutState) → IsHanded o r out out' err err'
      → IsRunFor asked file o first out second err → IsEndFor asked file r first out' second err'
  still_for (request.Report command) file o r first second h run = still_run (report command) file o r first.bytes second.bytes h run
  still_for (request.Explain limit) file o r first second h run = (
    λ V s. (still_explained limit file V o r first h (run.written V s), still_of (λ v. (explain_report limit file V).answer ≡ Ok v) o r h (run.verdict V s)),
    still_answers o r file h run.answer,
    still_of (λ v. v ≡ Clean ↔ Sound file) o r h run.sound,
  )
  still_for (request.Map name) file o r first second h run = record {
    survey = run.survey;
    verdict = λ V s. still_of (λ v. v ≡ verdict (faults file V)) o r h (run.verdict V s);
    picture = λ V s. still_drawn o r first.bytes (map_picture file V name.now) h (run.picture V s);
    answer = still_answers o r file h run.answer;
    sound = still_of (λ v. v ≡ Clean ↔ Sound file) o r h run.sound;
  }

  -- the source failed just where the status is 4
  pub source_failures : (o r : Result Verdict RunError) → IsHanded o r out out' err err' → (before after : ℕ)
      → after ≡ failures_after is_read_failed o before → after ≡ failures_at_4 (exit_status r) before
  source_failures (Ok v) (Ok Clean) h before after k = k
  source_failures (Ok v) (Ok (Faulty n)) h before after k = k
  source_failures (Ok v) (Err e) h before after k = rw h.0 k
  source_failures (Err (Refused x)) r h before after k = rw h.0 k
  source_failures (Err ReadFailed) r h before after k = rw h.0 k
  source_failures (Err OutOfMemory) r h before after k = rw h.0 k
  source_failures (Err WriteFailed) r h before after k = rw h.0 k

-- ---- failures

-- of two Outs that were flushed, the first
stopped_first : (out out' err err' : OutState) → StopsFlushing out out' err err' → IsHandedOnOrFailed 1 out out'
stopped_first out out' err err' s = by_once s.once
  where
    by_once : HasOneMore (failures_of_each out err) (failures_of_each out' err') → IsHandedOnOrFailed 1 out out'
    by_once (inl (first, same)) = record {
      failed = 1;
      bound = omega arith;
      count = more_count out.failures out'.failures first;
      all =
          λ e. absurd (omega arith);
    }
    by_once (inr (same, more)) = record { failed = 0; bound = omega arith; count = same_count out.failures out'.failures same; all = λ e. s.first same }

module _ (out err out1 err1 out2 err2 err3 : OutState) where
  -- at a verdict
  pub whole_at_verdict : (asked : Request) (o r : Result Verdict RunError) → OutsFail o asked out out1 err err1
      → IsHanded o r out1 out2 err1 err2 → OnOk r (err3 ≡ err2) → exit_status r ≤ 1 → IsHandedOn out out2 × IsHandedOn err err3
  whole_at_verdict asked (Ok v) (Ok w) same h quiet k =
      let e : out1.failures ≡ out.failures = cc in
      let f : err1.failures ≡ err.failures = cc in (
        record { all = h.1.empty; unfailed = h.1.count ∙ e },
        subst (λ x. IsHandedOn err x) (sym quiet) (record { all = h.2.empty; unfailed = h.2.count ∙ f }),
      )
  whole_at_verdict asked (Ok v) (Err e) same h quiet k = let q : 6 ≤ 1 = rw h.0 at k in absurd (omega arith)
  whole_at_verdict asked (Err (Refused x)) r same h quiet k = let q : 3 ≤ 1 = rw h.0 at k in absurd (omega arith)
  whole_at_verdict asked (Err ReadFailed) r same h quiet k = let q : 4 ≤ 1 = rw h.0 at k in absurd (omega arith)
  whole_at_verdict asked (Err OutOfMemory) r same h quiet k = let q : 5 ≤ 1 = rw h.0 at k in absurd (omega arith)
  whole_at_verdict asked (Err WriteFailed) r same h quiet k = let q : 6 ≤ 1 = rw h.0 at k in absurd (omega arith)

  -- the first Out after a failed read
  first_unread : (asked : Request) → OutsFail (Err ReadFailed) asked out out1 err err1 → TriesToFlush out1 out2
      → IsHandedOnOrFailed (unread_most asked) out out2
  first_unread (request.Report command) same t =
      let m = none_moved out err out1 err1 same in let s = m.sum in failed_then m.first 1 1 out out1 out2 (omega (arith, s)) m.count t.once
  first_unread (request.Explain limit) (inl same, second) t = failed_then 0 1 2 out out1 out2 (omega arith) (same_count out.failures out1.failures same) t.once
  first_unread (request.Explain limit) (inr more, second) t = failed_then 1 1 2 out out1 out2 (omega arith) (more_count out.failures out1.failures more) t.once
  first_unread (request.Map name) same t =
      let m = none_moved out err out1 err1 same in let s = m.sum in failed_then m.first 1 1 out out1 out2 (omega (arith, s)) m.count t.once

  -- and after any error
  pub first_at_error : (asked : Request) (o r : Result Verdict RunError) → OutsFail o asked out out1 err err1
      → IsHanded o r out1 out2 err1 err2 → 4 ≤ exit_status r → IsHandedOnOrFailed (first_most asked (exit_status r)) out out2
  first_at_error asked (Ok v) (Ok w) same h k = let q = at_verdict w in absurd (omega arith)
  first_at_error asked (Ok v) (Err e) same h k = rw h.0
      (let m = none_moved out err out1 err1 same in let z : m.first ≡ 0 = (let s = m.sum in omega (arith, s)) in
      failed_then m.first 1 2 out out1 out2 (omega (arith, z)) m.count (stopped_first out1 out2 err1 err2 h.1))
  first_at_error asked (Err (Refused x)) r same h k = let q : 4 ≤ 3 = rw h.0 at k in absurd (omega arith)
  first_at_error asked (Err ReadFailed) r same h k = rw h.0 (first_unread asked same h.1)
  first_at_error asked (Err OutOfMemory) r same h k =
      rw h.0 (let m = none_moved out err out1 err1 same in let s = m.sum in failed_then m.first 1 1 out out1 out2 (omega (arith, s)) m.count h.1.once)
  first_at_error asked (Err WriteFailed) r one h k =
      rw h.0 (let m = one_moved out err out1 err1 one in let s = m.sum in failed_then m.first 1 2 out out1 out2 (omega (arith, s)) m.count h.1.once)

  none_few : failures_of_each out1 err1 ≡ failures_of_each out err → err2 ≡ err1 → FewFailed 2 err err2
  none_few same e = let m = none_moved out err out1 err1 same in let s = m.sum in record {
    moved = m.second;
    bound = omega (arith, s);
    count = subst (λ x. x.failures % 2 ^ 64 ≡ (err.failures + m.second) % 2 ^ 64) (sym e) m.second_count;
  }

  one_few : HasOneMore (failures_of_each out err) (failures_of_each out1 err1) → err2 ≡ err1 → FewFailed 3 err err2
  one_few one e = let m = one_moved out err out1 err1 one in let s = m.sum in record {
    moved = m.second;
    bound = omega (arith, s);
    count = subst (λ x. x.failures % 2 ^ 64 ≡ (err.failures + m.second) % 2 ^ 64) (sym e) m.second_count;
  }

  stopped_few : failures_of_each out1 err1 ≡ failures_of_each out err → HasOneMore (failures_of_each out1 err1) (failures_of_each out2 err2)
      → FewFailed 3 err err2
  stopped_few same once =
      let m = none_moved out err out1 err1 same in let s = m.sum in
      let n = one_moved out1 err1 out2 err2 once in let d = n.sum in record {
        moved = m.second + n.second;
        bound = omega (arith, s, d);
        count = more_failures err.failures err1.failures err2.failures m.second n.second m.second_count n.second_count
            ∙ ap (λ k. k % 2 ^ 64) (let q : err.failures + m.second + n.second ≡ err.failures + (m.second + n.second) = omega arith in q);
      }

  -- the second after a failed read
  second_unread : (asked : Request) → OutsFail (Err ReadFailed) asked out out1 err err1 → err2 ≡ err1 → FewFailed 2 err err2
  second_unread (request.Report command) same e = none_few same e
  second_unread (request.Explain limit) (first, same) e = record {
    moved = 0;
    bound = omega arith;
    count = subst (λ x. x.failures % 2 ^ 64 ≡ (err.failures + 0) % 2 ^ 64) (sym e) (same_count err.failures err1.failures same);
  }
  second_unread (request.Map name) same e = none_few same e

  -- before the line of the error
  pub second_few : (asked : Request) (o r : Result Verdict RunError) → OutsFail o asked out out1 err err1
      → IsHanded o r out1 out2 err1 err2 → OnErr r (FewFailed (second_most (exit_status r)) err err2)
  second_few asked (Ok v) (Ok w) same h = tt
  second_few asked (Ok v) (Err e) same h = rw h.0 (stopped_few same h.1.once)
  second_few asked (Err (Refused x)) r same h = rw h.0 (none_few same h.2)
  second_few asked (Err ReadFailed) r same h = rw h.0 (second_unread asked same h.2)
  second_few asked (Err OutOfMemory) r same h = rw h.0 (none_few same h.2)
  second_few asked (Err WriteFailed) r one h = rw h.0 (one_few one h.2)

  -- and with it
  pub second_at_error : (r : Result Verdict RunError) → OnErr r (FewFailed (second_most (exit_status r)) err err2)
      → IfErr r (λ error. EndsWithLine (error_line error) 2 err2 err3) → 3 ≤ exit_status r → IsHandedOnOrFailed (second_most (exit_status r)) err err3
  second_at_error (Ok w) few line k = let q = at_verdict w in absurd (omega (arith, q, k))
  second_at_error (Err e) few line k = few_then (second_most (exit_status (Err e))) err err2 err3 few line.tried

  -- where the run put nothing to it
  pub line_at_error : (r : Result Verdict RunError) → OnErr r (FewFailed (second_most (exit_status r)) err err2)
      → IfErr r (λ error. EndsWithLine (error_line error) 2 err2 err3) → Keeps err.bytes err2.bytes → 3 ≤ exit_status r
      → (error : RunError) × (exit_status (Err error) ≡ exit_status r) × EndsWithLine (error_line error) (second_most (exit_status r)) err err3
  line_at_error (Ok w) few line kept k = let q = at_verdict w in absurd (omega (arith, q, k))
  line_at_error (Err e) few line kept k = (e, refl, few_then_line (error_line e) (second_most (exit_status (Err e))) err err2 err3 kept few line)

  -- at a verdict nothing is put after that
  pub quiet_at_verdict : (r : Result Verdict RunError) → OnOk r (err3 ≡ err2) → Keeps err.bytes err2.bytes → exit_status r ≤ 1 → Keeps err.bytes err3.bytes
  quiet_at_verdict (Ok w) quiet kept k = subst (λ x. Keeps err.bytes x.bytes) (sym quiet) kept
  quiet_at_verdict (Err (Refused x)) quiet kept k = absurd (omega (arith, k))
  quiet_at_verdict (Err ReadFailed) quiet kept k = absurd (omega (arith, k))
  quiet_at_verdict (Err OutOfMemory) quiet kept k = absurd (omega (arith, k))
  quiet_at_verdict (Err WriteFailed) quiet kept k = absurd (omega (arith, k))

  -- handing on keeps what was put to it
  pub second_kept : (o r : Result Verdict RunError) → IsHanded o r out1 out2 err1 err2 → err1 ≡ err → Keeps err.bytes err2.bytes
  second_kept (Ok v) (Ok w) h e = subst (λ x. Keeps x.bytes err2.bytes) e h.2.kept
  second_kept (Ok v) (Err x) h e = subst (λ x. Keeps x.bytes err2.bytes) e h.1.second_kept
  second_kept (Err (Refused x)) r h e = subst (λ x. Keeps err.bytes x.bytes) (sym (h.2 ∙ e)) (keeps_same err.bytes)
  second_kept (Err ReadFailed) r h e = subst (λ x. Keeps err.bytes x.bytes) (sym (h.2 ∙ e)) (keeps_same err.bytes)
  second_kept (Err OutOfMemory) r h e = subst (λ x. Keeps err.bytes x.bytes) (sym (h.2 ∙ e)) (keeps_same err.bytes)
  second_kept (Err WriteFailed) r h e = subst (λ x. Keeps err.bytes x.bytes) (sym (h.2 ∙ e)) (keeps_same err.bytes)

  run_failed : HasOneMore (failures_of_each out err) (failures_of_each out1 err1) → TriesToFlush out1 out2 → IsHandedOnOrFailed 2 err1 err3
      → OutHasFailed out out2 ⊎ OutHasFailed err err3
  run_failed (inl (first, same)) f t = inl (after_one 1 out out1 out2 first (omega arith) f.once)
  run_failed (inr (same, inl (second, none))) f t = inr (after_one 2 err err1 err3 second (omega arith) t)
  run_failed (inr (same, inr (also, none))) f t = absurd none

  flush_failed : out1.failures ≡ out.failures → err1.failures ≡ err.failures → HasOneMore (failures_of_each out1 err1) (failures_of_each out2 err2)
      → IsHandedOnOrFailed 2 err2 err3 → OutHasFailed out out2 ⊎ OutHasFailed err err3
  flush_failed e f (inl (first, same)) t = inl (not_same out.failures out2.failures (first ∙ ap one_more e))
  flush_failed e f (inr (same, inl (second, none))) t = inr (after_one 2 err err2 err3 (second ∙ ap one_more f) (omega arith) t)
  flush_failed e f (inr (same, inr (also, none))) t = absurd none

  -- one of them failed
  pub failed_at_6 : (asked : Request) (o r : Result Verdict RunError) → OutsFail o asked out out1 err err1
      → IsHanded o r out1 out2 err1 err2 → OnErr r (IsHandedOnOrFailed 2 err2 err3) → exit_status r ≡ 6 → OutHasFailed out out2 ⊎ OutHasFailed err err3
  failed_at_6 asked (Ok v) (Ok w) same h t k = let q = at_verdict w in absurd (omega arith)
  failed_at_6 asked (Ok v) (Err e) same h t k =
      let e : out1.failures ≡ out.failures = cc in
      let f : err1.failures ≡ err.failures = cc in
      flush_failed e f h.1.once t
  failed_at_6 asked (Err (Refused x)) r same h t k = let m : 6 ≤ exit_status r = omega (arith, k) in let q : 6 ≤ 3 = rw h.0 at m in absurd (omega arith)
  failed_at_6 asked (Err ReadFailed) r same h t k = let m : 6 ≤ exit_status r = omega (arith, k) in let q : 6 ≤ 4 = rw h.0 at m in absurd (omega arith)
  failed_at_6 asked (Err OutOfMemory) r same h t k = let m : 6 ≤ exit_status r = omega (arith, k) in let q : 6 ≤ 5 = rw h.0 at m in absurd (omega arith)
  failed_at_6 asked (Err WriteFailed) r one h t k =
      let u : IsHandedOnOrFailed 2 err2 err3 = rw h.0 at t in
      run_failed one h.1 (subst (λ x. IsHandedOnOrFailed 2 x err3) h.2 u)

-- ---- the line of an error

flushed_once : {C Z : Type 0} (r : Result C Z) (old new : OutState) → Flushes r old new → IsHandedOnOrFailed 1 old new
flushed_once (Ok x) old new f = record { failed = 0; bound = omega arith; count = same_count old.failures new.failures f.count; all = λ e. f.empty }
flushed_once (Err x) old new f = record {
  failed = 1;
  bound = omega arith;
  count = more_count old.failures new.failures f.count;
  all =
      λ e. absurd (omega arith);
}

-- a flush after a line
line_after : {C Z : Type 0} (t : Result C Z) (line shown cut : List ℕ) (k : ℕ) (a c d : OutState) → k ≤ 1 → shown ++ cut ≡ line
    → Appends a.bytes c.bytes shown → c.failures % 2 ^ 64 ≡ (a.failures + k) % 2 ^ 64 → (k ≡ 0 → cut ≡ []) → Flushes t c d → EndsWithLine line 2 a d
line_after t line shown cut k a c d room of_line added count uncut f = let o = flushed_once t c d f in record {
  tried = record {
    failed = k + o.failed;
    bound = let b = o.bound in omega (arith, b, room);
    count = more_failures a.failures c.failures d.failures k o.failed count o.count
        ∙ ap (λ n. n % 2 ^ 64) (let q : a.failures + k + o.failed ≡ a.failures + (k + o.failed) = omega arith in q);
    all = λ e. o.all (omega (arith, e));
  };
  shown = shown;
  cut = cut;
  of_line = of_line;
  added = appends_kept a.bytes c.bytes d.bytes shown added f.kept;
  uncut = λ e. uncut (omega (arith, e));
}

-- of the two calls before a flush one did not fail
pub line_tried : {A B C X Y Z : Type 0} (r : Result A X) (q : Result B Y) (t : Result C Z) (line : List ℕ) (a b c d : OutState)
    → (is_ok r ≡ true) ⊎ (is_ok q ≡ true) → Flushes r a b → Puts q b c line → Flushes t c d → EndsWithLine line 2 a d
line_tried (Ok x) (Ok y) t line a b c d h m n f = line_after t line line [] 0 a c d (omega arith) (append-nil line)
    (kept_appends a.bytes b.bytes c.bytes line m.kept n.held) (same_count a.failures c.failures (n.count ∙ m.count)) (λ e. refl) f
line_tried (Ok x) (Err y) t line a b c d h m n f = line_after t line n.held.part n.held.rest 1 a c d (omega arith) n.held.whole
    (kept_appends a.bytes b.bytes c.bytes n.held.part m.kept n.held.added) (more_count a.failures c.failures (n.count ∙ ap one_more m.count))
    (λ e. absurd (omega (arith, e))) f
line_tried (Err x) (Ok y) t line a b c d h m n f = line_after t line line [] 1 a c d (omega arith) (append-nil line)
    (kept_appends a.bytes b.bytes c.bytes line m.kept n.held) (more_count a.failures c.failures (n.count ∙ m.count)) (λ e. refl) f
line_tried (Err x) (Err y) t line a b c d (inl e) m n f = cc
line_tried (Err x) (Err y) t line a b c d (inr e) m n f = cc

-- both failed
pub line_untried : {A B X Y : Type 0} (r : Result A X) (q : Result B Y) (line : List ℕ) (a b c : OutState)
    → is_ok r ≡ false → is_ok q ≡ false → Flushes r a b → Puts q b c line → EndsWithLine line 2 a c
line_untried (Ok x) q line a b c g h m n = cc
line_untried (Err x) (Ok y) line a b c g h m n = cc
line_untried (Err x) (Err y) line a b c g h m n = record {
  tried = record {
    failed = 2;
    bound = omega arith;
    count = more_failures a.failures b.failures c.failures 1 1 (more_count a.failures b.failures m.count) (more_count b.failures c.failures n.count)
        ∙ ap (λ k. k % 2 ^ 64) (let q : a.failures + 1 + 1 ≡ a.failures + 2 = omega arith in q);
    all = λ e. absurd (omega (arith, e));
  };
  shown = n.held.part;
  cut = n.held.rest;
  of_line = n.held.whole;
  added = kept_appends a.bytes b.bytes c.bytes n.held.part m.kept n.held.added;
  uncut = λ e. absurd (omega (arith, e));
}

-- the attempt of it alone
pub tried_of : (r : Result Verdict RunError) (a b : OutState) → IfErr r (λ error. EndsWithLine (error_line error) 2 a b) → OnErr r (IsHandedOnOrFailed 2 a b)
tried_of (Ok v) a b line = tt
tried_of (Err e) a b line = line.tried

-- a mend is handed on as a run is, but at a refusal
pub handed_as_a_run : (answer r : Result Verdict RunError) (out out' err err' : OutState) → ((why : Refusal) → answer ≡ Err (Refused why) → ⊥)
    → IsHanded answer r out out' err err' → IsMendHanded answer r out out' err err'
handed_as_a_run (Ok v) r out out' err err' not h = h
handed_as_a_run (Err (Refused why)) r out out' err err' not h = absurd (not why refl)
handed_as_a_run (Err ReadFailed) r out out' err err' not h = h
handed_as_a_run (Err OutOfMemory) r out out' err err' not h = h
handed_as_a_run (Err WriteFailed) r out out' err err' not h = h
