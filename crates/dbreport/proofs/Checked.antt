-- What a check has written at each of its ends, and what it found, by the faults of the file.
use Rattle.dbreport.proofs.Common.{◌≡◌, ◌∙◌, ℕ, false, List, None, Result, Ok, Err, ap, inl, inr, subst, sym, IfOk, Moves, MovesBySome, Reference, faults}
use Rattle.dbreport.proofs.Common.{report, Survey, refusal, Check, Verdict, OutState, Puts, Writes, RunError, WriteFailed, ReceivesFaults, run_notices}
use Rattle.dbreport.proofs.Common.{ShowsFault, Leaves, LeavesCheck, end_text, found_verdict, CheckReporter}
use Rattle.dbscan.proofs.FaultsReceived.{faults_received_by}
use Rattle.dbreport.proofs.RunAnswers.{if_ok}
use Rattle.dbreport.proofs.RunReports.{check_is}
use Rattle.dbreport.proofs.Checks.{check_writes, check_finds, check_begins}

module _ {O : Type 0} (held : O → OutState) (file : List ℕ) (V : List Reference) (survey : Survey file V) where
  -- it stopped within what is reported
  check_stopped : (e : RunError) (s t : CheckReporter O) → MovesBySome (ReceivesFaults (ShowsFault held)) s (run_notices file V) t
      → LeavesCheck held file V (Err e) s t
  check_stopped e s t k fresh none no_more =
      (check_begins held (faults file V) s t fresh none no_more (faults_received_by (ShowsFault held) {A = Verdict} file V survey (Err e) s t k), tt)

  -- all was reported, and then the last line was put, or a beginning of it
  module _ (s t u : CheckReporter O) (open_last : t.has_failed ≡ false) (reported : Moves (ReceivesFaults (ShowsFault held)) s (run_notices file V) t) where
    all : Moves (ShowsFault held) s (faults file V) t
    all = faults_received_by (ShowsFault held) {A = Unit {0}} file V survey (Ok tt) s t reported

    pub check_cut : {X : Type 0} (x : X) → Puts {A = Verdict} (Err x) (held t.out.now) (held u.out.now) (end_text t.shown t.more)
        → LeavesCheck held file V (Err WriteFailed) s u
    check_cut x puts fresh none no_more =
        ((check_writes held (faults file V) s t fresh none no_more open_last all (Err x) (held u.out.now) puts).held, tt)

    pub check_ended : {X : Type 0} (v : Verdict) → Puts {E = X} (Ok v) (held t.out.now) (held u.out.now) (end_text t.shown t.more) → v
        ≡ found_verdict t.shown t.more → LeavesCheck held file V (Ok v) s u
    check_ended v puts found fresh none no_more = (
      (check_writes held (faults file V) s t fresh none no_more open_last all (Ok v) (held u.out.now) puts).held,
      found ∙ check_finds held (faults file V) s t fresh none no_more open_last all,
    )

  check_left : (r : Result Verdict RunError) (s t : CheckReporter O) → Leaves (ReceivesFaults (ShowsFault held)) (LeavesCheck held) file V r s t
      → LeavesCheck held file V r s t
  check_left r s t (inl h) = h
  check_left r s t (inr (e, is, k)) = subst (λ (r : Result Verdict RunError). LeavesCheck held file V r s t) (sym is) (check_stopped e s t k)

  -- the report of a check, on the Out that it was given
  pub check_reported : (r : Result Verdict RunError) (s t : CheckReporter O) (out after : O) (limit : ℕ) → s.out.now ≡ out → s.has_failed ≡ false
      → s.limit ≡ limit → s.shown ≡ 0
      → s.more ≡ 0 → after ≡ t.out.now → refusal file ≡ None
      → Leaves (ReceivesFaults (ShowsFault held)) (LeavesCheck held) file V r s t
      → Writes r (held out).bytes (held after).bytes (report (Check limit) file V).out × IfOk r (λ v. (report (Check limit) file V).answer ≡ Ok v)
  check_reported r s t out after limit same fresh most none no_more end read h =
      let k = check_left r s t h fresh none no_more in
      rw (← same, ← most, end, check_is s.limit file V read) (k.0, if_ok r (λ v e. ap Ok (sym e)) k.1)
