-- What the counter has counted of a file.
use Rattle.std.proofs.Common.{◌≡◌, ◌∙◌, ◌+◌, ℕ, List, [], ◌∷◌, length, Result, Ok, ap, arith, inl, inr, subst, sym}
use Rattle.std.specs.Prelude.{IfOk}
use Rattle.dbsurvey.specs.Moves.{Moves}
use Rattle.dbformat.specs.Lines.{counted}
use Rattle.dbformat.specs.Reference.{Reference}
use Rattle.dbformat.specs.Report.{faults, verdict}
use Rattle.dbformat.specs.Survey.{Survey}
use Rattle.dbformat.specs.declared.Fault.{Fault}
use Rattle.dbformat.specs.declared.Verdict.{Verdict}
use Rattle.dbsource.specs.declared.error.RunError.{RunError}
use Rattle.dbscan.specs.Finishes.{Leaves}
use Rattle.dbscan.specs.Notices.{ReceivesFaults, run_notices}
use Rattle.dbscan.proofs.FaultsReceived.{faults_received_by}
use Rattle.dbmend.specs.Counts.{Counts, LeavesCount}
use Rattle.dbmend.specs.declared.counter.Counter.{Counter}

-- a fault is one more
abbrev pub CountsFault : Counter → Fault → Counter → Type 0
CountsFault s f t = Counts s 1 t

counted_more : (fs : List Fault) (n : ℕ) (s t : Counter) → s.faults ≡ counted n → Moves CountsFault s fs t → t.faults ≡ counted (n + length fs)
counted_more [] n s t e m = ap (λ (x : Counter). x.faults) (sym m) ∙ e ∙ ap counted (omega arith)
counted_more (f ∷ fs) n s t e m =
    let one : m.0.faults ≡ counted (s.faults + 1) = m.1 in
    let here : m.0.faults ≡ counted (n + 1) = omega (arith, e, one) in
    counted_more fs (n + 1) m.0 t here m.2 ∙ ap counted (omega arith)

module _ (file : List ℕ) (V : List Reference) (survey : Survey file V) (s t : Counter) where
  pub all_counted : Moves (ReceivesFaults CountsFault) s (run_notices file V) t → s.faults ≡ 0 → t.faults ≡ counted (length (faults file V))
  all_counted m none =
      let reported = faults_received_by CountsFault {A = Unit {0}} file V survey (Ok tt) s t m in
      let e : s.faults ≡ counted 0 = none in
      counted_more (faults file V) 0 s t e reported ∙ ap counted (omega arith)

  -- a run that came to its end, or not
  pub count_left : (r : Result Verdict RunError) → Leaves (ReceivesFaults CountsFault) LeavesCount file V r s t → s.faults ≡ 0
      → IfOk r (λ v. (t.faults ≡ counted (length (faults file V))) × (v ≡ verdict (faults file V)))
  count_left r (inl h) none = h none
  count_left r (inr (e, is, k)) none =
      subst (λ (r : Result Verdict RunError). IfOk r (λ v. (t.faults ≡ counted (length (faults file V))) × (v ≡ verdict (faults file V)))) (sym is) tt
