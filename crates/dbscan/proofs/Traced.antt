-- A run over a desk: all is received, and then the report is ended; or an error stops it before.
use Rattle.dbscan.proofs.Common.{◌≡◌, ℕ, List, length, None, inl, inr, Result, Ok, Err, refl, sym, ap, subst, ◌∙◌, refusal_of, geometry_of, IsPageLog}
use Rattle.dbscan.proofs.Common.{Reference, Survey, Geometry, Step, is_read_failed, failures_after, HeaderBytes, IsHeaderOf, Asks, SourceState, RunError}
use Rattle.dbscan.proofs.Common.{SinkState, DeskView, shape_of, IsUnmarked, ReadsMarked, ReadsRising, Notice, HeadedStep, asks_then, asks_weaker, KeepsHeader}
use Rattle.dbscan.proofs.Common.{Verdict, read_after, HasReceived, HasReported, Leaves, IsScanned}
use Rattle.dbsource.specs.Errors.{is_out_of_memory}
use Rattle.dbsource.specs.Headed.{headed}
use Rattle.dbsource.specs.declared.source.Source.{Ghosts as SourceWords}
use Rattle.dbscan.proofs.MapLogs.{looks_log}

module _ {K : Type 0} (receives : K → Notice → K → Type 0) (leaves : List ℕ → List Reference → Result Verdict RunError → K → K → Type 0) (step : Step)
    (before walked : DeskView) (first mid : K) where
  -- what a run asks for, and what it leaves
  abbrev AsksToLeave : Result Verdict RunError → K → SourceState → SourceState → Type 0
  AsksToLeave r t old new = Asks step (IsPageLog (shape_of before)) (λ file. IsHeaderOf before.header file → (V : List Reference) → Survey file V
      → Leaves receives leaves file V r first t) is_read_failed r old new

  -- and what its scan does
  abbrev AsksToScan : Result (Unit {0}) RunError → SourceState → SourceState → Type 0
  AsksToScan r old now = Asks step (ReadsMarked (shape_of before) walked.marks) (λ file. IsHeaderOf before.header file → (V : List Reference) → Survey file V
      → IsScanned receives file V r walked.marks walked.roots.rows first mid) is_read_failed r old now

  pub scan_stopped : (e : RunError) {old now : SourceState} → AsksToScan (Err e) old now → AsksToLeave (Err e) mid old now
  scan_stopped e asks = asks_weaker _ _ (Err e) (λ n. refl) asks (λ log r. r.pages) (λ file done is V s. inr (e, refl, (done is V s).reported))

  pub scan_finished : (last : K) (r : Result Verdict RunError) {old now new : SourceState} → walked.header ≡ before.header → AsksToScan (Ok tt) old now
      → Asks step (ReadsRising (shape_of walked).page_size (IsUnmarked walked.marks))
      (λ file. (V : List Reference) → (f : K) → HasReceived receives walked file V f mid → leaves file V r f last) is_read_failed r now new
      → AsksToLeave r last old new
  scan_finished last r same scans ends =
      asks_then (ReadsMarked (shape_of before) walked.marks) (ReadsRising (shape_of walked).page_size (IsUnmarked walked.marks)) _ _ r
      (λ n. refl) (λ n. refl) scans ends
      (λ l m a b. looks_log (shape_of before) walked.marks l m a (subst (λ (s : Geometry). ReadsRising s.page_size (IsUnmarked walked.marks) m)
      (ap (λ (h : HeaderBytes). geometry_of h.bytes h.file_len) same) b))
      (λ file done ended is V s.
      let k = done is V s in
      inl (ended V first (record {
        desk = record { header = subst (λ (h : HeaderBytes). IsHeaderOf h file) (sym same) is; survey = s; marks = k.marked; rows = k.listed };
        received = k.reported;
      })))

-- with a header before the source, on a desk that is fresh again
pub run_reported : {S K : Type 0} {name name' : ℕ} {head' : List ℕ} (source : SourceWords S) (held : K → SinkState)
    (leaves : List ℕ → List Reference → Result Verdict RunError → K → K → Type 0) (r : Result Verdict RunError) (before fresh after : DeskView)
    (own : HeaderBytes) {first : S} (old new : S × K)
    → fresh.header ≡ before.header → fresh.roots.refusals ≡ before.roots.refusals → own ≡ fresh.header → first ≡ old.0
    → (refusal_of fresh.header.bytes fresh.header.file_len ≡ None) × (length fresh.header.bytes ≡ 100)
    → Asks (HeadedStep source.step) (IsPageLog (shape_of fresh)) (λ file. IsHeaderOf fresh.header file → (V : List Reference) → Survey file V
    → leaves file V r old.1 new.1) is_read_failed r (headed name own.bytes (source.held first)) (headed name' head' (source.held new.0))
    → KeepsHeader r fresh after (held old.1) (held new.1) → HasReported source held leaves r before after old new
run_reported source held leaves r before fresh after own old new header refusals same begun accepted asks keeps = record {
  read = rw (← header) (read_after source.step _ _ fresh.header _ _ (source.held old.0) (source.held new.0) accepted.0 accepted.1
      (rw (same, begun) at asks.log));
  reads = asks.count ∙ ap (λ s. failures_after is_read_failed r (source.held s).failures) begun;
  keeps = record {
    desk = record {
      header = keeps.desk.header ∙ header;
      memory = keeps.desk.memory ∙ ap (failures_after is_out_of_memory r) refusals;
      only = keeps.desk.only;
    };
    writes = keeps.writes;
  };
}
