-- The end of a report for which nothing is read.
use Rattle.dbscan.proofs.Common.{◌≡◌, ℕ, List, Result, Ok, Err, inr, refl, IfErr, Reference, is_write_failed, RunError, WriteFailed, IsReadOrWrite, SinkAfter}
use Rattle.dbscan.proofs.Common.{SinkState, DeskView, shape_of, IsUnmarked, Notice, Verdict, HasFinished, HasReceived}
use Rattle.dbsource.specs.declared.source.Source.{Ghosts as SourceWords}
use Rattle.dbscan.proofs.MapLogs.{asks_nothing, reads_none}

of_write : {A : Type 0} (r : Result A RunError) → IfErr r (λ e. e ≡ WriteFailed) → IfErr r IsReadOrWrite
of_write (Ok a) h = tt
of_write (Err e) h = inr h

pub finished : {S K : Type 0} (source : SourceWords S) (receives : K → Notice → K → Type 0) (held : K → SinkState)
    (leaves : List ℕ → List Reference → Result Verdict RunError → K → K → Type 0)
    (r : Result Verdict RunError) (d : DeskView) (s : S) (old new : K) → IfErr r (λ e. e ≡ WriteFailed) → SinkAfter is_write_failed r (held old) (held new)
    → ((file : List ℕ) (V : List Reference) (first : K) → HasReceived receives d file V first old → leaves file V r first new)
    → HasFinished source receives held leaves r d d (s, old) (s, new)
finished source receives held leaves r d s old new only writes left = record {
  asks = asks_nothing source.step _ r (source.held s) only (reads_none (shape_of d).page_size (IsUnmarked d.marks) 1).reads
      (λ file V first received. left file V first received);
  keeps = record { header = refl; roots = refl; writes = writes; only = of_write r only };
}
