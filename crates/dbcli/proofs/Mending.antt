-- A mend over a source over a source, and one after a question that changed nothing that contracts see.
use Rattle.std.proofs.Common.{◌≡◌, ℕ, List, [], ◌∷◌, Result, ap, subst}
use Rattle.dbformat.specs.File.{geometry}
use Rattle.dbformat.specs.Log.{IsRunLog, IsSomeRunLog}
use Rattle.dbformat.specs.declared.Verdict.{Verdict}
use Rattle.dbsource.specs.Changes.{Change, patched}
use Rattle.dbsource.specs.Errors.{is_read_failed}
use Rattle.dbsource.specs.Failures.{failures_after}
use Rattle.dbsource.specs.Snapshots.{HasRead}
use Rattle.dbsource.specs.Sources.{SourceState}
use Rattle.dbsource.specs.declared.error.RunError.{RunError}
use Rattle.dbsource.specs.declared.out.Out.{Ghosts as OutWords}
use Rattle.dbsource.specs.declared.source.Source.{Ghosts as SourceWords}
use Rattle.dbreport.specs.Runs.{AsksHeaderAlone}
use Rattle.dbmend.specs.Counts.{IsCountOf}
use Rattle.dbmend.specs.Deeds.{Deed, Does, DoesAll, HasTried, looked, tried}
use Rattle.dbmend.specs.Mended.{HasMended}
use Rattle.dbmend.specs.declared.count.Count.{Count}

module _ {S W : Type 0} (inner : SourceWords S) (below : W → S) where
  -- one that answers what the source below it answers
  abbrev pub over : SourceWords W
  over = record { held = λ w. inner.held (below w); step = inner.step; lengths = inner.lengths }

  -- a deed is one of the source below
  does_below : (d : Deed) (s t : W) → Does over d s t → Does inner d (below s) (below t)
  does_below (tried changes r) s t h = record { read = h.read; reads = h.reads; asked = h.asked }
  does_below (looked a) s t h = record { told = h.told; moved = h.moved; fits = h.fits; reads = h.reads; few = h.few }

  -- and so are some
  does_all_below : (deeds : List Deed) (s t : W) → DoesAll over deeds s t → DoesAll inner deeds (below s) (below t)
  does_all_below [] s t h = ap below h
  does_all_below (d ∷ ds) s t h = (below h.0, does_below d s h.0 h.1, does_all_below ds h.0 t h.2)

  -- so a mend is one of the source below
  pub mended_below : {O : Type 0} (out : OutWords O) (limit : ℕ) (r : Result Verdict RunError) (s t : W) (o o' : O)
      → HasMended over out limit r (s, o) (t, o') → HasMended inner out limit r (below s, o) (below t, o')
  mended_below out limit r s t o o' h = record {
    first = h.first;
    deeds = h.deeds;
    done = does_all_below (tried [] h.first ∷ h.deeds) s t h.done;
    runs = h.runs;
    fixes = h.fixes;
    steps = h.steps;
    few = h.few;
    written = h.written;
    answer = h.answer;
    reads = h.reads;
    writes = h.writes;
  }

module _ {S : Type 0} (source : SourceWords S) where
  -- a run began with the source as it was
  tried_from : (changes : List Change) (r : Result Count RunError) (s s' t : S) → source.held s' ≡ source.held s
      → HasTried source changes r s' t → HasTried source changes r s t
  tried_from changes r s s' t same h = record {
    read = subst (λ x. HasRead source.step source.lengths IsSomeRunLog
        (λ file ranges. IsRunLog (geometry (patched changes file)) ranges × IsCountOf (patched changes file) r) x (source.held t)) same h.read;
    reads = subst (λ (x : SourceState). (source.held t).failures ≡ failures_after is_read_failed r x.failures) same h.reads;
    asked = subst (λ (x : SourceState). AsksHeaderAlone source.step r x.trail (source.held t).trail) same h.asked;
  }

  pub mended_from : {O : Type 0} (out : OutWords O) (limit : ℕ) (r : Result Verdict RunError) (s s' t : S) (o o' : O)
      → source.held s' ≡ source.held s → HasMended source out limit r (s', o) (t, o') → HasMended source out limit r (s, o) (t, o')
  mended_from out limit r s s' t o o' same h = record {
    first = h.first;
    deeds = h.deeds;
    done = (h.done.0, tried_from [] h.first s s' h.done.0 same h.done.1, h.done.2);
    runs = h.runs;
    fixes = h.fixes;
    steps = h.steps;
    few = h.few;
    written = h.written;
    answer = h.answer;
    reads = subst (λ (x : SourceState). (source.held t).failures ≡ failures_after is_read_failed r x.failures) same h.reads;
    writes = h.writes;
  }
