-- What a run with changes read, by what it read of a source with changes over a reference.
use Rattle.std.proofs.Common.{◌≡◌, List, Result, Ok, Err, subst}
use Rattle.std.specs.Prelude.{MatchResult}
use Rattle.dbformat.specs.File.{geometry}
use Rattle.dbformat.specs.Log.{IsRunLog, IsSomeRunLog}
use Rattle.dbsource.specs.Changes.{Change}
use Rattle.dbsource.specs.Patched.{ChangedLength, ChangedStep, changed}
use Rattle.dbsource.specs.declared.error.RunError.{RunError}
use Rattle.dbsource.specs.declared.error.RunError.TheVariants.{OutOfMemory, ReadFailed, Refused, WriteFailed}
use Rattle.dbsource.specs.declared.source.Source.{Ghosts as SourceWords}
use Rattle.dbsource.proofs.PatchedRuns.{patched_file, ranges_below}
use Rattle.dbreport.specs.Runs.{AsksHeaderAlone}
use Rattle.dbmend.specs.Counts.{IsCountOf}
use Rattle.dbmend.specs.Deeds.{HasCounted, HasTried}
use Rattle.dbmend.specs.LentSources.{LentLength, LentStep, lent}
use Rattle.dbmend.specs.declared.count.Count.{Count}
use Rattle.dbmend.specs.declared.lent.Lent.{Lent}
use Rattle.dbmend.proofs.LentRuns.{lent_ranges, lent_read}

module _ {S : Type 0} (inner : SourceWords S) where
  -- the source by a reference, with changes over it
  abbrev pub over_words : SourceWords (Lent S)
  over_words = record {
    held = λ s. changed s.changes.now (lent s.source.ghost_name (inner.held s.source.now));
    step = ChangedStep (LentStep inner.step);
    lengths = ChangedLength (LentLength inner.lengths);
  }

  module _ (s t : Lent S) where
    asked_below : (r : Result Count RunError) → AsksHeaderAlone over_words.step r (over_words.held s).trail (over_words.held t).trail
        → AsksHeaderAlone inner.step r (inner.held s.source.now).trail (inner.held t.source.now).trail
    asked_below (Ok c) h = tt
    asked_below (Err (Refused r)) h =
        lent_ranges s.source.ghost_name t.source.ghost_name (inner.held s.source.now).trail (inner.held t.source.now).trail
        (ranges_below s.changes.now t.changes.now (inner.held s.source.now).bytes (inner.held t.source.now).bytes _ _ h)
    asked_below (Err ReadFailed) h = tt
    asked_below (Err OutOfMemory) h = tt
    asked_below (Err WriteFailed) h = tt

    -- the reference stays, and the run was one of the source with the changes
    pub tried_below : (r : Result Count RunError) → HasCounted over_words r s t
        → (t.source.ghost_name ≡ s.source.ghost_name) × HasTried inner s.changes.now r s.source.now t.source.now
    tried_below r h =
        let below = patched_file (LentStep inner.step) (LentLength inner.lengths) IsSomeRunLog
        (λ file ranges. IsRunLog (geometry file) ranges × IsCountOf file r)
        (lent s.source.ghost_name (inner.held s.source.now)) (lent t.source.ghost_name (inner.held t.source.now)) s.changes.now t.changes.now
        (λ ranges p. p) h.read in
        let k = lent_read inner.step inner.lengths IsSomeRunLog _ s.source.ghost_name t.source.ghost_name (inner.held s.source.now)
        (inner.held t.source.now) below in
        (k.0, record { read = k.1; reads = h.reads; asked = asked_below r h.asked })

  -- so it is by each answer of a call
  pub tried_over : {F : Type 0} (count : F → Count) (r : Result F RunError) (s t : Lent S) (changes : List Change) (old : S) → s.changes.now ≡ changes
      → s.source.now ≡ old → MatchResult r (λ f. HasCounted over_words (Ok (count f)) s t) (λ e. HasCounted over_words (Err e) s t)
      → (t.source.ghost_name ≡ s.source.ghost_name)
      × MatchResult r (λ f. HasTried inner changes (Ok (count f)) old t.source.now) (λ e. HasTried inner changes (Err e) old t.source.now)
  tried_over count (Ok f) s t changes old c o h = let k = tried_below s t (Ok (count f)) h in (
    k.0,
    subst (λ x. HasTried inner changes (Ok (count f)) x t.source.now) o
        (subst (λ x. HasTried inner x (Ok (count f)) s.source.now t.source.now) c k.1),
  )
  tried_over count (Err e) s t changes old c o h = let k = tried_below s t (Err e) h in (
    k.0,
    subst (λ x. HasTried inner changes (Err e) x t.source.now) o (subst (λ x. HasTried inner x (Err e) s.source.now t.source.now) c k.1),
  )
