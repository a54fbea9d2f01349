-- What a line leaves of a source, by what it left of a source with changes over it.
use Rattle.std.proofs.Common.{◌≡◌, ◌∙◌, ℕ, List, [], ◌∷◌, ap, refl, sym, subst, inl, inr, length, Option, Some, None}
use Rattle.std.specs.Prelude.{Err, IfSome, option_map, ◌⊎◌}
use Rattle.dbformat.specs.File.{geometry}
use Rattle.dbformat.specs.Log.{IsRunLog, IsSomeRunLog}
use Rattle.dbsource.specs.Changes.{Change, patched}
use Rattle.dbsource.specs.Failures.{one_more}
use Rattle.dbsource.specs.Headers.{IsOpenLog}
use Rattle.dbsource.specs.Patched.{Over, changed}
use Rattle.dbsource.specs.Snapshots.{HasRead}
use Rattle.dbsource.specs.Sources.{HasRanges, SourceState}
use Rattle.dbsource.specs.declared.error.OpenError.TheVariants as opening
use Rattle.dbsource.specs.declared.out.Out.{Ghosts as OutWords}
use Rattle.dbsource.specs.declared.source.Source.{Ghosts as SourceWords}
use Rattle.dbsource.proofs.Changed.{changed_length}
use Rattle.dbsource.proofs.PatchedRuns.{patched_file, ranges_below, same_changed}
use Rattle.dbcli.proofs.Mending.{mended_from}
use Rattle.dbcli.specs.Exit.{IsFinishOf, failures_at_4}
use Rattle.dbcli.specs.Finishing.{Finishes, IsInsideRun, IsMeasured, IsPastEnd, IsUnmeasured, RunsInside}
use Rattle.dbcli.specs.Tasks.{Does, DoesWith, changed_words}
use Rattle.dbcli.specs.declared.request.Request.{Request}
use Rattle.dbcli.specs.declared.task.Task.{Task}
use Rattle.dbcli.specs.declared.task.Task.TheVariants.{Run, Mend}

-- a source as contracts see it is its parts
pub same_state : (s t : SourceState) → s.bytes ≡ t.bytes → s.trail ≡ t.trail → s.failures ≡ t.failures → s ≡ t
same_state s t b r f = ap (λ x. record s { bytes = x }) b ∙ ap (λ x. record s { bytes = t.bytes; trail = x }) r
    ∙ ap (λ x. record s { bytes = t.bytes; trail = t.trail; failures = x }) f

-- the states below two that are one
unread_below : (a b : List Change) (s t : SourceState) → changed b t ≡ changed a s → t ≡ s
unread_below a b s t e =
    let m = same_changed b a t.bytes s.bytes t.trail s.trail (ap (λ (x : SourceState). x.trail) e) in
    same_state t s m.1 m.2 (ap (λ (x : SourceState). x.failures) e)

-- and below one after a failure
failed_below : (a b : List Change) (s t : SourceState) → changed b t ≡ (record (changed a s) { failures = one_more s.failures })
    → t ≡ (record s { failures = one_more s.failures })
failed_below a b s t e =
    let m = same_changed b a t.bytes s.bytes t.trail s.trail (ap (λ (x : SourceState). x.trail) e) in
    same_state t (record s { failures = one_more s.failures }) m.1 m.2 (ap (λ (x : SourceState). x.failures) e)

module _ {S O E : Type 0} (inner : SourceWords S) (out : OutWords O) (err : OutWords E) where
  -- the source with changes
  abbrev pub patched_words : SourceWords (Over S)
  patched_words = changed_words inner

  -- what finishing left of it is left of the source below it, with its changes
  finishes_below : (asked : Request) (status : ℕ) (s t : Over S) (o o' : O) (e e' : E) → Finishes patched_words out err [] asked status (s, o, e) (t, o', e')
      → Finishes inner out err s.changes asked status (s.source, o, e) (t.source, o', e')
  finishes_below asked status s t o o' e e' h = record {
    read = record {
      read = patched_file inner.step inner.lengths IsSomeRunLog
          (λ file ranges. IsRunLog (geometry file) ranges × IsFinishOf status asked file (out.held o) (out.held o') (err.held e) (err.held e'))
          (inner.held s.source) (inner.held t.source) s.changes t.changes (λ ranges p. p) h.read.read;
      refused = λ k. let r = h.read.refused k in (
        r.0,
        ranges_below s.changes t.changes (inner.held s.source).bytes (inner.held t.source).bytes (inner.held s.source).trail (inner.held t.source).trail r.1,
      );
    };
    known = h.known;
    failed = record { reads = h.failed.reads; writes = h.failed.writes };
    first = record { whole = h.first.whole; unwritten = h.first.unwritten; tried = h.first.tried };
    second = record { whole = h.second.whole; tried = h.second.tried; quiet = h.second.quiet; line = h.second.line };
  }

  -- and what is left by what a line asks for
  does_below : (asked : Task) (status : ℕ) (s t : Over S) (o o' : O) (e e' : E) → Does patched_words out err asked status (s, o, e) (t, o', e')
      → DoesWith inner out err s.changes asked status (s.source, o, e) (t.source, o', e')
  does_below (Run request) status s t o o' e e' h = finishes_below request status s t o o' e e' h
  does_below (Mend limit) status s t o o' e e' h = (t, refl, h)

  -- a length of it is one of the source below
  measured_below : (len : ℕ) (s : Over S) → IsMeasured patched_words out err len s → IsMeasured inner out err len s.source
  measured_below len s h = record {
    answered =
        let a = h.answered in
        let m = same_changed s.changes a.changes (inner.held s.source).bytes a.told (inner.held s.source).trail a.before a.was in
        subst (λ t. inner.lengths t len) (sym m.2) a.length;
    told = of_told (inner.held s.source).bytes h.told;
  }
    where
      of_told : (o : Option (List ℕ)) → IfSome (option_map (patched s.changes) o) (λ file. len ≡ length file) → IfSome o (λ file. len ≡ length file)
      of_told None k = tt
      of_told (Some file) k = k ∙ changed_length s.changes 0 file

  -- what a line left of it is left of the source below
  pub runs_below : (changes : List Change) (asked : Task) (status : ℕ) (s t : Over S) (o o' : O) (e e' : E)
      → RunsInside patched_words out err changes (Does patched_words out err asked status) status (s, o, e) (t, o', e')
      → RunsInside inner out err changes (DoesWith inner out err s.changes asked status) status (s.source, o, e) (t.source, o', e')
  runs_below [] asked status s t o o' e e' h = does_below asked status s t o o' e e' h
  runs_below (c ∷ changes) asked status s t o o' e e' (inl h) = inl (record {
    len = h.len;
    measured = measured_below h.len s h.measured;
    inside = h.inside;
    ran = does_below asked status s t o o' e e' h.ran;
  })
  runs_below (c ∷ changes) asked status s t o o' e e' (inr (inl h)) = inr (inl (record {
    len = h.len;
    measured = measured_below h.len s h.measured;
    past = h.past;
    unread = unread_below s.changes t.changes (inner.held s.source) (inner.held t.source) h.unread;
    at_3 = h.at_3;
    first = h.first;
    second = h.second;
  }))
  runs_below (c ∷ changes) asked status s t o o' e e' (inr (inr h)) = inr (inr (record {
    unread = failed_below s.changes t.changes (inner.held s.source) (inner.held t.source) h.unread;
    at_4 = h.at_4;
    first = h.first;
    second = h.second;
  }))

  -- what finishing left after the length was asked for, it left
  finishes_from : (asked : Request) (status : ℕ) (s s' t : S) (o o' : O) (e e' : E) → inner.held s' ≡ inner.held s
      → Finishes inner out err [] asked status (s', o, e) (t, o', e') → Finishes inner out err [] asked status (s, o, e) (t, o', e')
  finishes_from asked status s s' t o o' e e' same h = record {
    read = record {
      read = subst (λ x. HasRead inner.step inner.lengths IsSomeRunLog
          (λ file ranges. IsRunLog (geometry file) ranges × IsFinishOf status asked file (out.held o) (out.held o') (err.held e) (err.held e'))
          x (inner.held t))
          same h.read.read;
      refused = λ k. let r = h.read.refused k in (
        r.0,
        subst (λ (x : SourceState). HasRanges inner.step (IsOpenLog (Err (opening.Refused r.0))) x.trail (inner.held t).trail) same r.1,
      );
    };
    known = h.known;
    failed = record {
      reads = subst (λ (x : SourceState). (inner.held t).failures ≡ failures_at_4 status x.failures) same h.failed.reads;
      writes = h.failed.writes;
    };
    first = record { whole = h.first.whole; unwritten = h.first.unwritten; tried = h.first.tried };
    second = record { whole = h.second.whole; tried = h.second.tried; quiet = h.second.quiet; line = h.second.line };
  }

  -- and so what was asked for
  pub does_from : (asked : Task) (status : ℕ) (s s' t : S) (o o' : O) (e e' : E) → inner.held s' ≡ inner.held s
      → Does inner out err asked status (s', o, e) (t, o', e') → Does inner out err asked status (s, o, e) (t, o', e')
  does_from (Run request) status s s' t o o' e e' same h = finishes_from request status s s' t o o' e e' same h
  does_from (Mend limit) status s s' t o o' e e' same h = record {
    answer = h.answer;
    written = h.written;
    mended = mended_from inner out limit h.answer s s' t o h.written same h.mended;
    outcome = h.outcome;
    second = h.second;
    handed = h.handed;
    is_status = h.is_status;
    quiet = h.quiet;
    line = h.line;
  }

  -- a run with changes
  pub runs_changed : (Ran : S × O × E → S × O × E → Type 0) (changes : List Change) (status : ℕ) (old new : S × O × E) → (changes ≡ [] → ⊥)
      → IsInsideRun inner out err changes Ran old new ⊎ IsPastEnd inner out err changes status old new ⊎ IsUnmeasured inner out err status old new
      → RunsInside inner out err changes Ran status old new
  runs_changed Ran [] status old new some h = absurd (some refl)
  runs_changed Ran (c ∷ changes) status old new some h = h
