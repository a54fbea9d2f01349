-- What the reporter of a map has counted and kept, by what it received.
use Rattle.std.proofs.Common.{◌≡◌, ℕ, List, length, Option, Result, Err, inl, inr, sym, ap, subst, ◌∙◌}
use Rattle.std.specs.Borrow.{MutBor}
use Rattle.std.specs.Prelude.{flat_map, IfOk}
use Rattle.std.specs.Io.KnownBytes.{Keeps}
use Rattle.std.proofs.lemmas.List.{length-map}
use Rattle.dbsurvey.specs.Moves.{Moves}
use Rattle.dbformat.specs.File.{geometry}
use Rattle.dbformat.specs.Lines.{counted}
use Rattle.dbformat.specs.Reference.{Reference}
use Rattle.dbformat.specs.Report.{faults, verdict, verdict_of}
use Rattle.dbformat.specs.Rows.{stat_rows}
use Rattle.dbformat.specs.Survey.{Survey}
use Rattle.dbformat.specs.declared.Verdict.{Verdict}
use Rattle.dbformat.proofs.Verdicts.{verdict_counted}
use Rattle.dbtrace.specs.declared.TracedFault.{TracedFault}
use Rattle.dbsource.proofs.Puts.{keeps_same}
use Rattle.dbsource.specs.Outs.{OutState}
use Rattle.dbsource.specs.declared.error.RunError.{RunError}
use Rattle.dbsource.specs.declared.error.RunError.TheVariants.{OutOfMemory, ReadFailed, Refused, WriteFailed}
use Rattle.dbscan.specs.Finishes.{Leaves}
use Rattle.dbscan.specs.Notices.{run_notices}
use Rattle.dbscan.specs.Placed.{reported_faults}
use Rattle.dbscan.proofs.AllReported.{all_reported}
use Rattle.dbinjuries.specs.Lists.{HasListed, Held, ListsAll}
use Rattle.dbinjuries.specs.Lost.{HasNoted}
use Rattle.dbpicture.specs.Keeping.{AreNoted, HasFaults, ReceivesNone}
use Rattle.dbpicture.specs.Faults.{fault_signs}
use Rattle.dbscan.specs.Trees.{AreTrees}
use Rattle.dbscan.proofs.Trees.{all_noted}
use Rattle.dbpicture.specs.Pictures.{map_picture}
use Rattle.dbmap.specs.Maps.{PutsMap}
use Rattle.dbmap.specs.MapRuns.{Receives, LeavesMap}
use Rattle.dbmap.specs.declared.map_reporter.MapReporter.{MapReporter}
use Rattle.dbmap.proofs.MapAnswers.{nothing_begun}
use Rattle.dbmap.proofs.Received.{all_received, HasNotedFaults, some_untouched}

module _ {A O : Type 0} (file : List ℕ) (V : List Reference) (survey : Survey file V) (s t : MapReporter A O)
    (empty : ReceivesNone (geometry file) s.kept.now) where
  -- all of a run was received, and nothing before it: its faults were counted, and these are kept
  module _ (received : Moves Receives s (run_notices file V) t) where
    all : HasNotedFaults (geometry file).pages s (reported_faults file V) (stat_rows file V) t
    all = all_received file V survey s t empty received

    as_many : length (reported_faults file V) ≡ length (faults file V)
    as_many = sym (length-map (reported_faults file V) (λ (x : TracedFault). x.fault)) ∙ ap length (all_reported file V)

    pub map_counts : t.kept.now.faults ≡ counted (length (faults file V))
    map_counts = all.count ∙ ap counted as_many

    pub map_finds : verdict_of t.kept.now.faults ≡ verdict (faults file V)
    map_finds = ap verdict_of map_counts ∙ verdict_counted (faults file V)

    pub map_receives : HasListed s.kept.now.listing (reported_faults file V) t.kept.now.listing
    map_receives = all.listing

    -- with the lost pages
    pub map_keeps : (l : Held) → ListsAll 100 file V l × HasNoted file V s.kept.now.listing l
        → HasFaults file V (record t.kept.now { listing = l })
    map_keeps l looked = record {
      trees = subst (AreTrees V) (sym all.trees) (all_noted file V s.kept.now.trees.known survey empty.room);
      notes = subst (λ fs. AreNoted (geometry file).pages (flat_map fault_signs fs) t.kept.now.notes) (all_reported file V) all.notes;
      listing = looked.0;
      zeros = looked.1.zeros empty.bits.zeros;
      blank = looked.1.blank empty.bits.usable empty.bits.blank;
    }

    -- what was put then is the picture, in any relation to what the Out held
    pub map_put : (held : O → OutState) (P : Option (List ℕ) → List ℕ → Type 0) (text : List ℕ) → text ≡ map_picture file V t.name.now
        → P (held t.out.now).bytes text → P (held s.out.now).bytes (map_picture file V s.name.now)
    map_put held P text e h =
        subst (λ (o : MutBor O). P (held o.now).bytes (map_picture file V s.name.now)) all.out
        (subst (λ (name : List ℕ). P (held t.out.now).bytes (map_picture file V name)) (ap (λ n. n.now) all.name) (subst (P (held t.out.now).bytes) e h))

    -- after a failed read nothing has been put
    pub map_unput : (held : O → OutState) → Keeps (held s.out.now).bytes (held t.out.now).bytes
    map_unput held = subst (λ (o : MutBor O). Keeps (held s.out.now).bytes (held o.now).bytes) (sym all.out) (keeps_same (held s.out.now).bytes)

  -- a picture was not begun where nothing was put
  unbegun : (e : RunError) (old new : Option (List ℕ)) → Keeps old new → PutsMap {A = Verdict} (Err e) old new (map_picture file V s.name.now)
  unbegun (Refused r) old new kept = kept
  unbegun ReadFailed old new kept = kept
  unbegun OutOfMemory old new kept = kept
  unbegun WriteFailed old new kept = nothing_begun old new (map_picture file V s.name.now) kept

  -- a run that came to its end, or not
  pub map_left : (held : O → OutState) (r : Result Verdict RunError) → Leaves Receives (LeavesMap held) file V r s t
      → IfOk r (λ v. v ≡ verdict (faults file V)) × PutsMap r (held s.out.now).bytes (held t.out.now).bytes (map_picture file V s.name.now)
  map_left held r (inl h) = h empty
  map_left held r (inr (e, is, k)) =
      let kept : Keeps (held s.out.now).bytes (held t.out.now).bytes =
      subst (λ (o : MutBor O). Keeps (held s.out.now).bytes (held o.now).bytes) (sym (some_untouched file V survey s t empty k))
      (keeps_same (held s.out.now).bytes) in
      subst (λ (r : Result Verdict RunError). IfOk r (λ v. v ≡ verdict (faults file V))
      × PutsMap r (held s.out.now).bytes (held t.out.now).bytes (map_picture file V s.name.now)) (sym is)
      (tt, unbegun e (held s.out.now).bytes (held t.out.now).bytes kept)
