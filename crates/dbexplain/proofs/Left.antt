-- What a run leaves of a reporter that had received nothing.
use Rattle.std.proofs.Common.{◌≡◌, ◌≢◌, ℕ, List, [], ◌∷◌, length, Err, Result, inl, inr, refl, sym, ap, subst, ◌∙◌, arith}
use Rattle.std.proofs.lemmas.List.{length-map}
use Rattle.dbsurvey.specs.Moves.{MovesBySome}
use Rattle.dbexplain.proofs.Common.{geometry, counted, ok_line, Reference, faults, stat_rows, Survey, Verdict, TracedFault, RunError, ReadFailed, OutOfMemory}
use Rattle.dbexplain.proofs.Common.{reported_faults, listed_injuries, Held, ListsFirst, references_after_end, explain_text, AreIndexes, IsEmpty, Receives}
use Rattle.dbexplain.proofs.Common.{IsFresh, LeavesExplained, ExplainReporter, IsTallyOf}
use Rattle.dbsource.specs.Outs.{Begins, OutState, Writes}
use Rattle.dbsource.specs.declared.error.RunError.TheVariants.{Refused, WriteFailed}
use Rattle.dbsource.proofs.Beginnings.{begins_nothing}
use Rattle.dbscan.specs.Trees.{AreTrees}
use Rattle.dbscan.proofs.Trees.{all_noted}
use Rattle.dbscan.specs.Desks.{DeskView}
use Rattle.dbscan.specs.Finishes.{HasReceived, IsDeskOf, Leaves}
use Rattle.dbscan.specs.Notices.{run_notices}
use Rattle.dbscan.proofs.AllReported.{all_reported}
use Rattle.dbinjuries.specs.Lists.{ListsAll}
use Rattle.dbinjuries.specs.Lost.{HasNoted}
use Rattle.dbexplain.specs.Keeping.{HasAll}
use Rattle.dbexplain.specs.KeptRanges.{AreRangesOf}
use Rattle.dbexplain.specs.Reporting.{IsReportLeft}
use Rattle.dbexplain.proofs.AfterEnd.{all_counted as all_references}
use Rattle.dbexplain.proofs.IndexesNoted.{all_indexes}
use Rattle.dbexplain.proofs.RangesKept.{all_ranges_reported}
use Rattle.dbexplain.proofs.Received.{HasReceivedFaults, all_received, found_first}
use Rattle.dbexplain.proofs.Reports.{ok_text}
use Rattle.dbexplain.proofs.Tallies as tallies

-- ---- the number of faults

none_counted : (ts : List TracedFault) → counted (length ts) ≡ 0 → ts ≡ []
none_counted [] h = refl
none_counted (t ∷ ts) h = absurd (let e : ⊥ = omega arith in e)

-- it has received all of a file with survey V, where it had received nothing before
pub record HasReceivedFile {A O : Type 0} (limit : ℕ) (file : List ℕ) (V : List Reference) (first now : ExplainReporter A O) : Type 0 where
  pub survey : Survey file V
  pub empty : IsEmpty limit (geometry file) first.kept.now
  pub all : HasReceivedFaults first (reported_faults file V) (stat_rows file V) now
  pub tally : IsTallyOf (geometry file).pages (reported_faults file V) now.kept.now.tally
  pub after_end : now.after_end.references ≡ counted (references_after_end file V)

pub file_received : {A O : Type 0} {limit : ℕ} {file : List ℕ} {V : List Reference} {d : DeskView} {first now : ExplainReporter A O}
    → HasReceived Receives d file V first now → IsFresh limit file first → HasReceivedFile limit file V first now
file_received {limit = limit} {file = file} {V = V} {first = first} {now = now} h fresh =
    let all = all_received first file V h.desk.survey now h.received in record {
      survey = h.desk.survey;
      empty = fresh.kept;
      all = all;
      tally = subst (IsTallyOf (geometry file).pages (reported_faults file V)) (sym all.tally)
          (tallies.all_reported (geometry file).pages (reported_faults file V) [] first.kept.now.tally fresh.kept.tally);
      after_end = all_references file V first.after_end now.after_end fresh.after_end all.after_end;
    }

module _ {A O : Type 0} (held : O → OutState) {limit : ℕ} {file : List ℕ} {V : List Reference} {first now : ExplainReporter A O}
    (received : HasReceivedFile limit file V first now) where
  pub all_counted : now.kept.now.tally.all ≡ counted (length (faults file V))
  all_counted = received.tally.all ∙ ap counted (sym (length-map (reported_faults file V) (λ (t : TracedFault). t.fault)) ∙ ap length (all_reported file V))

  abbrev text : List ℕ
  text = explain_text limit file V (listed_injuries file V)

  -- what was put after it was received
  pub written : {X E : Type 0} (r : Result X E) (after : O) (t : List ℕ) → t ≡ text → Writes r (held now.out.now).bytes (held after).bytes t
      → Writes r (held first.out.now).bytes (held after).bytes text
  written r after t e w =
      subst (Writes r (held first.out.now).bytes (held after).bytes) e (subst (λ o. Writes r (held o).bytes (held after).bytes t) received.all.out w)

  -- no fault was found
  pub clean_put : now.kept.now.tally.all ≡ 0 → {X E : Type 0} (r : Result X E) (after : O) → Writes r (held now.out.now).bytes (held after).bytes ok_line
      → Writes r (held first.out.now).bytes (held after).bytes text
  clean_put none r after w = written r after ok_line (sym (ok_text limit file V (none_counted (reported_faults file V) (sym received.tally.all ∙ none)))) w

  -- some were found, and listed with the lost pages
  pub all_kept : (d : DeskView) (l : Held) → IsDeskOf d file V → ListsAll limit file V l × HasNoted file V first.kept.now.listing l
      → now.kept.now.tally.all ≢ 0
      → HasAll d (record now.kept.now { listing = l }) file V
  all_kept d l desk listed some = record {
    desk = desk;
    some = λ e. some (received.tally.all ∙ ap (λ (ts : List TracedFault). counted (length ts)) e);
    listing = subst (λ n. ListsAll n file V l) (sym listed.0.room) listed.0;
    tally = received.tally;
    zeros = listed.1.zeros received.empty.bits.zeros;
    ranges = subst (AreRangesOf (reported_faults file V)) (sym received.all.ranges)
        (all_ranges_reported (reported_faults file V) first.kept.now.ranges received.empty.ranges);
    indexes = subst (AreIndexes (stat_rows file V)) (sym received.all.indexes)
        (all_indexes (stat_rows file V) first.kept.now.indexes received.empty.indexes);
    trees = subst (AreTrees V) (sym received.all.trees) (all_noted file V first.kept.now.trees.known received.survey received.empty.room);
  }

-- ---- a run that was cut off before its end

module _ {A O : Type 0} (held : O → OutState) (file : List ℕ) (V : List Reference) (survey : Survey file V) (first now : ExplainReporter A O)
    (limit : ℕ) (fresh : IsFresh limit file first) where
  abbrev CutOff : Type 0
  CutOff = MovesBySome Receives first (run_notices file V) now

  found : CutOff → (now.out.now ≡ first.out.now) × ListsFirst limit file V now.kept.now.listing
  found m = found_first first file V survey now limit (geometry file) fresh.kept m

  nothing_put : CutOff → Begins (held first.out.now).bytes (held now.out.now).bytes (explain_text limit file V (listed_injuries file V))
  nothing_put m = subst (λ o. Begins (held first.out.now).bytes (held o).bytes (explain_text limit file V (listed_injuries file V))) (sym (found m).0)
      (begins_nothing (held first.out.now).bytes (explain_text limit file V (listed_injuries file V)))

  stopped : (e : RunError) → CutOff → IsReportLeft held limit file V (Err e) first now
  stopped ReadFailed m = found m
  stopped WriteFailed m = nothing_put m
  stopped OutOfMemory m = nothing_put m
  stopped (Refused r) m = nothing_put m

  pub is_left : (r : Result Verdict RunError) → Leaves Receives (LeavesExplained held) file V r first now → IsReportLeft held limit file V r first now
  is_left r (inl h) = h limit fresh
  is_left r (inr (e, is, m)) = subst (λ (r : Result Verdict RunError). IsReportLeft held limit file V r first now) (sym is) (stopped e m)
