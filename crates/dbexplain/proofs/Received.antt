-- What a reporter keeps that has received all of a file, or a beginning of it.
use Rattle.std.proofs.Common.{◌≡◌, ℕ, List, [], ◌∷◌, ◌++◌, refl, sym, ap, ◌∙◌}
use Rattle.std.specs.Prelude.{fold}
use Rattle.std.proofs.lemmas.List.Sums.{fold-append}
use Rattle.dbsurvey.specs.Moves.{Moves, MovesBySome}
use Rattle.dbexplain.proofs.Common.{Reference, stat_rows, Survey, Geometry, TracedFault, reported_faults, ListsFirst, IsEmpty, Receives, ExplainReporter}
use Rattle.dbformat.specs.Rows.{StatRow}
use Rattle.dbscan.specs.Notices.{run_notices}
use Rattle.dbinjuries.specs.Lists.{HasListed, received}
use Rattle.dbinjuries.proofs.Received.{file_begun, file_received}
use Rattle.dbinjuries.proofs.ListedFaults.{received_first}
use Rattle.dbscan.specs.Trees.{row_noted}
use Rattle.dbexplain.specs.AfterEnd.{after_end_reported}
use Rattle.dbexplain.specs.Indexes.{index_noted}
use Rattle.dbexplain.specs.KeptRanges.{range_reported}
use Rattle.dbexplain.specs.Reporting.{Adds, Notes}
use Rattle.dbexplain.specs.Tallies.{fault_reported}

module _ {A O : Type 0} (first : ExplainReporter A O) where
  -- These faults were counted and listed, and the starts of these rows noted; nothing else changed.
  pub record HasReceivedFaults (ts : List TracedFault) (rs : List StatRow) (now : ExplainReporter A O) : Type 0 where
    pub tally : now.kept.now.tally ≡ fold fault_reported first.kept.now.tally ts
    pub listing : HasListed first.kept.now.listing ts now.kept.now.listing
    pub trees : now.kept.now.trees.known ≡ fold row_noted first.kept.now.trees.known rs
    pub ranges : now.kept.now.ranges ≡ fold range_reported first.kept.now.ranges ts
    pub indexes : now.kept.now.indexes ≡ fold index_noted first.kept.now.indexes rs
    pub after_end : now.after_end ≡ fold after_end_reported first.after_end ts
    pub out : now.out.now ≡ first.out.now

  one_received : (x : TracedFault) (ts : List TracedFault) (rs : List StatRow) (s t : ExplainReporter A O) → HasReceivedFaults ts rs s → Adds x s t
      → HasReceivedFaults (ts ++ x ∷ []) rs t
  one_received x ts rs s t h a = record {
    tally = a.tally ∙ ap (λ t. fault_reported t x) h.tally ∙ sym (fold-append fault_reported first.kept.now.tally ts (x ∷ []));
    listing = a.listing ∙ ap (λ l. received l x) h.listing ∙ sym (fold-append received first.kept.now.listing ts (x ∷ []));
    trees = a.trees ∙ h.trees;
    ranges = a.ranges ∙ ap (λ k. range_reported k x) h.ranges ∙ sym (fold-append range_reported first.kept.now.ranges ts (x ∷ []));
    indexes = a.indexes ∙ h.indexes;
    after_end = a.after_end ∙ ap (λ k. after_end_reported k x) h.after_end ∙ sym (fold-append after_end_reported first.after_end ts (x ∷ []));
    out = a.out ∙ h.out;
  }

  one_noted : (r : StatRow) (ts : List TracedFault) (rs : List StatRow) (s t : ExplainReporter A O) → HasReceivedFaults ts rs s → Notes r s t
      → HasReceivedFaults ts (rs ++ r ∷ []) t
  one_noted r ts rs s t h a = record {
    tally = a.tally ∙ h.tally;
    listing = a.listing ∙ h.listing;
    trees = a.trees ∙ ap (λ k. row_noted k r) h.trees ∙ sym (fold-append row_noted first.kept.now.trees.known rs (r ∷ []));
    ranges = a.ranges ∙ h.ranges;
    indexes = a.indexes ∙ ap (λ k. index_noted k r) h.indexes ∙ sym (fold-append index_noted first.kept.now.indexes rs (r ∷ []));
    after_end = a.after_end ∙ h.after_end;
    out = a.out ∙ h.out;
  }

  module _ (file : List ℕ) (V : List Reference) (survey : Survey file V) (now : ExplainReporter A O) where
    nothing_received : HasReceivedFaults [] [] first
    nothing_received = record { tally = refl; listing = refl; trees = refl; ranges = refl; indexes = refl; after_end = refl; out = refl }

    -- all of it
    pub all_received : Moves Receives first (run_notices file V) now → HasReceivedFaults (reported_faults file V) (stat_rows file V) now
    all_received m = file_received Adds Notes HasReceivedFaults one_received one_noted file V survey first now nothing_received m

    -- a beginning: the first faults are listed, and nothing was put
    pub found_first : (limit : ℕ) (g : Geometry) → IsEmpty limit g first.kept.now → MovesBySome Receives first (run_notices file V) now
        → (now.out.now ≡ first.out.now) × ListsFirst limit file V now.kept.now.listing
    found_first limit g empty m =
        let h = file_begun Adds Notes HasReceivedFaults one_received one_noted file V survey first now nothing_received m in
        (h.3.out, received_first limit file V first.kept.now.listing now.kept.now.listing h.0 empty.listing h.1 h.3.listing)
