-- What a reporter keeps that has received all of a file, or a beginning of it.
use Rattle.std.proofs.Common.{◌≡◌, ℕ, List, [], ◌∷◌, ◌++◌, length, refl, sym, ap, subst, ◌∙◌, arith, length-append}
use Rattle.std.specs.Prelude.{flat_map, fold}
use Rattle.std.proofs.lemmas.List.Sums.{fold-append}
use Rattle.dbsurvey.specs.Moves.{Moves, MovesBySome}
use Rattle.dbformat.specs.File.{geometry}
use Rattle.dbformat.specs.Lines.{counted}
use Rattle.dbformat.specs.Reference.{Reference}
use Rattle.dbformat.specs.Rows.{StatRow, stat_rows}
use Rattle.dbformat.specs.Survey.{Survey}
use Rattle.dbtrace.specs.declared.TracedFault.{TracedFault}
use Rattle.dbscan.specs.Notices.{run_notices}
use Rattle.dbscan.specs.Placed.{faults_of, reported_faults}
use Rattle.dbinjuries.specs.Lists.{HasListed, received}
use Rattle.dbinjuries.proofs.Received.{file_begun, file_received}
use Rattle.dbscan.specs.Trees.{row_noted, Trees}
use Rattle.dbpicture.specs.Keeping.{Adds, AreNoted, ReceivesNone, Notes}
use Rattle.dbpicture.specs.Faults.{fault_signs}
use Rattle.dbmap.specs.MapRuns.{Changes, Receives}
use Rattle.dbmap.specs.declared.map_reporter.MapReporter.{MapReporter}

reported_more : (ts : List TracedFault) (x : TracedFault) → flat_map fault_signs (faults_of ts) ++ fault_signs x.fault
    ≡ flat_map fault_signs (faults_of (ts ++ x ∷ []))
reported_more [] x = refl
reported_more (t ∷ ts) x = ap (λ l. fault_signs t.fault ++ l) (reported_more ts x)

module _ {A O : Type 0} where
  -- These faults were counted, noted and listed, and the starts of these rows noted; nothing else changed.
  pub record HasNotedFaults (pages : ℕ) (first : MapReporter A O) (ts : List TracedFault) (rs : List StatRow) (now : MapReporter A O) : Type 0 where
    pub count : now.kept.now.faults ≡ counted (length ts)
    pub notes : AreNoted pages (flat_map fault_signs (faults_of ts)) now.kept.now.notes
    pub listing : HasListed first.kept.now.listing ts now.kept.now.listing
    pub trees : now.kept.now.trees.known ≡ fold row_noted first.kept.now.trees.known rs
    pub out : now.out ≡ first.out
    pub name : now.name ≡ first.name

  one_received : (pages : ℕ) (first : MapReporter A O) (x : TracedFault) (ts : List TracedFault) (rs : List StatRow) (s t : MapReporter A O)
      → HasNotedFaults pages first ts rs s → Changes (Adds x) s t → HasNotedFaults pages first (ts ++ x ∷ []) rs t
  one_received pages first x ts rs s t h a = record {
    count = let e = a.kept.count in let n = h.count in let l = length-append ts (x ∷ []) in omega (arith, e, n, l);
    notes = subst (λ l. AreNoted pages l t.kept.now.notes) (reported_more ts x) (a.kept.notes pages (flat_map fault_signs (faults_of ts)) h.notes);
    listing = a.kept.listing ∙ ap (λ l. received l x) h.listing ∙ sym (fold-append received first.kept.now.listing ts (x ∷ []));
    trees = ap (λ (w : Trees). w.known) a.kept.trees ∙ h.trees;
    out = a.out ∙ h.out;
    name = a.name ∙ h.name;
  }

  one_noted : (pages : ℕ) (first : MapReporter A O) (r : StatRow) (ts : List TracedFault) (rs : List StatRow) (s t : MapReporter A O)
      → HasNotedFaults pages first ts rs s → Changes (Notes r) s t → HasNotedFaults pages first ts (rs ++ r ∷ []) t
  one_noted pages first r ts rs s t h a = record {
    count = a.kept.count ∙ h.count;
    notes = subst (AreNoted pages (flat_map fault_signs (faults_of ts))) (sym a.kept.notes) h.notes;
    listing = a.kept.listing ∙ h.listing;
    trees = a.kept.trees ∙ ap (λ k. row_noted k r) h.trees ∙ sym (fold-append row_noted first.kept.now.trees.known rs (r ∷ []));
    out = a.out ∙ h.out;
    name = a.name ∙ h.name;
  }

module _ {A O : Type 0} (file : List ℕ) (V : List Reference) (survey : Survey file V) (first now : MapReporter A O)
    (empty : ReceivesNone (geometry file) first.kept.now) where
  nothing_noted : HasNotedFaults (geometry file).pages first [] [] first
  nothing_noted = record { count = empty.none; notes = empty.notes; listing = refl; trees = refl; out = refl; name = refl }

  -- all of it
  pub all_received : Moves Receives first (run_notices file V) now → HasNotedFaults (geometry file).pages first (reported_faults file V) (stat_rows file V) now
  all_received m = file_received (λ x. Changes (Adds x)) (λ r. Changes (Notes r)) (HasNotedFaults (geometry file).pages first)
      (one_received (geometry file).pages first) (one_noted (geometry file).pages first) file V survey first now nothing_noted m

  -- nothing is put, where only some of it was received
  pub some_untouched : MovesBySome Receives first (run_notices file V) now → now.out ≡ first.out
  some_untouched m = (file_begun (λ x. Changes (Adds x)) (λ r. Changes (Notes r)) (HasNotedFaults (geometry file).pages first)
      (one_received (geometry file).pages first) (one_noted (geometry file).pages first) file V survey first now nothing_noted m).3.out
