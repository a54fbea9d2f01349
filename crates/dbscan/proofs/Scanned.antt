-- What a reporter receives in a scan, part by part: the faults of the header, what is found at the starts, and what is reported
-- after the walks.
use Rattle.dbscan.proofs.Common.{◌≡◌, ℕ, Bool, List, ◌++◌, length, map, Result, Ok, Err, refl, sym, ap, ap₂, subst, ◌∙◌, Moves, MovesBySome, header_faults}
use Rattle.dbscan.proofs.Common.{Reference, Survey, Step, is_read_failed, HeaderBytes, IsHeaderOf, Asks, SourceState, RunError, AreMarksOf, AreListed, Reports}
use Rattle.dbscan.proofs.Common.{AsksOver, DeskView, IsFresh, shape_of, ReadsMarked, Notice, whole, start_notices, end_notices, run_notices, AreWalked}
use Rattle.dbscan.proofs.Common.{asks_weaker, fresh_marks, some_first, some_after, header_faults_within, IsScanned}
use Rattle.dbscan.proofs.EndItems.{reports_then}
use Rattle.dbscan.proofs.MapLogs.{walk_log}
use Rattle.dbtrace.specs.declared.Part.TheVariants as part

-- the header's faults, as they are reported
header_items : (file : List ℕ) (h : HeaderBytes) → IsHeaderOf h file
    → map (whole part.Header) (header_faults h.bytes h.file_len) ≡ map (whole part.Header) (header_faults file (length file))
header_items file h is = ap (map (whole part.Header)) (ap₂ header_faults is.begins is.whole ∙ header_faults_within file (length file))

module _ {S : Type 0} (receives : S → Notice → S → Type 0) (file : List ℕ) (V : List Reference) (h : HeaderBytes) (is : IsHeaderOf h file) (s : S) where
  abbrev first : List Notice
  first = map (whole part.Header) (header_faults file (length file))

  abbrev last : List Notice
  last = end_notices file V

  -- it stopped within the header's faults
  pub header_stopped : (e : RunError) (t : S) → MovesBySome receives s (map (whole part.Header) (header_faults h.bytes h.file_len)) t
      → MovesBySome receives s (run_notices file V) t
  header_stopped e t k = some_first receives s t first (start_notices file V ++ last)
      (subst (λ items. MovesBySome receives s items t) (header_items file h is) k)

  module _ (a : S) (reported : Moves receives s (map (whole part.Header) (header_faults h.bytes h.file_len)) a) where
    header_reported : Moves receives s first a
    header_reported = subst (λ items. Moves receives s items a) (header_items file h is) reported

    -- within what is found at the starts
    pub starts_stopped : (e : RunError) (t : S) → MovesBySome receives a (start_notices file V) t → MovesBySome receives s (run_notices file V) t
    starts_stopped e t k = some_after receives s a t first (start_notices file V ++ last) header_reported
        (some_first receives a t (start_notices file V) last k)

    -- or not before what is reported after the walks
    all_reported : {A : Type 0} (r : Result A RunError) (b t : S) → Moves receives a (start_notices file V) b → Reports receives r b last t
        → Reports receives r s (run_notices file V) t
    all_reported r b t walked k = reports_then receives r s a t first (start_notices file V ++ last) header_reported
        (reports_then receives r a b t (start_notices file V) last walked k)

    -- after the walks all is known of the file, and the report of the end does not change it
    pub scan_ended : (r : Result (Unit {0}) RunError) (any : Bool) (b t : S) (walked ended : DeskView)
        → AreWalked receives file V (Ok any) walked.marks walked.roots.rows a b → ended ≡ record walked { pages = ended.pages }
        → Reports receives r b last t → IsScanned receives file V r ended.marks ended.roots.rows s t
    scan_ended (Ok u) any b t walked ended w same k = record {
      reported = all_reported (Ok u) b t w.all.reported k;
      marked = subst (AreMarksOf file V) (sym (ap (λ (d : DeskView). d.marks) same)) w.all.marked;
      listed = subst (AreListed file V) (sym (ap (λ (d : DeskView). d.roots.rows) same)) w.listed;
    }
    scan_ended (Err e) any b t walked ended w same k = record { reported = all_reported {A = Unit {0}} (Err e) b t w.all.reported k; marked = tt; listed = tt }

-- an error stopped the walks from the starts
pub scan_stopped : {S : Type 0} (receives : S → Notice → S → Type 0) (step : Step) (d u : DeskView) (s a b : S) (e : RunError) {old new : SourceState}
    → IsFresh d
    → Moves receives s (map (whole part.Header) (header_faults d.header.bytes d.header.file_len)) a
    → AsksOver {A = Bool} step d u (λ file. (V : List Reference) → Survey file V → AreWalked receives file V (Err e) u.marks u.roots.rows a b) (Err e) old new
    → Asks {A = Unit {0}} step (ReadsMarked (shape_of d) u.marks) (λ file. IsHeaderOf d.header file → (V : List Reference) → Survey file V
    → IsScanned {A = Unit {0}} receives file V (Err e) u.marks u.roots.rows s b) is_read_failed (Err e) old new
scan_stopped receives step d u s a b e fresh reported asks =
    asks_weaker _ _ (Err e) (λ n. refl) asks (λ log reads. walk_log (shape_of d) d.marks u.marks log (fresh_marks (shape_of d) d.marks fresh.marks) reads)
    (λ file walked is V survey. record {
      reported = starts_stopped receives file V d.header is s a reported e b (walked is V survey).all.reported;
      marked = tt;
      listed = tt;
    })
