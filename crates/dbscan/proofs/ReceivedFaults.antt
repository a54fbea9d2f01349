-- The faults of all that a reporter receives are those of the file, with their parts and causes.
use Rattle.dbscan.proofs.Common.{◌≡◌, ℕ, List, [], ◌∷◌, ◌++◌, length, map, refl, sym, ap, ap₂, ◌∙◌, append_assoc, end_faults, geometry, header_faults}
use Rattle.dbscan.proofs.Common.{Reference, faults, Survey, Fault, marks_of, Part, Notice, received_fault, of_file, whole, end_notices, faults_received}
use Rattle.dbscan.proofs.Common.{run_notices, start_notices, faults_of, reported_in, reported_of, reported_faults, walk_reported, filter_map-append}
use Rattle.dbscan.proofs.AllReported.{all_reported}
use Rattle.dbscan.proofs.PagesReceived.{past_pages}
use Rattle.dbscan.proofs.PlacedFaults.{starts_reported}
use Rattle.dbtrace.specs.declared.Part.TheVariants as part

of_whole : (p : Part) (fs : List Fault) → reported_in (map (whole p) fs) ≡ map (of_file p) fs
of_whole p [] = refl
of_whole p (f ∷ fs) = ap (λ l. of_file p f ∷ l) (of_whole p fs)

pub run_received : (file : List ℕ) (V : List Reference) → Survey file V → reported_in (run_notices file V) ≡ reported_faults file V
run_received file V s =
    let hs = header_faults file (length file) in
    let es = end_faults file V in
    filter_map-append reported_of (map (whole part.Header) hs) (start_notices file V ++ end_notices file V)
    ∙ ap₂ (λ a b. a ++ b) (of_whole part.Header hs)
    (filter_map-append reported_of (start_notices file V) (end_notices file V) ∙ ap₂ (λ a b. a ++ b) (starts_reported file V s)
    (past_pages reported_of (λ g p mark. refl) (geometry file) 1 (marks_of (geometry file) V) (map (whole part.End) es) ∙ of_whole part.End es))
    ∙ sym (append_assoc (map (of_file part.Header) hs) (walk_reported file V) (map (of_file part.End) es))

-- so they are the faults of the file
alone : (ns : List Notice) → faults_received ns ≡ faults_of (reported_in ns)
alone [] = refl
alone (received_fault x ∷ ns) = ap (λ l. x.fault ∷ l) (alone ns)
alone (_ ∷ ns) = alone ns

pub faults_are_received : (file : List ℕ) (V : List Reference) → Survey file V → faults_received (run_notices file V) ≡ faults file V
faults_are_received file V s = alone (run_notices file V) ∙ ap faults_of (run_received file V s) ∙ all_reported file V
