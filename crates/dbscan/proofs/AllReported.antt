-- What is reported with its causes is the faults of the file, in their order.
use Rattle.dbscan.proofs.Common.{◌≡◌, ℕ, List, [], ◌∷◌, ◌++◌, length, map, refl, ap₂, ◌∙◌, start_of, end_faults, header_faults, Reference, event_faults, faults}
use Rattle.dbscan.proofs.Common.{Event, reporting, Fault, cause_of, at_start, of_file, walk_reported, reported_faults, faults_of, map-append, TracedFault}
use Rattle.dbsurvey.proofs.Lists.{flat_map-same, map-flat_map}
use Rattle.dbformat.specs.Report.{walk_faults}
use Rattle.dbsurvey.specs.Story as story
use Rattle.dbtrace.specs.declared.Part.TheVariants as part

-- the faults alone, whatever each is reported with
bare : (report : Fault → TracedFault) → ((f : Fault) → (report f).fault ≡ f) → (fs : List Fault) → faults_of (map report fs) ≡ fs
bare report same [] = refl
bare report same (f ∷ fs) = ap₂ (λ g gs. g ∷ gs) (same f) (bare report same fs)

of_walk : (file : List ℕ) (V : List Reference) → faults_of (walk_reported file V) ≡ walk_faults file V
unfolding walk_faults
of_walk file V =
    map-flat_map here (λ t. t.fault) (reporting file V)
    ∙ flat_map-same (λ t. faults_of (here t)) (λ t. event_faults file V t.event) (reporting file V)
    (λ t i. bare (λ f. at_start (start_of t.key) f (cause_of file V t.event f.code)) (λ f. refl) (event_faults file V t.event))
  where
    here : story.Reported Event → List TracedFault
    here t = map (λ f. at_start (start_of t.key) f (cause_of file V t.event f.code)) (event_faults file V t.event)

pub all_reported : (file : List ℕ) (V : List Reference) → faults_of (reported_faults file V) ≡ faults file V
unfolding faults
all_reported file V =
    let first = map (of_file part.Header) (header_faults file (length file)) in
    let last = map (of_file part.End) (end_faults file V) in
    map-append (λ t. t.fault) (first ++ walk_reported file V) last
    ∙ ap₂ (λ a b. a ++ b)
    (map-append (λ t. t.fault) first (walk_reported file V)
    ∙ ap₂ (λ a b. a ++ b) (bare (of_file part.Header) (λ f. refl) (header_faults file (length file))) (of_walk file V))
    (bare (of_file part.End) (λ f. refl) (end_faults file V))
