-- The rows that are found below some errands are those of the visits there.
use Rattle.dbscan.proofs.Common.{◌≡◌, ℕ, List, [], ◌∷◌, ◌++◌, map, Option, Some, None, refl, ap, ap₂, ◌∙◌, append-nil, filter_map, option_to_list, AreQuiet}
use Rattle.dbscan.proofs.Common.{read_back, visits_in, Reported, Errand, reporting_of, geometry, Way, Reference, role_of, event_faults, StatRow, row_in}
use Rattle.dbscan.proofs.Common.{stat_rows, Event, at_page, at_key, at_refused, own_visit, story_of, rules_of, Fault, cause_of, reported_row, reported_by}
use Rattle.dbscan.proofs.Common.{reported_at, reported_below, visited_below, found_rows, cons_option, filter_map-append, FaultCode, are_rules, Cause, found_row}
use Rattle.dbsurvey.proofs.Parting.{visits_of}
use Rattle.dbformat.specs.Laws.{event_row}
use Rattle.dbformat.proofs.Theory.{is_story, shows_visits}

pub rows_none : (file : List ℕ) → stat_rows file [] ≡ []
unfolding stat_rows
rows_none file = refl

pub rows_join : (file : List ℕ) (A B : List Reference) → stat_rows file (A ++ B) ≡ stat_rows file A ++ stat_rows file B
unfolding stat_rows
rows_join file A B = filter_map-append (λ r. row_in (role_of r) file r) A B

no_found_rows : (why : FaultCode → Cause) (fs : List Fault) → found_rows (reported_by why fs) ≡ []
no_found_rows why [] = refl
no_found_rows why (f ∷ fs) = no_found_rows why fs

all_found_rows : (rows : List StatRow) → found_rows (map reported_row rows) ≡ rows
all_found_rows [] = refl
all_found_rows (r ∷ rows) = ap (λ l. r ∷ l) (all_found_rows rows)

at_event : (file : List ℕ) (U : List Reference) (e : Event) → found_rows (reported_at file U e) ≡ option_to_list (event_row file e)
at_event file U e =
    filter_map-append found_row (map reported_row (option_to_list (event_row file e))) (reported_by (cause_of file U e) (event_faults file U e))
    ∙ ap₂ (λ a b. a ++ b) (all_found_rows (option_to_list (event_row file e))) (no_found_rows (cause_of file U e) (event_faults file U e))
    ∙ append-nil (option_to_list (event_row file e))

in_list : (file : List ℕ) (W : List Reference) (L : List (Reported Event)) → found_rows (read_back own_visit (reported_at file) W L)
    ≡ stat_rows file (visits_in own_visit L)
unfolding stat_rows
in_list file W [] = refl
in_list file W (t ∷ L) =
    let U = W ++ option_to_list (own_visit t.event) in
    filter_map-append found_row (reported_at file U t.event) (read_back own_visit (reported_at file) U L)
    ∙ ap₂ (λ a b. a ++ b) (at_event file U t.event) (in_list file U L)
    ∙ by_event t.event (visits_in own_visit L)
  where
    one_more : {X : Type 0} (o : Option X) (xs : List X) → option_to_list o ++ xs ≡ cons_option o xs
    one_more None xs = refl
    one_more (Some x) xs = refl

    by_event : (e : Event) (V : List Reference) → option_to_list (event_row file e) ++ filter_map (λ r. row_in (role_of r) file r) V
        ≡ filter_map (λ r. row_in (role_of r) file r) (cons_option (own_visit e) V)
    by_event (at_page r) V = one_more (row_in (role_of r) file r) (filter_map (λ r. row_in (role_of r) file r) V)
    by_event (at_key r v cell) V = refl
    by_event (at_refused r) V = refl

pub rows_below : (file : List ℕ) (W : List Reference) (es : List (Errand Way Event)) → AreQuiet own_visit es → found_rows (reported_below file W es)
    ≡ stat_rows file (visited_below file W es)
rows_below file W es quiet =
    in_list file W (reporting_of (rules_of file) (story_of file) (geometry file).pages W es)
    ∙ ap (stat_rows file) (visits_of (rules_of file) (story_of file) (geometry file).pages (are_rules file) (is_story file) own_visit (shows_visits file) W es
    quiet)
