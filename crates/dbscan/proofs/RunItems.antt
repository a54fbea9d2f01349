-- What a run finds in the walks from all starts: the survey, and its faults.
use Rattle.dbscan.proofs.Common.{◌≡◌, ℕ, List, [], ◌∷◌, ◌++◌, map, refl, sym, ap, subst, ◌∙◌, IsIn, Go, Follow, errands_at, goes, schema_start, geometry}
use Rattle.dbscan.proofs.Common.{schema_part, Way, Reference, schema, later_starts, starts, Event, start_errands, Survey, rules_of, visited_below, AreMarksOf}
use Rattle.dbscan.proofs.Common.{Mark, AreBelowStarts, schema_reference, later_errands, IsAtStarts, under, has_address, AreErrandsApart, Link, named_at}
use Rattle.dbscan.proofs.Common.{errands_at-apart, by_starts, starts_rise, follows_pairs, visited_join}
use Rattle.dbsurvey.specs.Traverse.{part_of}
use Rattle.dbformat.proofs.SchemaStart.{schema_below}

-- starts depend only on the schema
later_same : (file : List ℕ) (U V : List Reference) → schema file U ≡ schema file V → later_starts file U ≡ later_starts file V
unfolding later_starts
later_same file U V e = rw e refl

pub starts_are : (file : List ℕ) (V : List Reference) → Survey file V → start_errands file V ≡ Go schema_reference ∷ later_errands file V
starts_are file V s = ap (λ ls. Go schema_reference ∷ errands_at [] (map Follow ls)) (later_same file (under schema_start V) V (sym (schema_below file V s)))

pub starts_apart : (file : List ℕ) (V : List Reference) → AreErrandsApart (start_errands file V)
starts_apart file V = errands_at-apart [] (map Follow (starts file V)) (follows_pairs (starts file V) (starts_rise file (under schema_start V)))

pub goes_named : (a : List ℕ) (ls : List (Link Way)) → goes (errands_at {E = Event} a (map Follow ls)) ≡ named_at a ls
goes_named a [] = refl
goes_named a (l ∷ ls) = ap (λ cs. record { address = a ++ (l.step ∷ []); page = l.page; role = l.role } ∷ cs) (goes_named a ls)

-- the pages that are visited from the starts are those of the survey
pub all_visited : (file : List ℕ) (V : List Reference) → Survey file V → visited_below file [] (start_errands file V) ≡ V
all_visited file V s =
    let P = schema_part file in
    let by = by_starts file V s in
    let later : later_starts file V ≡ later_starts file P = later_same file V P by.1 in
    ap (visited_below file []) (starts_are file V s)
    ∙ visited_join file [] (Go schema_reference ∷ []) (later_errands file V)
    ∙ ap (λ cs. P ++ part_of (rules_of file) (geometry file).pages P cs) (goes_named [] (later_starts file V) ∙ ap (named_at []) later)
    ∙ sym by.0

pub survey_below_starts : (file : List ℕ) (V : List Reference) → Survey file V → AreBelowStarts ([] ++ visited_below file [] (start_errands file V))
survey_below_starts file V s u i = has_address file V s u (subst (λ W. IsIn u W) (all_visited file V s) i)

-- at the start all is left
pub starts_left : (file : List ℕ) (V : List Reference) → Survey file V → (marks : List Mark) → AreMarksOf file [] marks
    → IsAtStarts file V [] ((Go schema_reference ∷ []) ++ later_errands file V) marks
starts_left file V s marks fresh = subst (λ es. IsAtStarts file V [] es marks) (starts_are file V s)
    (record { marked = fresh; past = λ u e i. absurd i; apart = starts_apart file V; visits = refl })
