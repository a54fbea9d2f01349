-- The report by the pieces that are put, and what is kept for them.
use Rattle.std.proofs.Common.{◌≡◌, ℕ, Bool, true, false, cond, List, [], ◌∷◌, ◌++◌, map, take, drop, refl, ap, ◌∙◌}
use Rattle.std.specs.Prelude.{filter, flat_map, not, sum_by}
use Rattle.dbexplain.proofs.Common.{ok_line, Reference, more_text, TracedFault, injuries, reported_faults, listed_injuries, Held, injury_text, explain_text}
use Rattle.dbexplain.proofs.Common.{summary}
use Rattle.dbinjuries.specs.Listing as listing
use Rattle.dbinjuries.specs.Listing.{size}
use Rattle.dbreport.proofs.Checks.{more_counted}
use Rattle.dbinjuries.specs.Listed.{is_lost, listed_faults, looked_at, others_of}
use Rattle.dbinjuries.specs.Lists.{Shows}
use Rattle.dbexplain.proofs.KeptInjuries.{some_listed}

-- the line that counts the faults of the other injuries
pub rest_line : (limit : ℕ) (es : List listing.Injury) (l : Held) → Shows limit es l → more_text l.injuries.rest ≡ more_text (sum_by size (drop limit es))
rest_line limit es l shown = ap more_text shown.rest ∙ more_counted (sum_by size (drop limit es))

-- where faults were reported, there are injuries
none_of : (file : List ℕ) (V : List Reference) (ts : List TracedFault) → others_of ts ++ map (looked_at file V) (filter is_lost ts) ≡ [] → ts ≡ []
none_of file V [] h = refl
none_of file V (t ∷ ts) h = by_case (is_lost t) h
  where
    some : (xs ys : List TracedFault) (y : TracedFault) → xs ++ y ∷ ys ≡ [] → ⊥
    some [] ys y h = cc
    some (x ∷ xs) ys y h = cc

    by_case : (b : Bool) → cond (not b) (t ∷ others_of ts) (others_of ts) ++ map (looked_at file V) (cond b (t ∷ filter is_lost ts) (filter is_lost ts)) ≡ []
        → t ∷ ts ≡ []
    by_case true h = absurd (some (others_of ts) (map (looked_at file V) (filter is_lost ts)) (looked_at file V t) h)
    by_case false h = cc

pub none_reported : (file : List ℕ) (V : List Reference) → listed_injuries file V ≡ [] → reported_faults file V ≡ []
none_reported file V h = none_of file V (reported_faults file V) (some_listed (listed_faults file V) h)

text_some : (limit : ℕ) (file : List ℕ) (V : List Reference) (es : List listing.Injury) → (es ≡ [] → ⊥)
    → flat_map (injury_text file V) (take limit es) ++ (more_text (sum_by size (drop limit es)) ++ summary file V (reported_faults file V))
    ≡ explain_text limit file V es
text_some limit file V [] h = absurd (h refl)
text_some limit file V (e ∷ es) h = refl

pub report_text : (limit : ℕ) (file : List ℕ) (V : List Reference) → (reported_faults file V ≡ [] → ⊥)
    → flat_map (injury_text file V) (take limit (listed_injuries file V))
    ++ (more_text (sum_by size (drop limit (listed_injuries file V))) ++ summary file V (reported_faults file V))
    ≡ explain_text limit file V (listed_injuries file V)
report_text limit file V some = text_some limit file V (listed_injuries file V) (λ e. some (none_reported file V e))

-- and else there is the line of a file without a fault
pub ok_text : (limit : ℕ) (file : List ℕ) (V : List Reference) → reported_faults file V ≡ [] → explain_text limit file V (listed_injuries file V) ≡ ok_line
ok_text limit file V none = ap (λ ts. explain_text limit file V (injuries (others_of ts ++ map (looked_at file V) (filter is_lost ts)))) none
