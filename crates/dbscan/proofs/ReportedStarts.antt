-- What there is to do at the starts, by the rows that a list has of the schema.
use Rattle.dbscan.proofs.Common.{◌≡◌, ℕ, List, ◌∷◌, [], map, ap, ◌∙◌, refl, Go, Follow, errands_at, Reference, start_errands, Survey, errands_left, listed_rows}
use Rattle.dbscan.proofs.Common.{schema_reference, enumerate_from}
use Rattle.dbscan.proofs.RootsTaken.{starts_listed}
use Rattle.dbscan.proofs.RunItems.{starts_are}

pub start_errands_listed : (file : List ℕ) (V : List Reference) → Survey file V
    → start_errands file V ≡ Go schema_reference ∷ errands_left file (enumerate_from 1 (listed_rows file V))
start_errands_listed file V s = starts_are file V s
    ∙ ap (λ ls. Go schema_reference ∷ errands_at [] (map Follow ls)) (starts_listed file V (listed_rows file V) refl)
