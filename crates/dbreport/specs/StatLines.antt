-- What the statistics write of the trees, from the starts on.
use Rattle.std.specs.Prelude.{ℕ, Bool, true, false, List, [], ◌∷◌, ◌++◌, flat_map}
use Rattle.dbsurvey.specs.Story.{Errand, Go, Due}
use Rattle.dbformat.specs.Address.{start_of}
use Rattle.dbformat.specs.Header.{page_size}
use Rattle.dbformat.specs.Lines.{page_line, tree_line, tree_name}
use Rattle.dbformat.specs.Reference.{Way, Reference}
use Rattle.dbformat.specs.Rows.{StatRow}
use Rattle.dbformat.specs.Story.{Event}
use Rattle.dbtrace.specs.Finding.{reported_below, visited_below}
use Rattle.dbscan.specs.Findings.{found_rows}

-- what is written of the rows of one tree
abbrev pub tree_rows_text : Bool → List ℕ → ℕ → List StatRow → List ℕ
tree_rows_text true name size [] = []
tree_rows_text true name size (row ∷ rows) = tree_line name size (row ∷ rows)
tree_rows_text false name size rows = flat_map (page_line name size) rows

-- the start of what is done first
abbrev pub errand_start : Errand Way Event → ℕ
errand_start (Go c) = start_of c.address
errand_start (Due t) = 0

-- what is written of the trees below some starts, after the visits of W, where V is the survey
abbrev pub starts_text : Bool → List ℕ → List Reference → List Reference → List (Errand Way Event) → List ℕ
starts_text aggregate file V W [] = []
starts_text aggregate file V W (e ∷ es) =
    tree_rows_text aggregate (tree_name file V (errand_start e)) (page_size file) (found_rows (reported_below file W (e ∷ [])))
    ++ starts_text aggregate file V (W ++ visited_below file W (e ∷ [])) es
