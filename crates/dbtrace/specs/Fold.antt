-- The theorem: what a walk keeps beside the visits is a fold over the events so far.
use Rattle.std.specs.Prelude.{◌≡◌, ℕ, List, [], ◌∷◌, ◌++◌, ◌==◌, if◌then◌else◌}
use Rattle.dbsurvey.specs.Story.{Go}
use Rattle.dbformat.specs.Address.{schema_start}
use Rattle.dbformat.specs.Reference.{Reference}
use Rattle.dbformat.specs.Schema.{schema}
use Rattle.dbtrace.specs.Finding.{reported_below, visited_below}
use Rattle.dbtrace.specs.Item.{counted_findings, given_cells}
use Rattle.dbtrace.specs.Starts.{AreOfEarlierStarts}
use Rattle.dbtrace.specs.Walk.{begin, run_below}

-- The walk of a start, after the visits of earlier starts: where the faults of each row of the schema are by how many rows with
-- a root page came before it, what is reported of its items is what the definitions give by the visits and the places of keys.
-- It gives the rows of the schema, where the start is the schema's.
pub record IsFold (file : List ℕ) : Type 0 where
  pub findings_are : (k : ℕ) (W : List Reference) (c : Reference) → c.address ≡ k ∷ [] → AreOfEarlierStarts k W
      → counted_findings 0 (run_below file (begin W) (Go c ∷ [])).items ≡ reported_below file W (Go c ∷ [])
  pub rows_are : (k : ℕ) (W : List Reference) (c : Reference) → c.address ≡ k ∷ [] → AreOfEarlierStarts k W
      → given_cells (run_below file (begin W) (Go c ∷ [])).items
      ≡ (if k == schema_start then schema file (W ++ visited_below file W (Go c ∷ [])) else [])
  pub visits_are : (k : ℕ) (W : List Reference) (c : Reference) → c.address ≡ k ∷ [] → AreOfEarlierStarts k W
      → (run_below file (begin W) (Go c ∷ [])).visits ≡ W ++ visited_below file W (Go c ∷ [])
