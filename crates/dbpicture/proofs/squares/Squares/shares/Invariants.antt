use Rattle.std.proofs.Common.{◌≡◌, ◌≤◌, ◌-◌, ℕ, List, max}
use Rattle.dbformat.specs.Reference.{Reference}
use Rattle.dbformat.specs.Starts.{start_at}
use Rattle.dbpicture.specs.Keeping.{AreOf, blank_by, marked_place}
use Rattle.dbpicture.specs.Owners.{shares_by}
use Rattle.dbpicture.proofs.squares.Squares.shares.Given as goal

abbrev pub invariant-loop-page : goal.invariant-loop-page
invariant-loop-page g l = record {
  shares : (file : List ℕ) (V : List Reference) → AreOf l.self file V
      → l.shares ≡ shares_by l.self.largest.items (marked_place l.self.marks.now) (start_at V) (blank_by l.self) l.first (l.page - l.first);
  most : l.page ≤ max l.first l.page-end;
}
