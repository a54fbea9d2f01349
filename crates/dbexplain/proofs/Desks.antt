-- What is known of pages, from a desk.
use Rattle.std.proofs.Common.{◌≡◌, ℕ, List, ap, sym, subst, ◌∙◌}
use Rattle.dbexplain.proofs.Common.{Reference, HeaderBytes, IsHeaderOf, AreOwnersOf}
use Rattle.dbscan.specs.Trees.{AreTrees}
use Rattle.dbscan.specs.Roots.{Listed}
use Rattle.dbexplain.specs.declared.owners.Owners.{Owners}
use Rattle.dbscan.specs.Desks.{DeskView}
use Rattle.dbscan.specs.Finishes.{IsDeskOf}

pub of_desk : {A : Type 0} (o : Owners A) (d : DeskView) (file : List ℕ) (V : List Reference)
    → o.header.now ≡ d.header → o.marks.now ≡ d.marks → o.roots.now ≡ d.roots → IsDeskOf d file V → AreTrees V o.trees.now.known → AreOwnersOf o file V
of_desk o d file V header marks roots is trees = record {
  header = subst (λ (h : HeaderBytes). IsHeaderOf h file) (sym header) is.header;
  survey = is.survey;
  marks = marks ∙ is.marks;
  rows = ap (λ (l : Listed). l.rows) roots ∙ is.rows;
  trees = trees;
}
