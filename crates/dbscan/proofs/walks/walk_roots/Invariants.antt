use Rattle.dbscan.proofs.Common.{◌≡◌, ◌+◌, List, drop, Ok, geometry, encoding, Reference, Survey, is_read_failed, Asks, AreMarksFor, Reads, IsBetweenStarts}
use Rattle.dbscan.proofs.Common.{enumerate_from}
use Rattle.dbscan.proofs.walks.walk_roots.Given as goal

abbrev pub invariant-loop-index : goal.invariant-loop-index
invariant-loop-index g l = record {
  header : l.desk-inside.header ≡ l.initial.desk-inside.header;
  roots : l.desk-inside.roots ≡ l.initial.desk-inside.roots;
  shape : l.desk-inside.bench.geometry ≡ l.initial.desk-inside.bench.geometry;
  marks : AreMarksFor l.initial.desk-inside.bench.geometry l.desk-inside.marks;
  asks : Asks {A = Unit {0}} g.S.Source.step (Reads l.initial.desk-inside.bench.geometry.page_size l.initial.desk-inside.marks l.desk-inside.marks)
      (λ file. l.initial.desk-inside.bench.geometry ≡ geometry file → l.encoding ≡ encoding file → (V : List Reference) → Survey file V
      → (before : g.row.K.Denot)
      → IsBetweenStarts g.K.Reporter.receives file V before (enumerate_from 1 l.initial.desk-inside.roots.rows) l.initial.desk-inside.marks
      l.initial.reporter
      → IsBetweenStarts g.K.Reporter.receives file V before (enumerate_from (l.index + 1) (drop l.index l.initial.desk-inside.roots.rows))
      l.desk-inside.marks l.reporter)
      is_read_failed (Ok tt) (g.S.Source.held l.initial.source) (g.S.Source.held l.source);
  writes : g.K.Reporter.held l.reporter ≡ g.K.Reporter.held l.initial.reporter;
}
