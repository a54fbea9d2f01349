use Rattle.dbscan.proofs.Common.{◌≡◌, ◌+◌, List, None, Ok, Moves, geometry, refusal, Reference, is_read_failed, Asks, AreMarksOf, pages_items, HasMapFor}
use Rattle.dbscan.proofs.Common.{MapReadsBefore}
use Rattle.dbscan.proofs.end_pass.end_pages.Given as goal

abbrev pub invariant-loop-index : goal.invariant-loop-index
invariant-loop-index g l = record {
  asks : Asks {A = Unit {0}} g.S.Source.step (MapReadsBefore l.initial.bench.geometry (l.index + 1))
      (λ file. l.initial.bench.geometry ≡ geometry file → refusal file ≡ None
      → (V : List Reference) → AreMarksOf file V l.marks
      → Moves g.K.Reporter.receives l.initial.reporter (pages_items file V l.least_other l.index) l.reporter
      × HasMapFor file (geometry file) (l.index + 1) l.bench.chain)
      is_read_failed (Ok tt) (g.S.Source.held l.initial.source) (g.S.Source.held l.source);
  writes : g.K.Reporter.held l.reporter ≡ g.K.Reporter.held l.initial.reporter;
  bench : l.bench ≡ record l.initial.bench { chain = l.bench.chain };
}
