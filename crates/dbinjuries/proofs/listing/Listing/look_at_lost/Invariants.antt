use Rattle.std.proofs.Common.{◌≡◌, ◌+◌, List, Ok, flat_map, fold}
use Rattle.std.specs.List.{range_with_len}
use Rattle.dbformat.specs.Reference.{Reference}
use Rattle.dbsource.specs.Failures.{is_any}
use Rattle.dbsource.specs.Sources.{Asks}
use Rattle.dbsource.specs.declared.source.ReadFailed.{ReadFailed}
use Rattle.dbscan.specs.Desks.{shape_of}
use Rattle.dbscan.specs.Finishes.{IsDeskOf}
use Rattle.dbscan.specs.Looks.{IsUnmarked, ReadsRisingBefore}
use Rattle.dbinjuries.specs.Lists.{added}
use Rattle.dbinjuries.specs.Lost.{lost_at}
use Rattle.dbinjuries.proofs.listing.Listing.look_at_lost.Given as goal

abbrev pub invariant-loop-index : goal.invariant-loop-index
invariant-loop-index g l = record {
  desk : l.desk ≡ record l.initial.desk { pages = l.desk.pages };
  asks : Asks {A = Unit {0}} {E = ReadFailed} g.S.Source.step
      (ReadsRisingBefore (shape_of l.initial.desk).page_size (IsUnmarked l.initial.desk.marks) (l.index + 1))
      (λ file. (V : List Reference) → IsDeskOf l.initial.desk file V
      → l.self ≡ fold added l.initial.self (flat_map (lost_at file V) (range_with_len 1 l.index)))
      is_any (Ok tt) (g.S.Source.held l.initial.source) (g.S.Source.held l.source);
}
