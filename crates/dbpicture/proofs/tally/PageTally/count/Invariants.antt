use Rattle.std.proofs.Common.{◌≡◌, ℕ, List}
use Rattle.std.specs.List.{fold, range_with_len}
use Rattle.dbformat.specs.Reference.{Reference}
use Rattle.dbpicture.specs.Owners.{IsOf}
use Rattle.dbformat.specs.Starts.{start_at}
use Rattle.dbscan.specs.Owners.{place_of}
use Rattle.dbpicture.specs.Tallies.{none_tallied, page_counted}
use Rattle.dbpicture.proofs.tally.PageTally.count.Given as goal

abbrev pub invariant-loop-index : goal.invariant-loop-index
invariant-loop-index g l = (file : List ℕ) (V : List Reference) → IsOf l.marks l.trees.known file V
    → l.self ≡ fold (λ t p. page_counted (place_of file V p) (start_at V p) t) none_tallied (range_with_len 1 l.index)
