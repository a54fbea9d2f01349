-- Counts of each start.
use Rattle.std.specs.Prelude.{◌≡◌, ◌≤◌, List, length, slice_set}
use Rattle.dbformat.specs.Address.{freelist_start}
use Rattle.dbscan.specs.StartTable.{most_starts}
use Rattle.dbexplain.specs.declared.start_counts.StartCounts.TheInside.{Inside}

-- what the fields hold: those of the one start, and those of the others
abbrev pub start_counts : {T A : Type 0} → Inside T A → List T
start_counts t = slice_set t.others t.start t.counts

-- the one is a start
pub record HasStart {T A : Type 0} (t : Inside T A) : Type 0 where
  pub start : t.start ≤ freelist_start
  pub long : length t.others ≡ most_starts
