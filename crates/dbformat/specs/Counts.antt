-- What a row of the statistics counts (The DBSTAT Virtual Table; how the sums are counted is (own)).
use Rattle.std.specs.Prelude.{ℕ, ◌-◌, length, map, fold, max, sum_by}
use Rattle.dbformat.specs.Payload.{overflow_len}
use Rattle.dbformat.specs.Head.{View}
use Rattle.dbformat.specs.Cell.{cells, count}
use Rattle.dbformat.specs.Coverage.{unused}
use Rattle.dbformat.specs.declared.counts.Counts.{Counts}

-- all counts 0
abbrev pub no_counts : Counts
no_counts = record { ncell = 0; payload = 0; unused = 0; mx_payload = 0 }

-- an undamaged page of a tree: its cells, their payload bytes on the page, its free bytes, and its greatest payload
abbrev pub view_counts : View → Counts
view_counts v = record {
  ncell = count v;
  payload = sum_by (λ (i, c). length c.local) (cells v);
  unused = unused v;
  mx_payload = fold max 0 (map (λ (i, c). c.size) (cells v));
}

-- an overflow page, with the bytes that are left of its payload
abbrev pub overflow_counts : ℕ → ℕ → Counts
overflow_counts usable left = record {
  ncell = 0;
  payload = overflow_len usable left;
  unused = usable - 4 - overflow_len usable left;
  mx_payload = 0;
}
