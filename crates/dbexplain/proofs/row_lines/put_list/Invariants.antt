use Rattle.std.proofs.Common.{◌≡◌, length, take, true}
use Rattle.std.specs.Prelude.{filter}
use Rattle.dbexplain.proofs.Common.{Wrote, is_of, list_text}
use Rattle.dbexplain.proofs.row_lines.put_list.Given as goal

abbrev pub invariant-loop-range : goal.invariant-loop-range
invariant-loop-range g l = record {
  written : Wrote g.O.Out.held l.initial.writer (list_text l.kind true (take 10 (filter (is_of l.start l.kind) (take l.range-index l.ranges)))) l.writer;
  shown : l.shown ≡ length (take 10 (filter (is_of l.start l.kind) (take l.range-index l.ranges)));
}
