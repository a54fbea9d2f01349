use Rattle.std.proofs.Common.{◌≡◌, [], map, take, vec_len}
use Rattle.std.specs.List.{range_with_len}
use Rattle.dbmarks.specs.Marking.{mark_of, unpacked}
use Rattle.dbmarks.proofs.marks.Marks.new_in.Given as goal

abbrev pub invariant-loop-index : goal.invariant-loop-index
invariant-loop-index g l = record {
  size : vec_len l.words ≡ l.geometry.pages;
  made : map unpacked (take l.index l.words.items) ≡ map (mark_of l.geometry []) (range_with_len 1 l.index);
}
