use Rattle.std.proofs.Common.{◌≡◌, ◌++◌, map, take, drop, vec_len}
use Rattle.dbmarks.specs.Marking.{cleared, unpacked}
use Rattle.dbmarks.proofs.marks.Marks.clear.Given as goal

abbrev pub invariant-loop-index : goal.invariant-loop-index
invariant-loop-index g l = record {
  size : vec_len l.self-inside.words ≡ l.index-end;
  done : map unpacked l.self-inside.words.items ≡ map cleared (take l.index l.fn.self) ++ drop l.index l.fn.self;
}
