use Rattle.std.proofs.Common.{◌≡◌, length, take, drop}
use Rattle.dbbytes.specs.Record.{body_lens}
use Rattle.dbbytes.proofs.BodyLemmas.{lens_from}
use Rattle.dbbytes.proofs.serial.body_lens.Given as goal

abbrev pub invariant-loop-i : goal.invariant-loop-i
invariant-loop-i l = record {
  same : lens_from (take l.i l.lens) l.left (drop l.i l.types) ≡ body_lens l.types l.bodies;
  five : length l.lens ≡ 5;
}
