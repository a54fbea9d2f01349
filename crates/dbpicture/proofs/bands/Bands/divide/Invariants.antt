use Rattle.std.proofs.Common.{◌≡◌, length}
use Rattle.dbpicture.specs.Groups.{given}
use Rattle.dbpicture.proofs.bands.Bands.divide.Given as goal

abbrev pub invariant-loop : goal.invariant-loop
invariant-loop l = record {
  given : l.bands.heights ≡ given l.shares l.all l.counter;
  many : length l.bands.heights ≡ 17;
}
