use Rattle.std.proofs.Common.{◌≡◌, take}
use Rattle.std.specs.List.{flat_map}
use Rattle.dbformat.specs.Text.{escape_byte}
use Rattle.dbbytes.proofs.name.plain_len.Given as goal

abbrev pub invariant-loop-i : goal.invariant-loop-i
invariant-loop-i l = flat_map escape_byte (take l.i l.text) ≡ take l.i l.text
