use Rattle.std.proofs.Common.{◌≡◌, ◌*◌, length, take}
use Rattle.dbcli.specs.Spelled.{SpellsBytes}
use Rattle.dbcli.proofs.spelled.bytes_of.Given as goal

abbrev pub invariant-loop-at : goal.invariant-loop-at
invariant-loop-at l = SpellsBytes (take (2 * l.at) l.digits) l.bytes.items × (length l.bytes.items ≡ l.at)
