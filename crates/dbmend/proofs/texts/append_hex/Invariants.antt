use Rattle.std.proofs.Common.{◌≡◌, ◌+◌, ◌*◌, ◌++◌, length, take}
use Rattle.std.specs.List.{flat_map}
use Rattle.dbformat.specs.Text.{hex_text}
use Rattle.dbmend.proofs.texts.append_hex.Given as goal

abbrev pub invariant-loop-byte : goal.invariant-loop-byte
invariant-loop-byte g l =
    (l.line.items ≡ l.initial.line.items ++ flat_map (hex_text 2) (take l.byte-index l.bytes))
    × (length l.line.items ≡ length l.initial.line.items + 2 * l.byte-index)
