use Rattle.std.proofs.Common.{◌≡◌, ◌+◌, ◌++◌, length, map, take}
use Rattle.dbformat.specs.FirstBytes.{shown_byte}
use Rattle.dblines.proofs.first_bytes.append_shown.Given as goal

abbrev pub invariant-loop-byte : goal.invariant-loop-byte
invariant-loop-byte g l =
    (l.line.items ≡ l.initial.line.items ++ map shown_byte (take l.byte-index l.bytes)) × (length l.line.items ≡ length l.initial.line.items + l.byte-index)
