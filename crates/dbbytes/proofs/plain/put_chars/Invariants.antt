use Rattle.std.proofs.Common.{drop, length}
use Rattle.std.specs.List.{flat_map}
use Rattle.std.specs.Str.{chars}
use Rattle.dbformat.specs.PlainNames.{plain_char}
use Rattle.dbbytes.proofs.NameLemmas.{HasPut}
use Rattle.dbbytes.proofs.plain.put_chars.Given as goal

abbrev pub invariant-loop-char : goal.invariant-loop-char
invariant-loop-char g l = HasPut (g.O.Out.held l.initial.out) (g.O.Out.held l.out)
    (flat_map plain_char (drop (length l.yielded) (chars l.text))) (flat_map plain_char (chars l.text))
