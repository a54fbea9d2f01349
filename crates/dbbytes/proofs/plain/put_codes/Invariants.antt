use Rattle.std.proofs.Common.{drop}
use Rattle.std.specs.List.{flat_map}
use Rattle.dbformat.specs.PlainNames.{byte_code}
use Rattle.dbbytes.proofs.NameLemmas.{HasPut}
use Rattle.dbbytes.proofs.plain.put_codes.Given as goal

abbrev pub invariant-loop-byte : goal.invariant-loop-byte
invariant-loop-byte g l = HasPut (g.O.Out.held l.initial.out) (g.O.Out.held l.out)
    (flat_map byte_code (drop l.byte-index l.bytes)) (flat_map byte_code l.bytes)
