use Rattle.std.proofs.Common.{drop}
use Rattle.dbbytes.proofs.NameLemmas.{HasPut}
use Rattle.dbpicture.specs.Xml.{escaped}
use Rattle.dbpicture.proofs.xml.put_escaped.Given as goal

abbrev pub invariant-loop-byte : goal.invariant-loop-byte
invariant-loop-byte g l = HasPut (g.O.Out.held l.initial.out) (g.O.Out.held l.out) (escaped (drop l.byte-index l.text)) (escaped l.text)
