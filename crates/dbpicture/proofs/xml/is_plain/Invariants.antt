use Rattle.std.proofs.Common.{◌≡◌, drop}
use Rattle.dbpicture.specs.Xml.{escaped}
use Rattle.dbpicture.proofs.xml.is_plain.Given as goal

abbrev pub invariant-loop-byte : goal.invariant-loop-byte
invariant-loop-byte l = escaped (drop l.byte-index l.text) ≡ drop l.byte-index l.text → escaped l.text ≡ l.text
