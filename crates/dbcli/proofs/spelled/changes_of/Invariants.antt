use Rattle.std.proofs.Common.{map, take}
use Rattle.std.specs.List.{AllZip}
use Rattle.dbcli.specs.Spelled.{SpellsChange}
use Rattle.dbcli.proofs.spelled.changes_of.Given as goal

abbrev pub invariant-loop-word : goal.invariant-loop-word
invariant-loop-word l = AllZip SpellsChange (take l.word-index (map (λ word. word.now) l.words)) l.changes
