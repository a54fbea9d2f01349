use Rattle.std.proofs.Common.{◌≡◌, map, take}
use Rattle.dbformat.specs.PlainNames.{plain_name}
use Rattle.dbformat.specs.declared.Encoding.TheVariants.{Utf8}
use Rattle.dbcli.proofs.shown.shown_words.Given as goal

abbrev pub invariant-loop-word : goal.invariant-loop-word
invariant-loop-word l = l.shown.items ≡ map (λ word. plain_name Utf8 word.now) (take l.word-index l.words)
