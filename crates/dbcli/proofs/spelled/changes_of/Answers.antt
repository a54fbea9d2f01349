use Rattle.std.proofs.Common.{subst, sym, map, ◌<◌, []}
use Rattle.dbcli.specs.Spelled.{SpellsChange}
use Rattle.dbcli.proofs.Spelling.{none_spelled, one_more_spelled}
use Rattle.std.proofs.lemmas.List.{get_or-map, length-map}
use Rattle.dbcli.proofs.spelled.changes_of.Goals as goal

pub returns-in-Err-clause-refused : goal.returns-in-Err-clause-refused
returns-in-Err-clause-refused c = λ changes are spelled.
    none_spelled (map (λ word. word.now) c.args.words.now) c.loop-word.changes c.loop-word.word-index
    (subst (λ n. c.loop-word.word-index < n) (sym (length-map c.args.words.now (λ word. word.now))) c.loop-word-test.true) c.loop-word.invariant
    (λ d is s. c.in-Err.ensures.refused d is
    (subst (λ t. SpellsChange t d) (get_or-map (λ word. word.now) c.args.words.now c.loop-word.word-index _ [] c.loop-word-test.true) s))
    changes are spelled

pub loop-word-preserved : goal.loop-word-preserved
loop-word-preserved c = one_more_spelled c.args.words.now c.loop-word.changes c.add_spelled.new.changes c.loop-word.word-index _ c.loop-word-test.true
    c.loop-word.invariant c.in_default.ensures.added
