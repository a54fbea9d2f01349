use Rattle.std.proofs.Common.{ap, ◌∙◌}
use Rattle.dbsource.specs.Changes.{changes_with}
use Rattle.dbcli.proofs.Spelling.{not_added, same_change}
use Rattle.dbcli.proofs.spelled.add_spelled.Goals as goal

pub returns-in-Err-clause-refused : goal.returns-in-Err-clause-refused
returns-in-Err-clause-refused c = λ d is spelled. not_added c.args.changes.now d c.in-Err.error
    (ap (changes_with c.args.changes.now) (same_change c.args.word.now d c.in_ok-change.change spelled c.in_ok-change.ensures.given) ∙ c.in-Err.ensures.added)
