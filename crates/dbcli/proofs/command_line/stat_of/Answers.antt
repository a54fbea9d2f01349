use Rattle.std.proofs.Common.{◌∙◌, codes}
use Rattle.clap.proofs.WalkLemmas.{one_text-rows}
use Rattle.clap.specs.Words.{found_of}
use Rattle.dbcli.proofs.command_line.stat_of.Goals as goal

pub returns-clause-flags : goal.returns-clause-flags
returns-clause-flags c =
    let aggregate = one_text-rows (found_of c.args.given.now) (codes "aggregate") in
    let all = one_text-rows (found_of c.args.given.now) (codes "all") in (
      record {
        given = λ e. c.get_flag.ensures.value (aggregate ∙ e);
        left_out = λ e. c.get_flag.ensures.other (aggregate ∙ e);
        absent = λ e. c.get_flag.ensures.none (aggregate ∙ e);
      },
      record {
        given = λ e. c.get_flag-2.ensures.value (all ∙ e);
        left_out = λ e. c.get_flag-2.ensures.other (all ∙ e);
        absent = λ e. c.get_flag-2.ensures.none (all ∙ e);
      },
    )
