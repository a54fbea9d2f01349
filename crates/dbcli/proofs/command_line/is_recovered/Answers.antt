use Rattle.std.proofs.Common.{◌∙◌, codes}
use Rattle.clap.proofs.WalkLemmas.{one_text-rows}
use Rattle.clap.specs.Words.{found_of}
use Rattle.dbcli.proofs.command_line.is_recovered.Goals as goal

pub returns : goal.returns
returns c =
    let row = one_text-rows (found_of c.args.given.now) (codes "recovered") in record {
      given = λ e. c.get_flag.ensures.value (row ∙ e);
      left_out = λ e. c.get_flag.ensures.other (row ∙ e);
      absent = λ e. c.get_flag.ensures.none (row ∙ e);
    }
