use Rattle.std.proofs.Common.{◌≡◌, ◌∙◌, Bool, true, false, codes, refl}
use Rattle.std.specs.Prelude.{not}
use Rattle.clap.proofs.WalkLemmas.{one_text-rows}
use Rattle.clap.specs.Words.{found_of}
use Rattle.dbcli.proofs.command_line.shows_progress.Goals as goal

twice : (b : Bool) → not (not b) ≡ b
twice true = refl
twice false = refl

pub returns : goal.returns
returns c =
    let row = one_text-rows (found_of c.args.given.now) (codes "no-progress") in record {
      given = λ e. twice c.get_flag.result ∙ c.get_flag.ensures.value (row ∙ e);
      left_out = λ e. twice c.get_flag.result ∙ c.get_flag.ensures.other (row ∙ e);
      absent = λ e. twice c.get_flag.result ∙ c.get_flag.ensures.none (row ∙ e);
    }
