use Rattle.std.proofs.Common.{◌∙◌, ap, rules, drop}
use Rattle.std.specs.Str.Lossy.{utf8_error_len}
use Rattle.std.proofs.lemmas.Str.{utf8_valid_len-IsUtf8}
use Rattle.std.proofs.Math.Seq.{drop-length}
use Rattle.dbcli.proofs.copied.is_utf8_so_far.Goals as goal

pub returns-in-Ok : goal.returns-in-Ok
unfolding utf8_error_len
returns-in-Ok c = (
  λ t. ap (λ n. utf8_error_len (drop n c.args.bytes.now)) (utf8_valid_len-IsUtf8 c.args.bytes.now c.in-Ok.ensures.cases.1)
      ∙ ap utf8_error_len (drop-length c.args.bytes.now),
  λ h. search rules,
)
