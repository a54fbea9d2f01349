use Rattle.std.proofs.Common.{◌≡◌, ◌<◌, ◌^◌, ◌∙◌, codes, sym, arith}
use Rattle.clap.proofs.WalkLemmas.{one_text-rows}
use Rattle.clap.specs.Words.{found_of, one_of, rows_of}
use Rattle.std.specs.Str.Parse.{digits_value, without_leading_plus}
use Rattle.dbcli.proofs.Limits.{limit_of_row}
use Rattle.dbcli.proofs.command_line.limit_of.Goals as goal
use Rattle.dbcli.proofs.command_line.limit_of.Goals.{then-limit-lt1-via-then-limit-lt1, then-limit-lt1-via-else-limit-lt1+then-limit-most}

pub returns-clause-value : goal.returns-clause-value
returns-clause-value c =
    let found = found_of c.args.given.now in
    let row = one_text-rows found (codes "N") in
    limit_of_row (one_of (codes "N") (rows_of found)) c.in_ok-limit.limit (λ e. c.in_ok-limit.ensures.none (row ∙ e))
    (λ text e. let read = c.in_ok-limit.ensures.value text (row ∙ e) in (read.0.0.0, sym read.0.1))

pub returns-in_err-limit-clause-none : goal.returns-in_err-limit-clause-none
returns-in_err-limit-clause-none c = rw c.from_residual.ensures (λ limit range h.
    let read = c.in_err-limit.ensures.value h.0 (one_text-rows (found_of c.args.given.now) (codes "N") ∙ h.1) in
    let value : digits_value 10 (without_leading_plus h.0) ≡ limit = h.2.1 in
    let most = range.1 in
    let small : digits_value 10 (without_leading_plus h.0) < 2 ^ 32 = omega arith in
    read.1.0 (h.2.0, small))

pub returns-then-limit-lt1-clause-none : goal.returns-then-limit-lt1-clause-none
returns-then-limit-lt1-clause-none c = λ limit range h.
    let read = c.in_ok-limit.ensures.value h.0 (one_text-rows (found_of c.args.given.now) (codes "N") ∙ h.1) in
    let same : c.in_ok-limit.limit ≡ limit = read.0.1 ∙ h.2.1 in
    let least = range.0 in
    let most = range.1 in
    elim c.then-limit-lt1.branch [
      | then-limit-lt1-via-then-limit-lt1 w ↦ let less = w.if-limit-lt1 in absurd (omega arith)
      | then-limit-lt1-via-else-limit-lt1+then-limit-most w ↦ let more = w.if-limit-most in absurd (omega arith)
    ]
