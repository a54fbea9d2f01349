use Rattle.std.proofs.Common.{arith, sym, ap, ◌∙◌, take, drop}
use Rattle.std.proofs.Math.ListN.{drop_of_length-le}
use Rattle.std.proofs.Math.Seq.{take-length}
use Rattle.std.proofs.lemmas.List.{length-drop}
use Rattle.dbcli.proofs.copied.after_numbers.Goals as goal

pub returns-then-bytes-lt-NUMBERS : goal.returns-then-bytes-lt-NUMBERS
returns-then-bytes-lt-NUMBERS c = sym (drop_of_length-le c.args.bytes.now {i = 80} (omega (arith, c.if-bytes-lt-NUMBERS.true)))

pub returns-else-bytes-lt-NUMBERS : goal.returns-else-bytes-lt-NUMBERS
returns-else-bytes-lt-NUMBERS c =
    ap (λ n. take n (drop 80 c.args.bytes.now)) (sym (length-drop 80 c.args.bytes.now)) ∙ take-length (drop 80 c.args.bytes.now)
