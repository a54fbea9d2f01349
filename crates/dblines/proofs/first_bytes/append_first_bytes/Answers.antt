use Rattle.std.proofs.Common.{append_assoc}
use Rattle.dblines.proofs.first_bytes.append_first_bytes.Goals as goal

pub returns-clause-text : goal.returns-clause-text
returns-clause-text g c =
    simp (c.append_shown.ensures.text, c.append-2.ensures.text, c.append_hex.ensures.text, c.append.ensures.text, append_assoc)
