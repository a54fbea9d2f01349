use Rattle.dbreport.proofs.Common.{other_of}
use Rattle.dbreport.proofs.StatPieces.{other_pieces}
use Rattle.dbreport.proofs.statistics.lines.other_line.Goals as goal

pub returns : goal.returns
returns c =
    rw (
      c.append_place.ensures,
      c.append_counts.ensures.text,
      c.append_text.ensures,
      c.append_count.ensures.text,
      c.append.ensures.text,
      c.new-line.ensures,
      c.other_text.ensures.text,
      c.from.ensures,
    ) (other_pieces c.args.page_size c.args.page (other_of c.args.what))
