use Rattle.dbpicture.specs.Squares.{page_text}
use Rattle.dblines.proofs.Writing.{wrote_then}
use Rattle.dbpicture.proofs.page.PageSquare.draw.Goals as goal

pub returns : goal.returns
unfolding page_text
returns g c =
    let front = rw (
      c.shade_letter.ensures,
      c.is_lighter.ensures,
      c.shown_owner.ensures.owner,
      c.shows-blank.ensures,
      c.inset.ensures.inset,
      c.extent.ensures,
      c.stroke.ensures,
      c.frame-frame.ensures,
      c.place_front.ensures.text,
    ) at c.write_all.ensures in
    let place = rw (c.place_words.ensures.text, c.from_piece.ensures) at c.write_all-2.ensures in
    let end = rw c.bytes_words.ensures at c.write_all-3.ensures in
    wrote_then front (wrote_then c.write_shown.ensures (wrote_then place (wrote_then c.draw.ensures end)))
