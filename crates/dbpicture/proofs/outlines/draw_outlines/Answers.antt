use Rattle.std.proofs.Common.{◌≡◌, ◌<◌, true, nat_lt, ap, ap₂, ◌∙◌, max, arith}
use Rattle.std.proofs.lemmas.Bool.Decides.{nat_tests}
use Rattle.dblines.proofs.Writing.{wrote_as, wrote_then}
use Rattle.dbpicture.specs.Grids.{places_of}
use Rattle.dbpicture.specs.Squares.{outlines_between}
use Rattle.dbpicture.proofs.outlines.draw_outlines.Goals as goal

pub returns-then-first-end : goal.returns-then-first-end
returns-then-first-end g c =
    let first = c.max-first.result in
    let end = c.places_of-first.result.1 in
    let some : first < end = c.if-first-end.true in
    let test : nat_lt first end ≡ true = grind (arith, nat_tests) in
    let places = c.places_of-first.ensures ∙ ap (places_of c.args.grid.now c.args.row) c.places.ensures in
    wrote_as (ap₂ (outlines_between c.args.grid.now) (c.max-first.ensures ∙ ap (λ p. max p.0 c.args.grid.now.squares) places) (ap (λ p. p.1) places))
    (rw test (wrote_then c.write_all.ensures (wrote_then c.draw_places.ensures c.write_all-then-first-end.ensures)))
