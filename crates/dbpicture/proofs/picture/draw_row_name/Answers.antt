use Rattle.std.proofs.Common.{◌≡◌, ◌%◌, ◌<◌, ◌||◌, nat_lt, true, ap, ◌∙◌, arith}
use Rattle.std.specs.Prelude.{◌==◌}
use Rattle.std.proofs.Math.Bool.{or-true}
use Rattle.std.proofs.lemmas.Bool.{eq-eqb}
use Rattle.std.proofs.lemmas.Bool.Decides.{nat_tests}
use Rattle.dbpicture.specs.Grids.{side_of}
use Rattle.dbpicture.proofs.picture.draw_row_name.Goals as goal
use Rattle.dbpicture.proofs.picture.draw_row_name.Goals.{then-side-gt10-via-else-side-gt10+then-row-eq0, then-side-gt10-via-then-side-gt10}

pub returns-then-side-gt10 : goal.returns-then-side-gt10
returns-then-side-gt10 g c =
    let side = side_of c.args.grid.now.width in
    let row = c.args.row in
    let test : (nat_lt 10 side || (row % 2 == 0)) ≡ true = elim c.then-side-gt10.branch [
      | then-side-gt10-via-then-side-gt10 w ↦ (
          let high : 10 < side = omega (arith, c.side.ensures.side, w.if-side-gt10.true) in
          let is : nat_lt 10 side ≡ true = grind (arith, nat_tests) in
          ap (λ b. b || (row % 2 == 0)) is)
      | then-side-gt10-via-else-side-gt10+then-row-eq0 w ↦ ap (λ b. nat_lt 10 side || b) (eq-eqb (row % 2) 0 w.if-row-eq0.true) ∙ or-true (nat_lt 10 side)
    ] in
    rw test (rw (c.side-then-side-gt10.ensures.side, c.top_of.ensures.top, c.page_of_row.ensures) at c.write_all.ensures)
