use Rattle.std.proofs.Common.{◌≡◌, ℕ, ◌+◌, ◌*◌, ◌≤◌, Bool, List, [], ap, ◌∙◌, arith, refl, eq-eqb}
use Rattle.std.specs.Prelude.{◌==◌, true, false}
use Rattle.std.specs.Option.{option_map_or}
use Rattle.std.proofs.Math.Nat.{mul-le-mul_right}
use Rattle.dblines.proofs.Writing.{of_all, of_as, of_then, wrote_then}
use Rattle.dbpicture.specs.Faults.{shown}
use Rattle.dbpicture.specs.Keeping.{drawn_by}
use Rattle.dbpicture.specs.Grids.{columns_of}
use Rattle.dbpicture.specs.Groups.{group_text}
use Rattle.dbpicture.specs.Squares.{Drawn, group_square, page_square, page_text, page_tree, row_text, square_text, squares_between}
use Rattle.dbpicture.specs.declared.faults.Sign.{Sign}
use Rattle.dbpicture.specs.declared.group.GroupSquare.{GroupSquare}
use Rattle.dbpicture.specs.declared.page.PageSquare.{PageSquare}
use Rattle.dbpicture.proofs.FaultBits.{unequal}
use Rattle.dbpicture.proofs.Steps.{of_range_more, of_range_none}
use Rattle.dbpicture.proofs.squares.Squares.draw_row.Goals as goal
use Rattle.dbpicture.proofs.squares.Squares.draw_row.Goals.{then-grid-eq1, else-grid-eq1}

-- what is drawn of a page, and of a group, is the square of its place
module _ (d : Drawn) (index : ℕ) (f : Sign → Bool) (faults : f ≡ d.faults index) where
  page_is : (s : PageSquare) (tree : List ℕ) → d.grid.group ≡ 1 → s ≡ page_square d index → tree ≡ option_map_or d.tree (page_tree d index) []
      → page_text s d.grid.width tree f ≡ square_text d index
  page_is s tree one is named =
      let test : (d.grid.group == 1) ≡ true = eq-eqb d.grid.group 1 one in
      rw (is, named, faults, test) refl

  group_is : (s : GroupSquare) → (d.grid.group ≡ 1 → ⊥) → s ≡ group_square d index → group_text s d.grid.width d.names f ≡ square_text d index
  group_is s more is =
      let test : (d.grid.group == 1) ≡ false = unequal d.grid.group 1 more in
      rw (is, faults, test) refl

pub loop-index-init : goal.loop-index-init
loop-index-init g c = record {
  drawn = of_range_none (λ file V. square_text (drawn_by c.args.self.now V)) c.places_of-first.result.0 c.write_all.new.self (omega arith);
  tree = rw c.none-tree.ensures;
}

pub loop-index-preserved : goal.loop-index-preserved
loop-index-preserved g c =
    let s = c.args.self.now in
    let index = c.loop-index.index in
    let first = c.places_of-first.result.0 in
    let f = shown c.of_square-faults.result.bits in
    elim c.if-grid-eq1.branch [
      | then-grid-eq1 w ↦ rw (w.writer-is, w.tree-is) (record {
        drawn = of_range_more (λ file V. square_text (drawn_by s V)) first _ index c.loop-index.invariant.drawn
            (of_as (λ file V of. page_is (drawn_by s V) index f c.of_square-faults.ensures w.page_square-square.result w.page_square-square.new.tree.name
            w.if-grid-eq1.true (w.page_square-square.ensures.square file V of) (ap (λ t. t.name) (w.page_square-square.ensures.named file V of)))
            (of_all w.draw.ensures))
            (omega (arith, c.loop-index.auto.index)) (omega (arith, c.loop-index.auto.index));
        tree = w.page_square-square.ensures.tree;
      })
      | else-grid-eq1 w ↦ rw (w.writer-is, w.tree-is) (record {
        drawn = of_range_more (λ file V. square_text (drawn_by s V)) first _ index c.loop-index.invariant.drawn
            (of_as (λ file V of. group_is (drawn_by s V) index f c.of_square-faults.ensures w.group_square-square.result w.if-grid-eq1.false
            (w.group_square-square.ensures file V of)) (of_all w.draw-else-grid-eq1.ensures))
            (omega (arith, c.loop-index.auto.index)) (omega (arith, c.loop-index.auto.index));
        tree = c.loop-index.invariant.tree;
      })
    ]

pub returns : goal.returns
unfolding row_text
returns g c =
    let row = c.args.row in
    let k = columns_of c.args.self.now.grid.width in
    let more : row * k ≤ (row + 1) * k = mul-le-mul_right k (let next : row ≤ row + 1 = omega arith in next) in
    let first = ap (λ p. p.0) c.places_of-first.ensures in
    let last = ap (λ p. p.1) c.places_of-first.ensures in
    let end : c.loop-index.index ≡ c.places_of-first.result.1 = omega (arith, more, first, last) in
    let squares = of_as (λ file V k. ap (λ n. squares_between (drawn_by c.args.self.now V) (c.places_of-first.result.0, n)) end
    ∙ ap (squares_between (drawn_by c.args.self.now V)) c.places_of-first.ensures) c.loop-index.invariant.drawn in
    let front = rw c.top_of.ensures.top at c.write_all.ensures in
    of_then (of_all front) (of_then squares (of_all (wrote_then c.draw_outlines.ensures c.write_all-2.ensures)))
