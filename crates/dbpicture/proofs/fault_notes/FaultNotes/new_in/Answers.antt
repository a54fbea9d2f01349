use Rattle.std.proofs.Common.{◌≡◌, ℕ, zero, suc, List, length, refl, ap, ◌∙◌}
use Rattle.std.specs.Prelude.{replicate, ◌==◌}
use Rattle.std.specs.Int.{bit_at, div_ceil}
use Rattle.std.proofs.lemmas.List.{length-replicate}
use Rattle.std.proofs.lemmas.Nat.Bits.{bit_at-zero}
use Rattle.dbpicture.specs.Faults.{sign_bit}
use Rattle.dbpicture.specs.Grids.{group_for}
use Rattle.dbpicture.specs.Keeping.{square_at}
use Rattle.dbpicture.specs.declared.faults.SquareFaults.{SquareFaults}
use Rattle.dbpicture.proofs.fault_notes.FaultNotes.new_in.Goals as goal

none_at : (n i : ℕ) → (square_at (replicate n (record { bits = 0 })) i).bits ≡ 0
none_at zero i = refl
none_at (suc n) zero = refl
none_at (suc n) (suc i) = none_at n i

pub returns : goal.returns
returns g c =
    let grid = c.new-grid.ensures in
    let many = ap (λ g. g.squares) grid in
    let empty : List SquareFaults = replicate (div_ceil c.args.pages (group_for c.args.pages)) (record { bits = 0 }) in
    let all : c.in_ok-squares.squares.items ≡ empty =
    c.in_ok-squares.ensures.items ∙ (λ i. replicate (many i) (record { bits = c.default.ensures i })) in
    record {
      pages = refl;
      group = ap (λ g. g.group) grid;
      room = ap length all ∙ length-replicate (div_ceil c.args.pages (group_for c.args.pages)) _;
      squares = λ index. (λ i sign. (ap (λ (n : ℕ). bit_at n (sign_bit sign) == 1)
          (ap (λ (l : List SquareFaults). (square_at l index).bits) all ∙ none_at _ index) ∙ ap (λ n. n == 1) (bit_at-zero (sign_bit sign))) i);
      faulty = record { room = c.in_ok-faulty.ensures.room; are = λ p l m. c.in_ok-faulty.ensures.none p };
      framed = record { room = c.in_ok-framed.ensures.room; are = λ p l m. c.in_ok-framed.ensures.none p };
    }
