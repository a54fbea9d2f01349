use Rattle.std.proofs.Common.{◌≡◌, ◌<◌, ◌≤◌, ℕ, ℤ, false, cond, Option, Some, None, Result, Ok, Err, refl, sym, ap, subst, arith, ◌∙◌, option_and_then, ◌==◌}
use Rattle.dbwalk.proofs.Common.{child_step, Cell, cell, child_number, count, right_child, View, CellFault, left_key, IsNextStep, no_child, result_ok}
use Rattle.dbwalk.proofs.Common.{nat_tests}
use Rattle.std.proofs.lemmas.Bool.{eq-eqb}
use Rattle.dbwalk.specs.Steps.{child_of}
use Rattle.dbwalk.proofs.steps.child_at.Goals as goal

-- the child and its key are those of the page
next_child : (v : View) (i : ℕ) (page : Option ℕ) (key : Option ℤ) → i ≤ count v → child_number v i ≡ page → key ≡ left_key v i
    → IsNextStep v (child_step i) (child_of page key)
next_child v i None key low number e = no_child i refl low number
next_child v i (Some page) key low number e = record { n = i; step = refl; low = low; number = number; left = e }

-- those of a cell
of_cell : (v : View) (i : ℕ) (r : Result Cell CellFault) → i < count v → cell v i ≡ r → (child_number v i ≡ option_and_then (λ x. x.left) (result_ok r))
    × (option_and_then (λ x. x.key) (result_ok r) ≡ left_key v i)
of_cell v i r low read = (
  ap (λ b. cond b (right_child v) (option_and_then (λ x. x.left) (result_ok (cell v i)))) (apart i (count v) low)
      ∙ ap (λ r. option_and_then (λ x. x.left) (result_ok r)) read,
  sym (ap (λ b. cond b None (option_and_then (λ x. x.key) (result_ok (cell v i)))) (apart i (count v) low)
      ∙ ap (λ r. option_and_then (λ x. x.key) (result_ok r)) read),
)
  where
    apart : (n m : ℕ) → n < m → (n == m) ≡ false
    apart n m l = grind (arith, nat_tests)

pub returns-then-i-cells-2 : goal.returns-then-i-cells-2
returns-then-i-cells-2 c =
    let v = c.args.view.now in
    let n : c.args.cells ≡ count v = c.requires in
    let i : c.args.i ≡ count v = omega arith in
    let low : c.args.i ≤ count v = omega arith in
    subst (λ next. IsNextStep v (child_step c.args.i) next) (sym c.child_of.ensures) (next_child v c.args.i c.child.result None low (sym c.child.ensures)
    (sym (ap (λ b. cond b None (option_and_then (λ x. x.key) (result_ok (cell v c.args.i)))) (eq-eqb c.args.i (count v) i))))

pub returns-in-Ok : goal.returns-in-Ok
returns-in-Ok c =
    let v = c.args.view.now in
    let n : c.args.cells ≡ count v = c.requires in
    let low : c.args.i < count v = omega arith in
    let at = of_cell v c.args.i (Ok c.in-Ok.cell) low (sym c.cell.ensures ∙ c.in-Ok.is) in
    let same = c.cell-in-Ok.view_is in
    subst (λ next. IsNextStep v (child_step c.args.i) next) (sym c.child_of-in-Ok.ensures) (next_child v c.args.i _ _ (omega arith)
    (at.0 ∙ sym (ap (λ (x : Cell). x.left) same)) (ap (λ (x : Cell). x.key) same ∙ at.1))

pub returns-in-Err : goal.returns-in-Err
returns-in-Err c =
    let v = c.args.view.now in
    let n : c.args.cells ≡ count v = c.requires in
    let low : c.args.i < count v = omega arith in
    no_child c.args.i refl (omega arith) (of_cell v c.args.i (Err c.in-Err.field-0) low (sym c.cell.ensures ∙ c.in-Err.is)).0
