-- Bytes that are all one, looked at piece by piece.
use Rattle.std.proofs.Common.{◌≡◌, ℕ, zero, suc, ◌+◌, ◌<◌, ◌≤◌, Bool, true, false, ◌&&◌, List, length, drop, get_or, ap, ◌∙◌, arith}
use Rattle.std.specs.Prelude.{◌==◌}
use Rattle.std.specs.List.{list_all}
use Rattle.std.proofs.Math.Seq.{drop-cons}
use Rattle.std.proofs.lemmas.Bool.Decides.{nat_tests}
use Rattle.std.proofs.lemmas.List.Folds.{list_all_at}
use Rattle.dbpage.specs.Marking.{HasOther}

abbrev pub are_all : ℕ → List ℕ → Bool
are_all one xs = list_all (λ byte. byte == one) xs

-- such bytes in front do not matter
pub same_passed : (one n i : ℕ) (xs : List ℕ) → i + n ≤ length xs → ((k : ℕ) → i ≤ k → k < i + n → get_or xs k 0 ≡ one)
    → are_all one (drop i xs) ≡ are_all one (drop (i + n) xs)
same_passed one zero i xs room same = ap (λ j. are_all one (drop j xs)) (omega arith)
same_passed one (suc n) i xs room same =
    let first : (get_or xs i 0 == one) ≡ true = grind (arith, nat_tests, same i (omega arith) (omega arith)) in
    ap (are_all one) (drop-cons xs i 0 (omega arith))
    ∙ ap (λ b. b && are_all one (drop (suc i) xs)) first
    ∙ same_passed one n (suc i) xs (omega arith) (λ k low high. same k (omega arith) (omega arith))
    ∙ ap (λ j. are_all one (drop j xs)) (omega arith)

-- another byte decides
pub not_all : (one from to : ℕ) (xs : List ℕ) → to ≤ length xs → HasOther xs one from to → are_all one xs ≡ false
not_all one from to xs room has = list_all_at (λ byte. byte == one) xs has.place 0 (omega (arith, has.below)) has.other
