-- Whether a page is one of those of a file that have a bit.
use Rattle.std.proofs.Common.{◌≡◌, ℕ, ◌≤◌, ◌&&◌, Bool, false, refl, ap, ◌∙◌, arith}
use Rattle.std.specs.Prelude.{filter, ◌==◌}
use Rattle.std.specs.List.{range_with_len}
use Rattle.std.proofs.Math.Bool.{and-false, and-true}
use Rattle.std.proofs.lemmas.Bool.{eq-eqb, eqb-true}
use Rattle.std.proofs.lemmas.Map.Views.{any-filter_same}
use Rattle.dbsurvey.proofs.Elements.{IsIn-from_range, IsIn-range}
use Rattle.dbsurvey.proofs.Lists.{any_none, any_true}
use Rattle.dbpicture.specs.Owners.{is_one_of}
use Rattle.dbpicture.proofs.FaultBits.{unequal}

module _ (has : ℕ → Bool) (m p : ℕ) where
  by_bit : is_one_of (filter has (range_with_len 1 m)) p ≡ (has p && is_one_of (range_with_len 1 m) p)
  by_bit = any-filter_same (λ q. q == p) has (has p) (λ q e. ap has (eqb-true q p e)) (range_with_len 1 m)

  pub none_outside : (1 ≤ p → p ≤ m → ⊥) → is_one_of (filter has (range_with_len 1 m)) p ≡ false
  none_outside out = by_bit
      ∙ ap (λ b. has p && b) (any_none (λ q. q == p) (range_with_len 1 m)
      (λ q i. unequal q p (λ e. let within = IsIn-from_range 1 m q i in out (omega (arith, e, within)) (omega (arith, e, within)))))
      ∙ and-false (has p)

  pub bit_within : 1 ≤ p → p ≤ m → is_one_of (filter has (range_with_len 1 m)) p ≡ has p
  bit_within low high = by_bit
      ∙ ap (λ b. has p && b) (any_true (λ q. q == p) (range_with_len 1 m) p (IsIn-range 1 m p low (omega arith)) (eq-eqb p p refl))
      ∙ and-true (has p)
