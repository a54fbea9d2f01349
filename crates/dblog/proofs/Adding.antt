-- Loops that add up.
use Rattle.std.proofs.Common.{◌≡◌, ℕ, ◌+◌, [], ◌∷◌, sym, ap, ◌∙◌}
use Rattle.std.specs.List.{fold, range_with_len}
use Rattle.std.proofs.lemmas.List.Sums.{fold-append}
use Rattle.dbformat.proofs.Looping.{range-one-more}

-- one step more of a sum
pub one_more : {A : Type 0} (f : A → ℕ → A) (start s new : A) (i : ℕ) → s ≡ fold f start (range_with_len 0 i) → new ≡ f s i
    → new ≡ fold f start (range_with_len 0 (i + 1))
one_more f start s new i h e =
    e ∙ ap (λ t. f t i) h ∙ sym (ap (fold f start) (range-one-more i) ∙ fold-append f start (range_with_len 0 i) (i ∷ []))
