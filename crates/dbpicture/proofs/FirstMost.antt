-- The first of the greatest, number by number.
use Rattle.std.proofs.Common.{◌≡◌, ℕ, suc, ◌+◌, ◌<◌, ◌≤◌, true, false, cond, nat_lt, refl, sym, ap, ◌∙◌, arith}
use Rattle.std.proofs.lemmas.Bool.Decides.{nat_tests}
use Rattle.dbpicture.specs.Owners.{first_most}

module _ (much : ℕ → ℕ) where
  next_most : (n : ℕ) → first_most much (n + 1) ≡ cond (nat_lt (much (first_most much n)) (much n)) n (first_most much n)
  unfolding first_most
  next_most n = let e : n + 1 ≡ suc n = omega arith in ap (first_most much) e

  -- of the numbers below n, this one is the first with the most, and has so much
  pub record IsFirst (n one has : ℕ) : Type 0 where
    pub next : one ≡ first_most much n
    pub most : has ≡ much one

  pub none_first : (most : ℕ) → most ≡ much 0 → IsFirst 0 0 most
  unfolding first_most
  none_first most h = record { next = refl; most = h }

  module _ (n one most : ℕ) (is : IsFirst n one most) (new : ℕ) (has : new ≡ much n) where
    so : much (first_most much n) ≡ most
    so = ap much (sym is.next) ∙ sym is.most

    -- number n has more, or not
    pub first_here : most < new → IsFirst (n + 1) n new
    first_here l =
        let e : nat_lt (much (first_most much n)) (much n) ≡ true = let s = so in grind (arith, nat_tests) in
        record { next = sym (next_most n ∙ ap (λ b. cond b n (first_most much n)) e); most = has }

    pub first_before : new ≤ most → IsFirst (n + 1) one most
    first_before l =
        let e : nat_lt (much (first_most much n)) (much n) ≡ false = let s = so in grind (arith, nat_tests) in
        record { next = is.next ∙ sym (next_most n ∙ ap (λ b. cond b n (first_most much n)) e); most = is.most }
