-- A text of which the beginning was kept.
use Rattle.std.proofs.Common.{◌≡◌, ◌≤◌, ◌⊎◌, inl, inr, ℕ, List, [], length, take, Option, Some, Result, Ok, Err, sym, ap, ◌∙◌, subst, arith}
use Rattle.std.specs.Io.KnownBytes.{Appends}
use Rattle.std.proofs.lemmas.List.{take_all, take-append-le}
use Rattle.dbsource.specs.Outs.{Holding, Puts, at_once, empty_out}

-- what is kept is all that was put, or as much as there is room for
pub kept_is : {A E : Type 0} (r : Result A E) (o : Holding) (text bytes : List ℕ) → Puts r (at_once empty_out) (at_once o) text
    → o.bytes ≡ Some bytes → (o.failures ≡ 0) ⊎ (length bytes ≡ 320) → length bytes ≤ 320 → bytes ≡ take 320 text
kept_is (Ok x) o text bytes h e full most =
    let is : bytes ≡ text = subst (λ (b : Option (List ℕ)). Appends (Some []) b text) e h.held in
    let few : length text ≤ 320 = omega (arith, ap length is, most) in
    is ∙ sym (take_all 320 text few)
kept_is (Err x) o text bytes h (e) (inl z) most =
    let one = h.count in
    absurd (let no : ⊥ = omega (arith, one, z) in no)
kept_is (Err x) o text bytes h e (inr long) most =
    let begun = h.held in
    let is : bytes ≡ begun.part = subst (λ (b : Option (List ℕ)). Appends (Some []) b begun.part) e begun.added in
    let same : length begun.part ≡ 320 = sym (ap length is) ∙ long in
    let few : 320 ≤ length begun.part = omega (arith, same) in
    let most : length begun.part ≤ 320 = omega (arith, same) in
    is ∙ sym (ap (take 320) (sym begun.whole) ∙ take-append-le 320 begun.part begun.rest few ∙ take_all 320 begun.part most)
