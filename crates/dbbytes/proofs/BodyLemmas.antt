-- The bodies of a record.
use Rattle.std.proofs.Common.{◌≡◌, ℕ, ◌+◌, ◌-◌, ◌<◌, ◌≤◌, List, [], ◌∷◌, ◌++◌, length, take, drop, get_or, set, Option, Some, None, cond, eqb, refl, sym, ap}
use Rattle.std.proofs.Common.{arith, append_assoc, append-nil, add-one, drop-cons}
use Rattle.std.specs.Prelude.{sum}
use Rattle.std.proofs.lemmas.Bool.Decides.{nat_tests}
use Rattle.std.proofs.lemmas.List.{take_all, drop_all}
use Rattle.std.proofs.lemmas.List.Sums.{sum_by-cons}
use Rattle.dbformat.specs.Options.{◌>>=◌}
use Rattle.dbformat.specs.Record.{serial_len, serial_lens}
use Rattle.dbbytes.proofs.ListLemmas.{pushed}

abbrev pub if_sum : List ℕ → ℕ → List ℕ → Option (List ℕ)
if_sum front left lens = cond (eqb (sum lens) left) (Some (front ++ lens)) None

-- the lengths, where the first ones are known, `left` bytes are left and these types follow
abbrev pub lens_from : List ℕ → ℕ → List ℕ → Option (List ℕ)
lens_from front left types = serial_lens types >>= λ lens. if_sum front left lens

sum_less : (n left : ℕ) (lens : List ℕ) → n ≤ left → eqb (sum (n ∷ lens)) left ≡ eqb (sum lens) (left - n)
sum_less n left lens h =
    let e : sum (n ∷ lens) ≡ n + sum lens = sum_by-cons (λ x. x) n lens in
    grind (arith, nat_tests)

next : (front : List ℕ) (left n : ℕ) (o : Option (List ℕ)) → n ≤ left
    → ((o >>= λ rest. Some (n ∷ rest)) >>= λ lens. if_sum front left lens) ≡ (o >>= λ lens. if_sum (front ++ n ∷ []) (left - n) lens)
next front left n None h = refl
next front left n (Some lens) h = rw (sum_less n left lens h, append_assoc front (n ∷ []) lens) refl

-- one more value, which is not longer than what is left
pub lens_from-next : (front : List ℕ) (left type n : ℕ) (types : List ℕ) → serial_len type ≡ Some n → n ≤ left
    → lens_from front left (type ∷ types) ≡ lens_from (front ++ n ∷ []) (left - n) types
lens_from-next front left type n types e h = rw e (next front left n (serial_lens types) h)

-- one more of the lengths
pub lens_from-more : (i n left : ℕ) (lens types : List ℕ) → i < 5 → length lens ≡ 5 → length types ≡ 5 → serial_len (get_or types i 0) ≡ Some n → n ≤ left
    → lens_from (take (i + 1) (set lens i n)) (left - n) (drop (i + 1) types) ≡ lens_from (take i lens) left (drop i types)
lens_from-more i n left lens types h k m e less =
    let front : take (i + 1) (set lens i n) ≡ take i lens ++ n ∷ [] = pushed i n lens (omega arith) in
    let rest : drop i types ≡ get_or types i 0 ∷ drop (i + 1) types = rw add-one (drop-cons types i 0 (omega arith)) in
    rw (front, rest) (sym (lens_from-next (take i lens) left (get_or types i 0) n (drop (i + 1) types) e less))

-- all of them
pub lens_from-all : (i left : ℕ) (lens types : List ℕ) → 5 ≤ i → length lens ≡ 5 → length types ≡ 5
    → lens_from (take i lens) left (drop i types) ≡ cond (eqb 0 left) (Some lens) None
lens_from-all i left lens types h k m =
    let front : take i lens ≡ lens = take_all i lens (omega arith) in
    let rest : drop i types ≡ [] = drop_all i types (omega arith) in
    rw (front, rest) (ap (λ w. cond (eqb 0 left) (Some w) None) (append-nil lens))
