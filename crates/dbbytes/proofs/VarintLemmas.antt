-- A variable-length integer is the same read byte by byte.
use Rattle.std.proofs.Common.{◌≡◌, ℕ, zero, suc, ◌+◌, ◌*◌, ◌%◌, ◌^◌, ◌<◌, ◌≤◌, Bool, true, false, List, [], ◌∷◌, length, take, drop, get_or, fold, Option, Some}
use Rattle.std.proofs.Common.{None, cond, eqb, ltb, leb, refl, sym, ◌∙◌, ◌⊎◌, inl, inr, arith}
use Rattle.std.specs.Prelude.{IfSome}
use Rattle.std.specs.Prelude.{option_map}
use Rattle.std.specs.List.{prefix_len}
use Rattle.std.proofs.lemmas.Nat.{pow-add}
use Rattle.std.proofs.Math.Pow.{pow_mono}
use Rattle.std.proofs.lemmas.Bool.Decides.{nat_tests}
use Rattle.dbformat.specs.Varint.{varint}
use Rattle.dbbytes.specs.Varint.{varint_from, GoesOn}

abbrev sevens_on : ℕ → List ℕ → ℕ
sevens_on value bytes = fold (λ n byte. n * 128 + byte % 128) value bytes

-- the number, where k more bytes than the n before may say that more follow, and m of them do
abbrev varint_at : ℕ → ℕ → ℕ → ℕ → List ℕ → Option (ℕ × ℕ × List ℕ)
varint_at m k n value bytes =
    cond (ltb m (length (take k bytes))) (Some (sevens_on value (take (m + 1) bytes), n + (m + 1), drop (m + 1) bytes))
    (cond (leb (k + 1) (length bytes)) (Some (sevens_on value (take k bytes) * 256 + get_or bytes k 0, 9, drop (k + 1) bytes)) None)

abbrev more_of : ℕ → List ℕ → ℕ
more_of k bytes = prefix_len (λ byte. leb 128 byte) (take k bytes)

lt_first : (n : ℕ) → ltb 0 (suc n) ≡ true
lt_first n = grind (arith, nat_tests)

lt_next : (m n : ℕ) → ltb (1 + m) (suc n) ≡ ltb m n
lt_next m n = grind (arith, nat_tests)

le_next : (k n : ℕ) → leb (suc k + 1) (suc n) ≡ leb (k + 1) n
le_next k n = grind (arith, nat_tests)

le_none : (k : ℕ) → leb (suc k + 1) 0 ≡ false
le_none k = grind (arith, nat_tests)

le_one : (n : ℕ) → leb 1 (suc n) ≡ true
le_one n = grind (arith, nat_tests)

take_next : (m b : ℕ) (bs : List ℕ) → take (1 + m + 1) (b ∷ bs) ≡ b ∷ take (m + 1) bs
take_next m b bs = let e : 1 + m + 1 ≡ suc (m + 1) = omega arith in rw e refl

drop_next : (m b : ℕ) (bs : List ℕ) → drop (1 + m + 1) (b ∷ bs) ≡ drop (m + 1) bs
drop_next m b bs = let e : 1 + m + 1 ≡ suc (m + 1) = omega arith in rw e refl

drop_suc : (k b : ℕ) (bs : List ℕ) → drop (suc k + 1) (b ∷ bs) ≡ drop (k + 1) bs
drop_suc k b bs = let e : suc k + 1 ≡ suc (k + 1) = omega arith in rw e refl

-- a byte that ends the number
at_last : (k n value b : ℕ) (bs : List ℕ) → leb 128 b ≡ false
    → varint_at (more_of (suc k) (b ∷ bs)) (suc k) n value (b ∷ bs) ≡ Some (value * 128 + b % 128, n + 1, bs)
at_last k n value b bs e = rw (e, lt_first (length (take k bs))) refl

-- a byte that says that more follow
at_more : (k n value b : ℕ) (bs : List ℕ) → leb 128 b ≡ true
    → varint_at (more_of (suc k) (b ∷ bs)) (suc k) n value (b ∷ bs) ≡ varint_at (more_of k bs) k (n + 1) (value * 128 + b % 128) bs
at_more k n value b bs e =
    let m = more_of k bs in
    let count : n + (1 + m + 1) ≡ n + 1 + (m + 1) = omega arith in
    rw (e, lt_next m (length (take k bs)), le_next k (length bs), take_next m b bs, drop_next m b bs, count, drop_suc k b bs) refl

not_ninth : (n k : ℕ) → n + suc k ≡ 8 → eqb n 8 ≡ false
not_ninth n k e = grind (arith, nat_tests)

one_less : (n k : ℕ) → n + suc k ≡ 8 → n + 1 + k ≡ 8
one_less n k e = omega arith

-- which of the two tests holds
byte_tests : (b : ℕ) → ((ltb b 128 ≡ true) × (leb 128 b ≡ false)) ⊎ ((ltb b 128 ≡ false) × (leb 128 b ≡ true))
byte_tests b = grind (arith, nat_tests)

from_at : (k n value : ℕ) (bytes : List ℕ) → n + k ≡ 8 → varint_from n value bytes ≡ varint_at (more_of k bytes) k n value bytes
from_at zero n value [] e = refl
from_at zero n value (b ∷ bs) e =
    let here : eqb n 8 ≡ true = grind (arith, nat_tests) in
    rw (here, le_one (length bs)) refl
from_at (suc k) n value [] e = rw (le_none k) refl
from_at (suc k) n value (b ∷ bs) e =
    let here = not_ninth n k e in
    elim (byte_tests b) [
      | inl t ↦ rw (here, t.0) (sym (at_last k n value b bs t.1))
      | inr t ↦ rw (here, t.0) (from_at k (n + 1) (value * 128 + b % 128) bs (one_less n k e) ∙ sym (at_more k n value b bs t.1))
    ]

-- the parts, and the bytes after them
abbrev pub with_rest : List ℕ → ℕ × ℕ → ℕ × ℕ × List ℕ
with_rest bytes r = (r.0, r.1, drop r.1 bytes)

abbrev picked : {A : Type 0} → Bool → Bool → A → A → Option A
picked {A} a b x y = cond {A = Option A} a (Some x) (cond {A = Option A} b (Some y) None)

mapped : (a b : Bool) (x y : ℕ × ℕ) (bytes : List ℕ) → picked a b (with_rest bytes x) (with_rest bytes y) ≡ option_map (with_rest bytes) (picked a b x y)
mapped true b x y bytes = refl
mapped false true x y bytes = refl
mapped false false x y bytes = refl

pub varint-from : (bytes : List ℕ) → varint_from 0 0 bytes ≡ option_map (with_rest bytes) (varint bytes)
unfolding varint
varint-from bytes =
    let m = more_of 8 bytes in
    let count : 0 + (m + 1) ≡ m + 1 = omega arith in
    let short : ℕ × ℕ = (sevens_on 0 (take (m + 1) bytes), m + 1) in
    let long : ℕ × ℕ = (sevens_on 0 (take 8 bytes) * 256 + get_or bytes 8 0, 9) in
    rw count at (from_at 8 0 0 bytes refl) ∙ mapped (ltb m (length (take 8 bytes))) (leb 9 (length bytes)) short long bytes

number_parts : (bytes : List ℕ) (o : Option (ℕ × ℕ)) → option_map {T = ℕ × ℕ × List ℕ} {U = ℕ × ℕ} (λ r. (r.0, r.1)) (option_map (with_rest bytes) o) ≡ o
number_parts bytes None = refl
number_parts bytes (Some x) = refl

pub varint-from-number : (bytes : List ℕ) → GoesOn 0 0 bytes bytes
varint-from-number bytes = rw (varint-from bytes) (number_parts bytes (varint bytes))

low_bits : (b : ℕ) → ltb b 128 ≡ true → 0 * 128 + b % 128 ≡ b
low_bits b h = grind (arith, nat_tests)

from_none : (b : ℕ) → 0 * 128 + b % 128 ≡ b % 128
from_none b = omega arith

-- the number, after its first byte
pub varint_after_first : (bytes : List ℕ) → 0 < length bytes
    → varint bytes ≡ cond (ltb (get_or bytes 0 0) 128) (Some (get_or bytes 0 0, 1))
    (option_map (λ r. (r.0, r.1)) (varint_from 1 (get_or bytes 0 0 % 128) (drop 1 bytes)))
varint_after_first [] long = absurd (omega arith)
varint_after_first (b ∷ bs) long =
    sym (varint-from-number (b ∷ bs)) ∙ elim (byte_tests b) [
      | inl t ↦ rw (t.0, low_bits b t.0) refl
      | inr t ↦ rw (t.0, from_none b) refl
    ]

-- the number takes at least one byte more than came before, at most nine, and no more than there are
abbrev pub IsWithin : ℕ → ℕ → ℕ × ℕ × List ℕ → Type 0
IsWithin n len r = (n < r.1) × (r.1 ≤ 9) × (r.1 ≤ n + len)

ninth_tests : (n : ℕ) → n ≤ 8 → ((eqb n 8 ≡ true) × (n ≡ 8)) ⊎ ((eqb n 8 ≡ false) × (n < 8))
ninth_tests n h = grind (arith, nat_tests)

wider : (n len : ℕ) (o : Option (ℕ × ℕ × List ℕ)) → IfSome o (IsWithin (n + 1) len) → IfSome o (IsWithin n (suc len))
wider n len None h = tt
wider n len (Some r) h = (omega arith, h.1, omega arith)

from_within : (n value : ℕ) (bytes : List ℕ) → n ≤ 8 → IfSome (varint_from n value bytes) (IsWithin n (length bytes))
from_within n value [] h = tt
from_within n value (b ∷ bs) h =
    elim (ninth_tests n h) [
      | inl e ↦ rw e.0 (omega arith, omega arith, omega arith)
      | inr e ↦ rw e.0 (elim (byte_tests b) [
        | inl t ↦ rw t.0 (omega arith, omega arith, omega arith)
        | inr t ↦ rw t.0 (wider n (length bs) _ (from_within (n + 1) (value * 128 + b % 128) bs (omega arith)))
      ])
    ]

number_within : (bytes : List ℕ) (o : Option (ℕ × ℕ)) → IfSome (option_map (with_rest bytes) o) (IsWithin 0 (length bytes))
    → IfSome o (λ r. (0 < r.1) × (r.1 ≤ 9) × (r.1 ≤ length bytes))
number_within bytes None h = tt
number_within bytes (Some r) h = (h.0, h.1, omega arith)

pub varint-within : (bytes : List ℕ) → IfSome (varint bytes) (λ r. (0 < r.1) × (r.1 ≤ 9) × (r.1 ≤ length bytes))
varint-within bytes = number_within bytes (varint bytes) (rw varint-from at (from_within 0 0 bytes (omega arith)))

-- seven more bits
pub sevens_more : (n value b : ℕ) → value < 2 ^ (7 * n) → b < 128 → value * 128 + b < 2 ^ (7 * (n + 1))
sevens_more n value b h k =
    let e : 7 * (n + 1) ≡ 7 * n + 7 = omega arith in
    rw (e, pow-add 2 (7 * n) 7) (omega arith)

-- fewer than eight bytes leave room for one more
pub sevens_small : (n value : ℕ) → value < 2 ^ (7 * n) → n < 8 → value < 562949953421312
sevens_small n value h k =
    let e : 2 ^ (7 * n) ≤ 2 ^ 49 = pow_mono {i = 7 * n} {j = 49} (omega arith) in
    omega arith
