-- A record is what is read of it byte by byte.
use Rattle.std.proofs.Common.{◌≡◌, ℕ, ◌+◌, ◌-◌, ◌<◌, ◌≤◌, Bool, true, false, ◌&&◌, List, [], length, take, drop, Option, Some, None, cond, eqb, leb, refl, sym}
use Rattle.std.proofs.Common.{ap, ◌∙◌, ◌⊎◌, inl, inr, arith}
use Rattle.std.specs.Prelude.{sum, option_map}
use Rattle.std.proofs.lemmas.Bool.{cases_lt}
use Rattle.std.proofs.lemmas.Bool.Decides.{nat_tests}
use Rattle.std.proofs.lemmas.List.{drop_all, drop-drop, drop-take, length-take, length-drop}
use Rattle.dbformat.specs.Options.{◌>>=◌}
use Rattle.dbformat.specs.Varint.{varint}
use Rattle.dbformat.specs.Record.{Value, serial_lens, varints, values, record_values}
use Rattle.dbformat.specs.SchemaRow.{schema_row}
use Rattle.dbformat.specs.declared.Encoding.{Encoding}
use Rattle.dbbytes.specs.Record.{body_values, numbers_from, values_from, sized_values, row_by}
use Rattle.dbbytes.proofs.VarintLemmas.{varint-from, with_rest}
use Rattle.dbbytes.proofs.RecordLemmas.{varints_next}

-- the values where the lengths of the bodies add up
abbrev added_up : ℕ → List ℕ → List ℕ → ℕ → List ℕ → Option (List Value)
added_up s types lens size bytes = cond (eqb (s + sum lens) size) (Some (values types lens (drop s bytes))) None

abbrev bodies_of : ℕ → List ℕ → ℕ → List ℕ → Option (List Value)
bodies_of s types size bytes = serial_lens types >>= λ lens. added_up s types lens size bytes

if_some : (b : Bool) (lens : List ℕ) (f : List ℕ → Option (List Value)) → (cond b (Some lens) None >>= f) ≡ cond b (f lens) None
if_some true lens f = refl
if_some false lens f = refl

sum_left : (s n size : ℕ) → s ≤ size → eqb n (size - s) ≡ eqb (s + n) size
sum_left s n size h = grind (arith, nat_tests)

same_bodies : (s size : ℕ) (types bytes : List ℕ) (o : Option (List ℕ)) → s ≤ size
    → ((o >>= λ lens. cond (eqb (sum lens) (size - s)) (Some lens) None) >>= λ lens. Some (values types lens (drop s bytes)))
    ≡ (o >>= λ lens. added_up s types lens size bytes)
same_bodies s size types bytes None h = refl
same_bodies s size types bytes (Some lens) h =
    if_some (eqb (sum lens) (size - s)) lens (λ w. Some (values types w (drop s bytes)))
    ∙ ap (λ b. cond b (Some (values types lens (drop s bytes))) None) (sum_left s (sum lens) size h)

same_types : (s size : ℕ) (bytes : List ℕ) (o : Option (List ℕ)) → s ≤ size
    → (o >>= λ types. body_values types (size - s) (drop s bytes)) ≡ (o >>= λ types. bodies_of s types size bytes)
same_types s size bytes None h = refl
same_types s size bytes (Some types) h = same_bodies s size types bytes (serial_lens types) h

no_lens : (s size : ℕ) (types bytes : List ℕ) (o : Option (List ℕ)) → size < s → (o >>= λ lens. added_up s types lens size bytes) ≡ None
no_lens s size types bytes None h = refl
no_lens s size types bytes (Some lens) h = let no : eqb (s + sum lens) size ≡ false = grind (arith, nat_tests) in rw no refl

no_types : (s size : ℕ) (bytes : List ℕ) (o : Option (List ℕ)) → size < s → (o >>= λ types. bodies_of s types size bytes) ≡ None
no_types s size bytes None h = refl
no_types s size bytes (Some types) h = no_lens s size types bytes (serial_lens types) h

-- the header, of s bytes, of which its size takes k, is within the record
within : (s k : ℕ) (bytes : List ℕ) → k ≤ s → s ≤ length bytes
    → values_from (s - k) (length bytes - s) [] 4 0 0 (drop k bytes) ≡ (varints 5 (drop k (take s bytes)) >>= λ types. bodies_of s types (length bytes) bytes)
unfolding values_from
within s k bytes h m =
    let whole : k + (s - k) ≡ s = omega arith in
    let room : leb (s - k) (length (drop k bytes)) ≡ true = grind (arith, nat_tests, length-drop k bytes) in
    let header : drop k (take s bytes) ≡ take (s - k) (drop k bytes) = rw whole at (drop-take k (s - k) bytes) in
    let rest : drop (s - k) (drop k bytes) ≡ drop s bytes = rw whole at (drop-drop (s - k) k bytes) in
    rw (room, rest, header, varints_next 4 (take (s - k) (drop k bytes)))
    (same_types s (length bytes) bytes (numbers_from 0 0 4 (take (s - k) (drop k bytes))) m)

-- it is not
without : (s k : ℕ) (bytes : List ℕ) → (s < k) ⊎ (length bytes < s) → (varints 5 (drop k (take s bytes)) >>= λ types. bodies_of s types (length bytes) bytes)
    ≡ None
without s k bytes (inl h) =
    let none : drop k (take s bytes) ≡ [] = drop_all k (take s bytes) (omega (arith, length-take s bytes)) in
    rw (none, varints_next 4 []) refl
without s k bytes (inr h) = no_types s (length bytes) bytes (varints 5 (drop k (take s bytes))) h

abbrev after_first : List ℕ → ℕ × ℕ × List ℕ → Option (List Value)
after_first bytes r = cond (leb r.1 r.0 && leb r.0 (length bytes)) (values_from (r.0 - r.1) (length bytes - r.0) [] 4 0 0 r.2) None

sized : (s k : ℕ) (bytes : List ℕ) → after_first bytes (s, k, drop k bytes)
    ≡ (varints 5 (drop k (take s bytes)) >>= λ types. bodies_of s types (length bytes) bytes)
sized s k bytes = elim (cases_lt s k) [
  | inl h ↦ (let no : (leb k s && leb s (length bytes)) ≡ false = grind (arith, nat_tests) in rw no (sym (without s k bytes (inl h))))
  | inr h ↦ elim (cases_lt (length bytes) s) [
    | inl m ↦ (let no : (leb k s && leb s (length bytes)) ≡ false = grind (arith, nat_tests) in rw no (sym (without s k bytes (inr m))))
    | inr m ↦ (let yes : (leb k s && leb s (length bytes)) ≡ true = grind (arith, nat_tests) in rw yes (within s k bytes h m))
  ]
]

first_size : (bytes : List ℕ) (o : Option (ℕ × ℕ))
    → (option_map {T = ℕ × ℕ} {U = ℕ × ℕ × List ℕ} (with_rest bytes) o >>= λ r. after_first bytes r)
    ≡ (o >>= λ size. varints 5 (drop size.1 (take size.0 bytes)) >>= λ types. bodies_of size.0 types (length bytes) bytes)
first_size bytes None = refl
first_size bytes (Some r) = sized r.0 r.1 bytes

pub sized_record : (bytes : List ℕ) → sized_values (length bytes) 0 0 bytes ≡ record_values 5 bytes
unfolding sized_values record_values
sized_record bytes = rw (varint-from bytes) (first_size bytes (varint bytes))

row_if : (e : Encoding) (b : Bool) (x y : Option (List Value)) → (b ≡ true → x ≡ y) → row_by e b x ≡ row_by e b y
row_if e true x y h = ap (λ w. row_by e true w) (h refl)
row_if e false x y h = refl

-- a row of which no byte has come
pub whole_row : (e : Encoding) (size n value : ℕ) (bytes : List ℕ) → n ≡ 0 → value ≡ 0
    → row_by e (eqb (n + length bytes) size) (sized_values size n value bytes) ≡ schema_row bytes size e
unfolding schema_row
whole_row e size n value bytes p q =
    let none : 0 + length bytes ≡ length bytes = omega arith in
    rw (p, q, none) (row_if e (eqb (length bytes) size) (sized_values size 0 0 bytes) (record_values 5 bytes)
    (λ t. let same : length bytes ≡ size = grind (arith, nat_tests) in rw same at (sized_record bytes)))
