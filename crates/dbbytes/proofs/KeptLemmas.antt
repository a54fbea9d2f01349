-- The bytes that a sieve keeps of a row are enough to determine the row.
use Rattle.std.proofs.Common.{◌≡◌, ℕ, ◌+◌, ◌%◌, ◌<◌, ◌≤◌, Bool, true, false, not, ◌&&◌, List, [], ◌∷◌, length, take, drop, get_or, min, Option, Some, None}
use Rattle.std.proofs.Common.{Result, cond, eqb, leb, ℤ, refl, sym, ap, ◌∙◌, ◌⊎◌, inl, inr, arith}
use Rattle.std.specs.Prelude.{sum, codes}
use Rattle.std.specs.Str.{bytes_eq}
use Rattle.std.proofs.lemmas.Bool.{cases_lt, false≢true}
use Rattle.std.proofs.lemmas.Bool.Decides.{nat_tests}
use Rattle.std.proofs.lemmas.List.{take_all, drop-drop, length-take}
use Rattle.std.proofs.lemmas.Slice.Eq.{bytes_eq-Decides}
use Rattle.dbformat.specs.Options.{◌>>=◌}
use Rattle.dbformat.specs.Record.{Value, null, integer, float, blob, text, value_of, serial_len, serial_lens}
use Rattle.dbformat.specs.Tests.{first_true}
use Rattle.dbformat.specs.Text.{ascii_in}
use Rattle.dbformat.specs.SchemaRow.{SchemaRow, row_kind, root_number, row_name, row_of_values}
use Rattle.dbformat.specs.declared.Encoding.{Encoding}
use Rattle.dbformat.specs.declared.Encoding.TheVariants.{Utf8, Utf16le, Utf16be}
use Rattle.dbformat.specs.declared.RowFault.{RowFault}
use Rattle.dbformat.specs.declared.RowKind.TheVariants.{Table, Index, View, Trigger}
use Rattle.dbbytes.specs.Record.{body_lens, body_values}
use Rattle.dbbytes.specs.Sieve.{row_of_kept}

-- the first bytes, cut where a column or what is kept of it ends
cut_short : (n most : ℕ) (xs : List ℕ) → n ≤ most → take (min n most) xs ≡ take n xs
cut_short n most xs h = let e : min n most ≡ n = omega arith in rw e refl

-- either as many as they are, or both longer than one less
cut : (n most : ℕ) (xs : List ℕ) → (take (min n most) xs ≡ take n xs) ⊎ ((most ≤ length (take (min n most) xs)) × (most ≤ length (take n xs)))
cut n most xs = elim (cases_lt most n) [
  | inr h ↦ inl (cut_short n most xs h)
  | inl h ↦ elim (cases_lt (length xs) most) [
    | inl short ↦ inl (take_all (min n most) xs (omega arith) ∙ sym (take_all n xs (omega arith)))
    | inr long ↦ inr (omega (arith, length-take (min n most) xs), omega (arith, length-take n xs))
  ]
]

apart : (xs ys : List ℕ) (b : Bool) → bytes_eq xs ys ≡ b → length ys < length xs → b ≡ false
apart xs ys true e h = absurd (omega (arith, ap length ((bytes_eq-Decides xs ys).0 e)))
apart xs ys false e h = refl

-- a text is none that is shorter
longer : (xs ys : List ℕ) → length ys < length xs → bytes_eq xs ys ≡ false
longer xs ys h = apart xs ys (bytes_eq xs ys) refl h

none_of : (a b c d : Bool) → a ≡ false → b ≡ false → c ≡ false → d ≡ false
    → first_true ((a, Table) ∷ (b, Index) ∷ (c, View) ∷ (d, Trigger) ∷ []) ≡ None
none_of a b c d p q r s = rw (p, q, r, s) refl

chosen_none : {A : Type 0} (b : Bool) (o : Option A) → o ≡ None → cond b o None ≡ None
chosen_none true o e = e
chosen_none false o e = refl

none_some : {A : Type 0} {x : A} → None ≡ Some x → ⊥
none_some e = cc

by_sum : (b : Bool) (xs lens : List ℕ) → cond b (Some xs) None ≡ Some lens → Some xs ≡ Some lens
by_sum true xs lens e = e
by_sum false xs lens e = absurd (none_some e)

-- no type is so long
kind_long : (e : Encoding) (bytes : List ℕ) → 15 ≤ length bytes → row_kind e (text bytes) ≡ None
kind_long Utf8 bytes h = none_of _ _ _ _ (longer bytes (ascii_in Utf8 (codes "table")) (omega arith))
    (longer bytes (ascii_in Utf8 (codes "index")) (omega arith))
    (longer bytes (ascii_in Utf8 (codes "view")) (omega arith)) (longer bytes (ascii_in Utf8 (codes "trigger")) (omega arith))
kind_long Utf16le bytes h = none_of _ _ _ _ (longer bytes (ascii_in Utf16le (codes "table")) (omega arith))
    (longer bytes (ascii_in Utf16le (codes "index")) (omega arith))
    (longer bytes (ascii_in Utf16le (codes "view")) (omega arith)) (longer bytes (ascii_in Utf16le (codes "trigger")) (omega arith))
kind_long Utf16be bytes h = none_of _ _ _ _ (longer bytes (ascii_in Utf16be (codes "table")) (omega arith))
    (longer bytes (ascii_in Utf16be (codes "index")) (omega arith))
    (longer bytes (ascii_in Utf16be (codes "view")) (omega arith)) (longer bytes (ascii_in Utf16be (codes "trigger")) (omega arith))

-- no name is so long
name_long : (e : Encoding) (bytes : List ℕ) → 1001 ≤ length bytes → row_name e (text bytes) ≡ None
name_long e bytes h = let no : leb (length bytes) 1000 ≡ false = grind (arith, nat_tests) in rw no refl

-- the value of a serial type by the tests for its class
abbrev classed : Bool → Bool → Bool → Bool → Bool → ℤ → ℤ → List ℕ → Value
classed a b c d f y z bytes = cond a null (cond b (integer y) (cond c float (cond d (integer z) (cond f (blob bytes) (text bytes)))))

abbrev is_text : Bool → Bool → Bool → Bool → Bool → Bool
is_text a b c d f = not a && not b && not c && not d && not f

kind_of_class : (e : Encoding) (a b c d f : Bool) (y z : ℤ) (bytes : List ℕ)
    → row_kind e (classed a b c d f y z bytes) ≡ cond (is_text a b c d f) (row_kind e (text bytes)) None
kind_of_class e true b c d f y z bytes = refl
kind_of_class e false true c d f y z bytes = refl
kind_of_class e false false true d f y z bytes = refl
kind_of_class e false false false true f y z bytes = refl
kind_of_class e false false false false true y z bytes = refl
kind_of_class e false false false false false y z bytes = refl

name_of_class : (e : Encoding) (a b c d f : Bool) (y z : ℤ) (bytes : List ℕ)
    → row_name e (classed a b c d f y z bytes) ≡ cond (is_text a b c d f) (row_name e (text bytes)) None
name_of_class e true b c d f y z bytes = refl
name_of_class e false true c d f y z bytes = refl
name_of_class e false false true d f y z bytes = refl
name_of_class e false false false true f y z bytes = refl
name_of_class e false false false false true y z bytes = refl
name_of_class e false false false false false y z bytes = refl

long_kind : (e : Encoding) (type : ℕ) (bytes : List ℕ) → 15 ≤ length bytes → row_kind e (value_of type bytes) ≡ None
long_kind e type bytes h =
    kind_of_class e (eqb type 0) (leb type 6) (eqb type 7) (leb type 9) (eqb (type % 2) 0) _ _ bytes
    ∙ chosen_none (is_text (eqb type 0) (leb type 6) (eqb type 7) (leb type 9) (eqb (type % 2) 0)) (row_kind e (text bytes)) (kind_long e bytes h)

long_name : (e : Encoding) (type : ℕ) (bytes : List ℕ) → 1001 ≤ length bytes → row_name e (value_of type bytes) ≡ None
long_name e type bytes h =
    name_of_class e (eqb type 0) (leb type 6) (eqb type 7) (leb type 9) (eqb (type % 2) 0) _ _ bytes
    ∙ chosen_none (is_text (eqb type 0) (leb type 6) (eqb type 7) (leb type 9) (eqb (type % 2) 0)) (row_name e (text bytes)) (name_long e bytes h)

-- what is kept of a type is the type
kind_kept : (e : Encoding) (type n : ℕ) (xs : List ℕ) → row_kind e (value_of type (take (min n 15) xs)) ≡ row_kind e (value_of type (take n xs))
kind_kept e type n xs = elim (cut n 15 xs) [
  | inl same ↦ ap (λ w. row_kind e (value_of type w)) same
  | inr long ↦ long_kind e type (take (min n 15) xs) long.0 ∙ sym (long_kind e type (take n xs) long.1)
]

-- what is kept of a name is the name
name_kept : (e : Encoding) (type n : ℕ) (xs : List ℕ) → row_name e (value_of type (take (min n 1001) xs)) ≡ row_name e (value_of type (take n xs))
name_kept e type n xs = elim (cut n 1001 xs) [
  | inl same ↦ ap (λ w. row_name e (value_of type w)) same
  | inr long ↦ long_name e type (take (min n 1001) xs) long.0 ∙ sym (long_name e type (take n xs) long.1)
]

short_choice : (a b c d : Bool) (type n : ℕ) (rest : Option ℕ) → cond a (Some type) (cond b (Some 6) (cond c (Some 8) (cond d (Some 0) rest))) ≡ Some n
    → type ≤ 9 → (a ≡ true → type ≤ 8) → d ≡ true → n ≤ 8
short_choice true b c d type n rest e h k m = let same : type ≡ n = cc in omega (arith, k refl)
short_choice false true c d type n rest e h k m = let same : 6 ≡ n = cc in omega arith
short_choice false false true d type n rest e h k m = let same : 8 ≡ n = cc in omega arith
short_choice false false false true type n rest e h k m = let same : 0 ≡ n = cc in omega arith
short_choice false false false false type n rest e h k m = absurd (false≢true m)

-- an integer has eight bytes at most
integer_len : (type n : ℕ) → type ≤ 9 → serial_len type ≡ Some n → n ≤ 8
unfolding serial_len
integer_len type n h e = short_choice (leb type 4) (leb type 5) (leb type 7) (leb type 9) type n _ e h (λ k. grind (arith, nat_tests))
    (grind (arith, nat_tests))

no_root : (a b c d f : Bool) (y z : ℤ) (bytes : List ℕ) → a ≡ false → b ≡ false → d ≡ false → root_number (classed a b c d f y z bytes) ≡ None
no_root a b true d f y z bytes p q r = rw (p, q) refl
no_root a b false d true y z bytes p q r = rw (p, q, r) refl
no_root a b false d false y z bytes p q r = rw (p, q, r) refl

no_integer : (type : ℕ) (bytes : List ℕ) → 9 < type → root_number (value_of type bytes) ≡ None
no_integer type bytes h = no_root (eqb type 0) (leb type 6) (eqb type 7) (leb type 9) (eqb (type % 2) 0) _ _ bytes
    (grind (arith, nat_tests)) (grind (arith, nat_tests)) (grind (arith, nat_tests))

-- what is kept of a root page is the root page
root_kept : (type n : ℕ) (xs : List ℕ) → serial_len type ≡ Some n → root_number (value_of type (take (min n 8) xs)) ≡ root_number (value_of type (take n xs))
root_kept type n xs e = elim (cases_lt 9 type) [
  | inl h ↦ no_integer type (take (min n 8) xs) h ∙ sym (no_integer type (take n xs) h)
  | inr h ↦ ap (λ w. root_number (value_of type w)) (cut_short n 8 xs (integer_len type n h e))
]

-- the lengths, one after another
len_of : (o : Option ℕ) (p : Option (List ℕ)) (n : ℕ) (ns : List ℕ)
    → (o >>= λ first. p >>= λ rest. Some (first ∷ rest)) ≡ Some (n ∷ ns) → (o ≡ Some n) × (p ≡ Some ns)
len_of None p n ns e = absurd (none_some e)
len_of (Some x) None n ns e = absurd (none_some e)
len_of (Some x) (Some xs) n ns e = let same : (x ≡ n) × (xs ≡ ns) = (cc, cc) in (ap (λ w. Some w) same.0, ap (λ w. Some w) same.1)

lens_of : (bodies : ℕ) (o : Option (List ℕ)) (lens : List ℕ) → (o >>= λ lens. cond (eqb (sum lens) bodies) (Some lens) None) ≡ Some lens → o ≡ Some lens
lens_of bodies None lens e = absurd (none_some e)
lens_of bodies (Some xs) lens e = by_sum (eqb (sum xs) bodies) xs lens e

-- the fourth of the lengths
fourth : (a b c d f : ℕ) (n0 n1 n2 n3 n4 bodies : ℕ) → body_lens (a ∷ b ∷ c ∷ d ∷ f ∷ []) bodies ≡ Some (n0 ∷ n1 ∷ n2 ∷ n3 ∷ n4 ∷ []) → serial_len d ≡ Some n3
fourth a b c d f n0 n1 n2 n3 n4 bodies e =
    let all = lens_of bodies (serial_lens (a ∷ b ∷ c ∷ d ∷ f ∷ [])) (n0 ∷ n1 ∷ n2 ∷ n3 ∷ n4 ∷ []) e in
    let one = (len_of (serial_len a) (serial_lens (b ∷ c ∷ d ∷ f ∷ [])) n0 (n1 ∷ n2 ∷ n3 ∷ n4 ∷ []) all).1 in
    let two = (len_of (serial_len b) (serial_lens (c ∷ d ∷ f ∷ [])) n1 (n2 ∷ n3 ∷ n4 ∷ []) one).1 in
    let three = (len_of (serial_len c) (serial_lens (d ∷ f ∷ [])) n2 (n3 ∷ n4 ∷ []) two).1 in
    (len_of (serial_len d) (serial_lens (f ∷ [])) n3 (n4 ∷ []) three).0

abbrev kept_columns : Encoding → List ℕ → List ℕ → List ℕ → Result SchemaRow RowFault
kept_columns e types lens more = row_of_kept e types (take (min (get_or lens 0 0) 15) more)
    (take (min (get_or lens 1 0) 1001) (drop (get_or lens 0 0) more))
    (take (min (get_or lens 3 0) 8) (drop (get_or lens 0 0 + get_or lens 1 0 + get_or lens 2 0) more))

drop_thrice : (a b c : ℕ) (xs : List ℕ) → drop (a + b + c) xs ≡ drop c (drop b (drop a xs))
drop_thrice a b c xs = sym (ap (λ w. drop c w) (drop-drop b a xs) ∙ drop-drop c (a + b) xs)

kept_five : (e : Encoding) (a b c d f n0 n1 n2 n3 n4 bodies : ℕ) (more : List ℕ)
    → body_lens (a ∷ b ∷ c ∷ d ∷ f ∷ []) bodies ≡ Some (n0 ∷ n1 ∷ n2 ∷ n3 ∷ n4 ∷ [])
    → kept_columns e (a ∷ b ∷ c ∷ d ∷ f ∷ []) (n0 ∷ n1 ∷ n2 ∷ n3 ∷ n4 ∷ []) more
    ≡ row_of_values e (body_values (a ∷ b ∷ c ∷ d ∷ f ∷ []) bodies more)
kept_five e a b c d f n0 n1 n2 n3 n4 bodies more h =
    rw h (rw (
      drop_thrice n0 n1 n2 more,
      kind_kept e a n0 more,
      name_kept e b n1 (drop n0 more),
      root_kept d n3 (drop n2 (drop n1 (drop n0 more))) (fourth a b c d f n0 n1 n2 n3 n4 bodies h),
    ) refl)

-- what is kept of the columns determines the row
pub kept_row : (e : Encoding) (types lens more : List ℕ) (bodies : ℕ) → length types ≡ 5 → length lens ≡ 5 → body_lens types bodies ≡ Some lens
    → kept_columns e types lens more ≡ row_of_values e (body_values types bodies more)
kept_row e (a ∷ b ∷ c ∷ d ∷ f ∷ []) (n0 ∷ n1 ∷ n2 ∷ n3 ∷ n4 ∷ []) more bodies p q h = kept_five e a b c d f n0 n1 n2 n3 n4 bodies more h
kept_row e types lens more bodies p q h = absurd (omega arith)
