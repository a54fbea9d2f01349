-- A record's header, byte by byte.
use Rattle.std.proofs.Common.{◌≡◌, ℕ, zero, suc, ◌+◌, ◌-◌, ◌<◌, ◌≤◌, Bool, true, false, ◌&&◌, List, [], ◌∷◌, ◌++◌, length, take, drop, Option, Some, None, Err}
use Rattle.std.proofs.Common.{cond, eqb, leb, refl, sym, ap, ◌∙◌, ◌⊎◌, inl, inr, arith, append_assoc, set}
use Rattle.std.specs.Prelude.{option_map}
use Rattle.std.proofs.lemmas.Bool.Decides.{nat_tests}
use Rattle.dbformat.specs.Options.{◌>>=◌}
use Rattle.dbformat.specs.Varint.{varint}
use Rattle.dbformat.specs.Record.{Value, varints}
use Rattle.dbformat.specs.declared.Encoding.{Encoding}
use Rattle.dbformat.specs.declared.RowFault.TheVariants.{Malformed}
use Rattle.dbbytes.specs.Varint.{varint_from}
use Rattle.dbbytes.specs.Record.{body_values, numbers_from, values_from, values_with, sized_values, row_by}
use Rattle.dbbytes.proofs.ListLemmas.{pushed, filled}
use Rattle.dbbytes.proofs.VarintLemmas.{varint-from}

pub cond_none : {A : Type 0} (b : Bool) → cond {A = Option A} b None None ≡ None
cond_none true = refl
cond_none false = refl

-- where there are no values there is no row
pub row_by_none : (e : Encoding) (b : Bool) → row_by e b None ≡ Err Malformed
row_by_none e true = refl
row_by_none e false = refl

le_suc : (m n : ℕ) → leb (suc m) (suc n) ≡ leb m n
le_suc m n = grind (arith, nat_tests)

-- no header is left
pub values_from-none : (bodies : ℕ) (types : List ℕ) (others n value : ℕ) (bytes : List ℕ) → values_from 0 bodies types others n value bytes ≡ None
unfolding values_from
values_from-none bodies types others n value bytes = cond_none _

-- the number goes on
pub values_from-more : (left bodies : ℕ) (types : List ℕ) (others n value m v byte : ℕ) (more : List ℕ)
    → ((bytes : List ℕ) → varint_from m v bytes ≡ varint_from n value (byte ∷ bytes))
    → values_from left bodies types others m v more ≡ values_from (suc left) bodies types others n value (byte ∷ more)
unfolding values_from
values_from-more left bodies types others n value m v byte more same =
    rw (le_suc left (length more), same (take left more)) refl

bind_cons : (o : Option (List ℕ)) (v : ℕ) (f : List ℕ → Option (List Value)) → ((o >>= λ rest. Some (v ∷ rest)) >>= f) ≡ (o >>= λ rest. f (v ∷ rest))
bind_cons None v f = refl
bind_cons (Some rest) v f = refl

-- the number ends
pub values_from-whole : (left bodies : ℕ) (types : List ℕ) (others n value v k byte : ℕ) (more : List ℕ)
    → ((bytes : List ℕ) → Some (v, k, bytes) ≡ varint_from n value (byte ∷ bytes))
    → values_with left bodies types others v more ≡ values_from (suc left) bodies types others n value (byte ∷ more)
unfolding values_from values_with
values_from-whole left bodies types others n value v k byte more same =
    let t = leb left (length more) in
    let f : List ℕ → Option (List Value) = λ rest. body_values (types ++ rest) bodies (drop left more) in
    rw (le_suc left (length more), ← same (take left more))
    (ap (λ (w : Option (List Value)). cond t w None) (sym (bind_cons (varints others (take left more)) v f)))

first_number : (n : ℕ) (bytes : List ℕ) (o : Option (ℕ × ℕ))
    → (o >>= λ first. varints n (drop first.1 bytes) >>= λ rest. Some (first.0 ∷ rest))
    ≡ (option_map {T = ℕ × ℕ} {U = ℕ × ℕ × List ℕ} (λ r. (r.0, r.1, drop r.1 bytes)) o >>= λ first. varints n first.2 >>= λ rest. Some (first.0 ∷ rest))
first_number n bytes None = refl
first_number n bytes (Some r) = refl

-- varints in a row, the first of which begins here
pub varints_next : (n : ℕ) (bytes : List ℕ) → varints (suc n) bytes ≡ numbers_from 0 0 n bytes
varints_next n bytes = rw (varint-from bytes) (first_number n bytes (varint bytes))

regrouped : (o : Option (List ℕ)) (types : List ℕ) (value bodies : ℕ) (bytes : List ℕ)
    → (o >>= λ rest. body_values (types ++ value ∷ rest) bodies bytes) ≡ (o >>= λ rest. body_values ((types ++ value ∷ []) ++ rest) bodies bytes)
regrouped None types value bodies bytes = refl
regrouped (Some rest) types value bodies bytes = ap (λ w. body_values w bodies bytes) (sym (append_assoc types (value ∷ []) rest))

-- another type follows
pub values_with-next : (left bodies : ℕ) (types : List ℕ) (others value : ℕ) (more : List ℕ)
    → values_with left bodies types (suc others) value more ≡ values_from left bodies (types ++ value ∷ []) others 0 0 more
unfolding values_from values_with
values_with-next left bodies types others value more =
    let t = leb left (length more) in
    ap (λ (w : Option (List ℕ)). cond t (w >>= λ rest. body_values (types ++ value ∷ rest) bodies (drop left more)) None) (varints_next others (take left more))
    ∙ ap (λ (w : Option (List Value)). cond t w None) (regrouped (numbers_from 0 0 others (take left more)) types value bodies (drop left more))

le_zero : (n : ℕ) → leb 0 n ≡ true
le_zero n = grind (arith, nat_tests)

not_le_zero : (n : ℕ) → leb (suc n) 0 ≡ false
not_le_zero n = grind (arith, nat_tests)

-- the last type ends the header
pub values_with-last : (bodies : ℕ) (types : List ℕ) (value : ℕ) (more : List ℕ)
    → values_with 0 bodies types 0 value more ≡ body_values (types ++ value ∷ []) bodies more
unfolding values_with
values_with-last bodies types value more = rw (le_zero (length more)) refl

-- the header is too long
pub values_with-long : (left bodies : ℕ) (types : List ℕ) (value : ℕ) (more : List ℕ)
    → values_with (suc left) bodies types 0 value more ≡ None
unfolding values_with
values_with-long left bodies types value [] = rw (not_le_zero left) refl
values_with-long left bodies types value (x ∷ more) = cond_none _

eq_left : (m left bodies : ℕ) → eqb (suc m) (suc left + bodies) ≡ eqb m (left + bodies)
eq_left m left bodies = grind (arith, nat_tests)

-- The three steps of a header whose size is known.
pub push_none : (e : Encoding) (b : Bool) (left bodies : ℕ) (types : List ℕ) (others n value : ℕ) (bytes : List ℕ)
    → left ≡ 0 → Err Malformed ≡ row_by e b (values_from left bodies types others n value bytes)
push_none e b left bodies types others n value bytes none =
    rw (none, values_from-none bodies types others n value bytes) (sym (row_by_none e b))

pub push_more : (e : Encoding) (left bodies : ℕ) (types : List ℕ) (others n value m v byte : ℕ) (more : List ℕ)
    → 0 < left → ((bytes : List ℕ) → varint_from m v bytes ≡ varint_from n value (byte ∷ bytes))
    → row_by e (eqb (length more) (left - 1 + bodies)) (values_from (left - 1) bodies types others m v more)
    ≡ row_by e (eqb (suc (length more)) (left + bodies)) (values_from left bodies types others n value (byte ∷ more))
push_more e zero bodies types others n value m v byte more some same = absurd (omega arith)
push_more e (suc left) bodies types others n value m v byte more some same =
    let less : suc left - 1 ≡ left = omega arith in
    rw (less, eq_left (length more) left bodies, values_from-more left bodies types others n value m v byte more same) refl

pub push_whole : (e : Encoding) (left bodies : ℕ) (types : List ℕ) (others n value v k byte : ℕ) (more : List ℕ)
    → 0 < left → ((bytes : List ℕ) → Some (v, k, bytes) ≡ varint_from n value (byte ∷ bytes))
    → row_by e (eqb (length more + 1) (left + bodies)) (values_with (left - 1) bodies types others v more)
    ≡ row_by e (eqb (suc (length more)) (left + bodies)) (values_from left bodies types others n value (byte ∷ more))
push_whole e zero bodies types others n value v k byte more some same = absurd (omega arith)
push_whole e (suc left) bodies types others n value v k byte more some same =
    let less : suc left - 1 ≡ left = omega arith in
    let one : length more + 1 ≡ suc (length more) = omega arith in
    rw (less, one, values_from-whole left bodies types others n value v k byte more same) refl

eq_after : (m left bodies : ℕ) → 0 < left → eqb m (left - 1 + bodies) ≡ eqb (m + 1) (left + bodies)
eq_after m left bodies h = grind (arith, nat_tests)

-- The three ends of a type.
pub type_next : (e : Encoding) (left bodies count value n v : ℕ) (types more : List ℕ)
    → 0 < left → count + 1 < 5 → length types ≡ 5 → n ≡ 0 → v ≡ 0
    → row_by e (eqb (length more) (left - 1 + bodies)) (values_from (left - 1) bodies (take (count + 1) (set types count value)) (4 - (count + 1)) n v more)
    ≡ row_by e (eqb (length more + 1) (left + bodies)) (values_with (left - 1) bodies (take count types) (4 - count) value more)
type_next e left bodies count value n v types more some few five zero_n zero_v =
    let others : 4 - count ≡ suc (4 - (count + 1)) = omega arith in
    rw (
      zero_n,
      zero_v,
      others,
      pushed count value types (omega arith),
      eq_after (length more) left bodies some,
      values_with-next (left - 1) bodies (take count types) (4 - (count + 1)) value more,
    ) refl

pub type_last : (e : Encoding) (left bodies count value : ℕ) (types more : List ℕ)
    → 0 < left → left - 1 ≡ 0 → 5 ≤ count + 1 → count < 5 → length types ≡ 5
    → row_by e (eqb (length more) bodies) (body_values (set types count value) bodies more)
    ≡ row_by e (eqb (length more + 1) (left + bodies)) (values_with (left - 1) bodies (take count types) (4 - count) value more)
type_last e left bodies count value types more some none all few five =
    let others : 4 - count ≡ 0 = omega arith in
    let one : eqb (length more) bodies ≡ eqb (length more + 1) (left + bodies) = grind (arith, nat_tests) in
    rw (none, others, filled count value types (omega arith), one, values_with-last bodies (take count types) value more) refl

pub type_long : (e : Encoding) (b : Bool) (left bodies count value : ℕ) (types more : List ℕ)
    → (left - 1 ≡ 0 → ⊥) → 5 ≤ count + 1 → Err Malformed ≡ row_by e b (values_with (left - 1) bodies (take count types) (4 - count) value more)
type_long e b left bodies count value types more some all =
    let others : 4 - count ≡ 0 = omega arith in
    let more_left : left - 1 ≡ suc (left - 2) = omega arith in
    rw (others, more_left, values_with-long (left - 2) bodies (take count types) value more) (sym (row_by_none e b))

-- The three steps of the size of a header.
pub size_more : (e : Encoding) (size n value m v byte : ℕ) (more : List ℕ)
    → m ≡ n + 1 → ((bytes : List ℕ) → varint_from m v bytes ≡ varint_from n value (byte ∷ bytes))
    → row_by e (eqb (m + length more) size) (sized_values size m v more)
    ≡ row_by e (eqb (n + suc (length more)) size) (sized_values size n value (byte ∷ more))
unfolding sized_values
size_more e size n value m v byte more one same =
    let count : m + length more ≡ n + suc (length more) = omega arith in
    rw (count, same more) refl

abbrev after_size : ℕ → ℕ → ℕ → List ℕ → Option (List Value)
after_size size v k more = cond (leb k v && leb v size) (values_from (v - k) (size - v) [] 4 0 0 more) None

sized_whole : (size n value v k byte : ℕ) (more : List ℕ) → ((bytes : List ℕ) → Some (v, k, bytes) ≡ varint_from n value (byte ∷ bytes))
    → sized_values size n value (byte ∷ more) ≡ after_size size v k more
unfolding sized_values
sized_whole size n value v k byte more same = rw (← same more) refl

pub size_bad : (e : Encoding) (b : Bool) (size n value v k byte : ℕ) (more : List ℕ)
    → ((bytes : List ℕ) → Some (v, k, bytes) ≡ varint_from n value (byte ∷ bytes)) → (v < k) ⊎ (size < v)
    → Err Malformed ≡ row_by e b (sized_values size n value (byte ∷ more))
size_bad e b size n value v k byte more same bad =
    let no : (leb k v && leb v size) ≡ false = elim bad [ inl h ↦ grind (arith, nat_tests) | inr h ↦ grind (arith, nat_tests) ] in
    rw (sized_whole size n value v k byte more same, no) (sym (row_by_none e b))

pub size_good : (e : Encoding) (size n value v k byte left bodies m w : ℕ) (types more : List ℕ) (count : ℕ)
    → ((bytes : List ℕ) → Some (v, k, bytes) ≡ varint_from n value (byte ∷ bytes)) → k ≤ v → v ≤ size → k ≡ n + 1
    → left ≡ v - k → bodies ≡ size - v → count ≡ 0 → m ≡ 0 → w ≡ 0
    → row_by e (eqb (length more) (left + bodies)) (values_from left bodies (take count types) (4 - count) m w more)
    ≡ row_by e (eqb (n + suc (length more)) size) (sized_values size n value (byte ∷ more))
size_good e size n value v k byte left bodies m w types more count same low high one l b c z y =
    let yes : (leb k v && leb v size) ≡ true = grind (arith, nat_tests) in
    let whole : eqb (length more) (v - k + (size - v)) ≡ eqb (n + suc (length more)) size = grind (arith, nat_tests) in
    rw (l, b, c, z, y, whole, sized_whole size n value v k byte more same, yes) refl
