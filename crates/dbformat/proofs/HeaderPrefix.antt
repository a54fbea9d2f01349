-- What the header says rests on the file's first 100 bytes alone.
use Rattle.std.proofs.Common.{◌≡◌, ℕ, suc, ◌+◌, ◌-◌, ◌<◌, ◌≤◌, List, [], ◌∷◌, ◌++◌, take, drop, slice_index, refl, ap, ap₂, ◌∙◌, sym, arith, not, pos, Bool}
use Rattle.std.proofs.Common.{cond, true, false}
use Rattle.std.specs.Prelude.{◌==◌}
use Rattle.std.specs.Prelude.{IfSome, find, Some, None, option_map, option_to_list}
use Rattle.std.specs.List.{range_with_len}
use Rattle.std.proofs.lemmas.List.{drop-take, get_or-take, take-take}
use Rattle.byteorder.specs.Endian.{big_number}
use Rattle.byteorder.specs.Numbers.{big_from-take}
use Rattle.dbformat.specs.Numbers.{u16_at}
use Rattle.dbformat.specs.Header.{page_size, reserved_bytes, usable_size, change_counter, stated_pages, first_trunk, freelist_count, schema_format}
use Rattle.dbformat.specs.Header.{greatest_root, encoding, encoding_number, incremental_vacuum, version_valid_for, has_pointer_map, is_size_valid, whole_pages}
use Rattle.dbformat.specs.Header.{page_count}
use Rattle.dbformat.specs.FixedPages.{most_pages, geometry_of}
use Rattle.dbformat.specs.File.{refusal_of}
use Rattle.dbformat.specs.FixedPages.{lock_page, is_map_position}
use Rattle.dbformat.specs.Header.{magic, stored_page_sizes}
use Rattle.dbformat.specs.HeaderFaults.{byte_fault, version_faults, fraction_faults, expansion_byte, expansion_fault, header_faults}
use Rattle.dbformat.specs.Tests.{first_true, all_true}
use Rattle.dbformat.specs.Faults.{fault}
use Rattle.dbformat.specs.declared.Fault.{Fault}
use Rattle.dbformat.specs.declared.FaultCode.TheVariants.{H03, H04, H05, H06, H07}
use Rattle.dbformat.specs.declared.Geometry.{Geometry}
use Rattle.dbformat.specs.declared.Refusal.{Refusal}
use Rattle.dbformat.specs.declared.Refusal.TheVariants.{Short, Magic, PageSize, Usable, NoPage, TooManyPages, MapAtLock}
use Rattle.std.specs.List.{list_any}
use Rattle.std.specs.Str.{bytes_eq}
use Rattle.std.specs.Prelude.{nat_lt, nat_le, ◌&&◌, Option, zero}

-- a number that lies in the header
pub number_within : (i n : ℕ) (file : List ℕ) → i + n ≤ 100 → big_number n (drop i (take 100 file)) ≡ big_number n (drop i file)
number_within i n file h =
    let e : 100 ≡ i + (100 - i) = omega arith in
    let d : drop i (take 100 file) ≡ take (100 - i) (drop i file) = ap (λ k. drop i (take k file)) e ∙ drop-take i (100 - i) file in
    rw d (big_from-take 0 n (100 - i) (drop i file) (omega arith))

-- a byte of it
pub byte_within : (i : ℕ) (file : List ℕ) → i < 100 → slice_index (take 100 file) i ≡ slice_index file i
byte_within i file h = get_or-take 100 file i 0 h

pub page_size_within : (file : List ℕ) → page_size (take 100 file) ≡ page_size file
unfolding page_size
page_size_within file = rw (number_within 16 2 file (omega arith)) refl

pub usable_size_within : (file : List ℕ) → usable_size (take 100 file) ≡ usable_size file
unfolding usable_size reserved_bytes
usable_size_within file = rw (page_size_within file, byte_within 20 file (omega arith)) refl

pub stated_pages_within : (file : List ℕ) → stated_pages (take 100 file) ≡ stated_pages file
unfolding stated_pages
stated_pages_within file = number_within 28 4 file (omega arith)

pub first_trunk_within : (file : List ℕ) → first_trunk (take 100 file) ≡ first_trunk file
unfolding first_trunk
first_trunk_within file = number_within 32 4 file (omega arith)

pub freelist_count_within : (file : List ℕ) → freelist_count (take 100 file) ≡ freelist_count file
unfolding freelist_count
freelist_count_within file = number_within 36 4 file (omega arith)

pub schema_format_within : (file : List ℕ) → schema_format (take 100 file) ≡ schema_format file
unfolding schema_format
schema_format_within file = number_within 44 4 file (omega arith)

pub greatest_root_within : (file : List ℕ) → greatest_root (take 100 file) ≡ greatest_root file
unfolding greatest_root
greatest_root_within file = number_within 52 4 file (omega arith)

pub encoding_number_within : (file : List ℕ) → encoding_number (take 100 file) ≡ encoding_number file
unfolding encoding_number
encoding_number_within file = number_within 56 4 file (omega arith)

pub encoding_within : (file : List ℕ) → encoding (take 100 file) ≡ encoding file
unfolding encoding
encoding_within file = rw (encoding_number_within file) refl

pub incremental_vacuum_within : (file : List ℕ) → incremental_vacuum (take 100 file) ≡ incremental_vacuum file
unfolding incremental_vacuum
incremental_vacuum_within file = number_within 64 4 file (omega arith)

pub has_pointer_map_within : (file : List ℕ) → has_pointer_map (take 100 file) ≡ has_pointer_map file
unfolding has_pointer_map
has_pointer_map_within file = rw (greatest_root_within file) refl

pub is_size_valid_within : (file : List ℕ) → is_size_valid (take 100 file) ≡ is_size_valid file
unfolding is_size_valid change_counter version_valid_for
is_size_valid_within file = rw (stated_pages_within file, number_within 24 4 file (omega arith), number_within 92 4 file (omega arith)) refl

pub whole_pages_within : (file : List ℕ) (len : ℕ) → whole_pages (take 100 file) len ≡ whole_pages file len
unfolding whole_pages
whole_pages_within file len = rw (page_size_within file) refl

pub page_count_within : (file : List ℕ) (len : ℕ) → page_count (take 100 file) len ≡ page_count file len
unfolding page_count
page_count_within file len = rw (is_size_valid_within file, stated_pages_within file, whole_pages_within file len) refl

pub geometry_within : (file : List ℕ) (len : ℕ) → geometry_of (take 100 file) len ≡ geometry_of file len
geometry_within file len = rw (page_size_within file, usable_size_within file, page_count_within file len, has_pointer_map_within file) refl

-- why a file is not read, by its magic, its stored page size, its shape and its length
abbrev refusal_by : List ℕ → ℕ → Geometry → ℕ → Option Refusal
refusal_by begins stored g len = first_true (
    (nat_lt len 100, Short)
    ∷ (not (bytes_eq begins magic), Magic)
    ∷ (not (list_any (λ size. stored == size) stored_page_sizes), PageSize)
    ∷ (nat_lt g.usable 480, Usable)
    ∷ (g.pages == 0, NoPage)
    ∷ (nat_lt most_pages g.pages, TooManyPages)
    ∷ (g.has_map && nat_le (lock_page g.page_size) g.pages && is_map_position g (lock_page g.page_size), MapAtLock) ∷ [])

refusal_is : (bytes : List ℕ) (len : ℕ) → refusal_of bytes len ≡ refusal_by (take 16 bytes) (u16_at 16 bytes) (geometry_of bytes len) len
unfolding refusal_of
refusal_is bytes len = refl

pub refusal_within : (file : List ℕ) (len : ℕ) → refusal_of (take 100 file) len ≡ refusal_of file len
refusal_within file len =
    let begins : take 16 (take 100 file) ≡ take 16 file = take-take 16 100 file (omega arith) in
    let stored = number_within 16 2 file (omega arith) in
    refusal_is (take 100 file) len
    ∙ ap (λ x. refusal_by x (u16_at 16 (take 100 file)) (geometry_of (take 100 file) len) len) begins
    ∙ ap (λ x. refusal_by (take 16 file) x (geometry_of (take 100 file) len) len) stored
    ∙ ap (λ x. refusal_by (take 16 file) (u16_at 16 file) x len) (geometry_within file len)
    ∙ sym (refusal_is file len)

-- the first of some bytes that is not zero
abbrev first_nonzero : (ℕ → ℕ) → ℕ → ℕ → Option ℕ
first_nonzero byte from n = find (λ i. not (byte i == 0)) (range_with_len from n)

first_nonzero_same : (f g : ℕ → ℕ) (from n : ℕ) → ((i : ℕ) → i < from + n → f i ≡ g i) → first_nonzero f from n ≡ first_nonzero g from n
first_nonzero_same f g from zero h = refl
first_nonzero_same f g from (suc n) h =
    let here : f from ≡ g from = h from (omega arith) in
    rw (here, first_nonzero_same f g (from + 1) n (λ i k. h i (omega arith))) refl

-- and the fault of it
nonzero_fault : (f g : ℕ → ℕ) (o : Option ℕ) → ((i : ℕ) → i < 92 → f i ≡ g i) → IfSome o (λ i. i < 92)
    → option_to_list (option_map (λ i. fault H05 1 i (pos (f i))) o) ≡ option_to_list (option_map (λ i. fault H05 1 i (pos (g i))) o)
nonzero_fault f g None h k = refl
nonzero_fault f g (Some i) h k = rw (h i k) refl

first_below : (f : ℕ → ℕ) (from n : ℕ) → IfSome (first_nonzero f from n) (λ i. i < from + n)
first_below f from zero = tt
first_below f from (suc n) =
    let rest : IfSome (first_nonzero f (from + 1) n) (λ i. i < from + suc n) = weaker (first_nonzero f (from + 1) n) (first_below f (from + 1) n) in
    either (λ i. i < from + suc n) (not (f from == 0)) from (first_nonzero f (from + 1) n) (omega arith) rest
  where
    either : (P : ℕ → Type 0) (b : Bool) (i : ℕ) (o : Option ℕ) → P i → IfSome o P → IfSome (cond b (Some i) o) P
    either P true i o h k = h
    either P false i o h k = k

    weaker : (o : Option ℕ) → IfSome o (λ i. i < from + 1 + n) → IfSome o (λ i. i < from + suc n)
    weaker None h = h
    weaker (Some i) h = omega arith

version_within : (file : List ℕ) → version_faults (take 100 file) ≡ version_faults file
version_within file = rw (byte_within 18 file (omega arith), byte_within 19 file (omega arith)) refl

fraction_within : (file : List ℕ) → fraction_faults (take 100 file) ≡ fraction_faults file
fraction_within file = rw (byte_within 21 file (omega arith), byte_within 22 file (omega arith), byte_within 23 file (omega arith)) refl

expansion_within : (file : List ℕ) → expansion_fault (take 100 file) ≡ expansion_fault file
expansion_within file =
    let same : (i : ℕ) → i < 92 → slice_index (take 100 file) i ≡ slice_index file i = λ i h. byte_within i file (omega arith) in
    nonzero_fault (slice_index (take 100 file)) (slice_index file) (expansion_byte (take 100 file)) same (first_below (slice_index (take 100 file)) 72 20)
    ∙ ap (λ o. option_to_list (option_map (byte_fault H05 file) o)) (first_nonzero_same (slice_index (take 100 file)) (slice_index file) 72 20 same)

-- the faults that numbers of the header have, by these
abbrev format_faults : ℕ → ℕ → List Fault
format_faults format number = all_true ((nat_lt 4 format, fault H03 1 0 (pos format)) ∷ (nat_lt 3 number, fault H04 1 0 (pos number)) ∷ [])

abbrev size_faults : Bool → ℕ → ℕ → ℕ → Bool → List Fault
size_faults valid whole stated vacuum mapped = all_true (
    (valid && nat_lt whole stated, fault H06 1 0 (pos stated))
    ∷ (not (vacuum == 0) && not mapped, fault H07 1 0 (pos vacuum)) ∷ [])

format_within : (file : List ℕ) → format_faults (schema_format (take 100 file)) (encoding_number (take 100 file))
    ≡ format_faults (schema_format file) (encoding_number file)
format_within file = ap₂ format_faults (schema_format_within file) (encoding_number_within file)

size_within : (file : List ℕ) (len : ℕ) → size_faults (is_size_valid (take 100 file)) (whole_pages (take 100 file) len) (stated_pages (take 100 file))
    (incremental_vacuum (take 100 file)) (has_pointer_map (take 100 file))
    ≡ size_faults (is_size_valid file) (whole_pages file len) (stated_pages file) (incremental_vacuum file) (has_pointer_map file)
size_within file len =
    ap (λ x. size_faults x (whole_pages (take 100 file) len) (stated_pages (take 100 file)) (incremental_vacuum (take 100 file))
    (has_pointer_map (take 100 file))) (is_size_valid_within file)
    ∙ ap₂ (λ x y. size_faults (is_size_valid file) x y (incremental_vacuum (take 100 file)) (has_pointer_map (take 100 file))) (whole_pages_within file len)
    (stated_pages_within file)
    ∙ ap₂ (λ x y. size_faults (is_size_valid file) (whole_pages file len) (stated_pages file) x y) (incremental_vacuum_within file)
    (has_pointer_map_within file)

pub header_faults_within : (file : List ℕ) (len : ℕ) → header_faults (take 100 file) len ≡ header_faults file len
unfolding header_faults
header_faults_within file len =
    let joined : List Fault → List Fault → List Fault = λ xs ys. xs ++ ys in
    ap₂ joined (ap₂ joined (ap₂ joined (ap₂ joined (version_within file) (fraction_within file)) (format_within file)) (expansion_within file))
    (size_within file len)
