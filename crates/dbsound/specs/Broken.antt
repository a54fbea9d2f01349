-- Small files that break one rule of a sound file each, beside a sound file that differs by a byte, by a page, or by the
-- order of two pages. Two rules are broken by large files alone, too large to compute with: a tree 21 pages high has over
-- 2^19 pages, since each page below its root has a cell; and a schema with too many roots has 65537 rows.
use Rattle.std.specs.Prelude.{◌≡◌, ℕ, List, [], ◌∷◌, ◌++◌, Some, None}
use Rattle.dbformat.specs.File.{refusal}
use Rattle.dbformat.specs.Survey.{survey}
use Rattle.dbformat.specs.Report.{faults}
use Rattle.dbformat.specs.Sound.{Sound}
use Rattle.dbformat.specs.Samples.{patched, base_file, blank_page, empty_leaf, one_table, long_row_file, small_tree}
use Rattle.dbformat.specs.declared.Fault.{Fault}
use Rattle.dbformat.specs.declared.Refusal.{Refusal}

-- the one file is sound, and the other is not even read, for this reason
abbrev pub IsRefusedBeside : List ℕ → List ℕ → Refusal → Type 0
IsRefusedBeside whole broken why = Sound whole × (refusal broken ≡ Some why) × (Sound broken → ⊥)

-- the one file is sound; the other is read, but is not sound, and this is its only fault
abbrev pub FailsBeside : List ℕ → List ℕ → Fault → Type 0
FailsBeside whole broken f = Sound whole × (refusal broken ≡ None) × (faults broken (survey broken) ≡ f ∷ []) × (Sound broken → ⊥)

-- the bytes with another one in place of byte i
abbrev with_byte : ℕ → ℕ → List ℕ → List ℕ
with_byte i b = patched i (b ∷ [])

-- ---- the file of the long row, with one byte or one page more that is wrong

abbrev pub wrong_magic : List ℕ
wrong_magic = with_byte 0 0 long_row_file

abbrev pub unknown_version : List ℕ
unknown_version = with_byte 18 3 long_row_file

-- page 1 says that a byte is in fragments, and none is
abbrev pub false_fragment : List ℕ
false_fragment = with_byte 107 1 long_row_file

-- the name of the schema's row is a number
abbrev pub numeric_name : List ℕ
numeric_name = with_byte 500 1 long_row_file

abbrev pub unused_page : List ℕ
unused_page = long_row_file ++ blank_page

-- the header counts a page on the freelist, which is empty
abbrev pub false_free_page : List ℕ
false_free_page = with_byte 39 1 long_row_file

abbrev pub no_encoding : List ℕ
no_encoding = with_byte 59 0 long_row_file

-- ---- other files, each by its part that makes it sound or not

-- page 1 alone, with the row of a table whose root page is this number of one byte: 0 where it has none, and 255 is -1
abbrev pub one_row : ℕ → List ℕ
one_row root = one_table root []

-- a tree of two leaves: the rowid of the one is 5, and that of the other is to be greater
abbrev pub two_leaves : ℕ → List ℕ
two_leaves rowid = with_byte 2045 rowid small_tree

-- a schema without rows, and a trunk of 512 bytes that claims this many leaves
abbrev pub one_trunk : ℕ → List ℕ
one_trunk leaves = with_byte 519 leaves (patched 35 (2 ∷ 0 ∷ 0 ∷ 0 ∷ 1 ∷ []) (base_file 512 2))

-- a schema without rows, and a pointer map; the header says that this is the greatest root page
abbrev pub no_table : ℕ → List ℕ
no_table greatest = with_byte 55 greatest (base_file 512 2)

-- a schema without rows, a trunk, and a pointer map that has it as a page of this type
abbrev pub mapped_trunk : ℕ → List ℕ
mapped_trunk type = with_byte 512 type (with_byte 55 1 (patched 35 (3 ∷ 0 ∷ 0 ∷ 0 ∷ 1 ∷ []) (base_file 512 3)))

-- a leaf without cells
abbrev empty_page : List ℕ
empty_page = patched 0 (empty_leaf 512) blank_page

-- a table with this root page, a trunk, and the pages after page 1, the first of which is a pointer map
abbrev root_and_trunk : ℕ → ℕ → List ℕ → List ℕ
root_and_trunk root trunk pages = with_byte 55 root (patched 35 (trunk ∷ 0 ∷ 0 ∷ 0 ∷ 1 ∷ []) (one_table root pages))

-- the root page of a table before a free page, and one after it
abbrev pub early_root : List ℕ
early_root = root_and_trunk 3 4 (patched 0 (1 ∷ 0 ∷ 0 ∷ 0 ∷ 0 ∷ 2 ∷ []) blank_page ++ empty_page ++ blank_page)

abbrev pub late_root : List ℕ
late_root = root_and_trunk 4 3 (patched 0 (2 ∷ 0 ∷ 0 ∷ 0 ∷ 0 ∷ 1 ∷ []) blank_page ++ blank_page ++ empty_page)
