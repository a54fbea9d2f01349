-- What a page looks like by its bytes alone, whatever refers to it (own; Database File Format, section 1.6).
use Rattle.std.specs.Prelude.{ℕ, ◌+◌, ◌-◌, Bool, ◌&&◌, List, take, Option, Some, None, Result, Ok, Err, ℤ, slice_index, nat_le, ◌==◌, if◌then◌else◌}
use Rattle.std.specs.List.{list_all}
use Rattle.std.specs.Option.{option_map_or}
use Rattle.dbformat.specs.Options.{◌>>=◌}
use Rattle.dbformat.specs.Varint.{varint, signed}
use Rattle.dbformat.specs.File.{geometry, page_bytes}
use Rattle.dbformat.specs.Head.{View, view, content_start}
use Rattle.dbformat.specs.Cell.{bytes_from, cell_pointer, count}
use Rattle.dbformat.specs.declared.HeadFault.{HeadFault}
use Rattle.dbformat.specs.declared.PageKind.{PageKind}
use Rattle.dbformat.specs.declared.PageKind.TheVariants.{LeafTable}
use Rattle.dbformat.specs.declared.Rowids.{Rowids}
use Rattle.dbformat.specs.declared.Look.{Look}
use Rattle.dbformat.specs.declared.Look.TheVariants.{Blank, Tree, Other}

-- whether the usable bytes of a page are all 0
abbrev pub is_zeros : ℕ → List ℕ → Bool
is_zeros usable page = list_all (λ byte. byte == 0) (take usable page)

-- the byte of a blank page, whose usable bytes are all as its first
abbrev pub blank_byte : ℕ → List ℕ → Option ℕ
blank_byte usable page = let first = slice_index page 0 in if list_all (λ byte. byte == first) (take usable page) then Some first else None

-- the rowid of the table leaf's cell at offset, after the size of its payload, where both end within the usable bytes
abbrev pub rowid_at : View → ℕ → Option ℤ
rowid_at v offset = do
  size ← varint (bytes_from v offset)
  rowid ← varint (bytes_from v (offset + size.1))
  Some (signed rowid.0)

-- that of cell i: its pointer leads into the content area, and four bytes are there at least, as of a cell that is read whole
unfoldable pub rowid : View → ℕ → Option ℤ
rowid v i = let at = cell_pointer v i in
    if nat_le (content_start v.number v.bytes) at && nat_le at (v.usable - 4) then rowid_at v at else None

-- those of the first and the last cell of a leaf of a table, where it has cells and both can be read so far
abbrev pub rowids : PageKind → View → Option Rowids
rowids LeafTable v = if count v == 0 then None else (do
  first ← rowid v 0
  last ← rowid v (count v - 1)
  Some (record { first = first; last = last }))
rowids _ v = None

-- a page that is not blank: that of a tree where its head is sound, or else its first 16 bytes
abbrev pub look_of_view : List ℕ → Result View HeadFault → Look
look_of_view page (Err e) = Other (take 16 page)
look_of_view page (Ok v) = Tree (record { kind = v.kind; cells = count v; rowids = rowids v.kind v })

-- what page p looks like, by its usable bytes
unfoldable pub look_of : ℕ → ℕ → List ℕ → Look
look_of p usable page = option_map_or Blank (blank_byte usable page) (look_of_view page (view p usable page))

-- what page p of a file looks like
abbrev pub look_at : List ℕ → ℕ → Look
look_at file p = look_of p (geometry file).usable (page_bytes file p)
