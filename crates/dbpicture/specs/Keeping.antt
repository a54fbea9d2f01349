-- What is kept of a file: what each square shows of the faults that were reported, a bit for each page that has one, and for each that has the
-- strong frame; the faults that lead; and the starts of its pages. And what squares are drawn by, and when all is known of a file.
use Rattle.std.specs.Prelude.{◌≡◌, ℕ, ◌+◌, ◌-◌, ◌≤◌, ◌<◌, Bool, List, ◌++◌, length, slice_index_or, ◌==◌, [], count_by, filter, flat_map, Option}
use Rattle.std.specs.Prelude.{if◌then◌else◌}
use Rattle.std.specs.Int.{div_ceil}
use Rattle.std.specs.List.{range_with_len}
use Rattle.std.specs.Option.{option_map_or}
use Rattle.dbformat.specs.File.{geometry}
use Rattle.dbformat.specs.Reference.{Reference}
use Rattle.dbformat.specs.Report.{faults}
use Rattle.dbformat.specs.Rows.{StatRow}
use Rattle.dbformat.specs.SchemaRow.{SchemaRow}
use Rattle.dbformat.specs.declared.Encoding.{Encoding}
use Rattle.dbformat.specs.declared.Geometry.{Geometry}
use Rattle.dbformat.specs.FixedPages.{geometry_of}
use Rattle.dbformat.specs.Lines.{counted}
use Rattle.dbformat.specs.Starts.{start_at}
use Rattle.dbtrace.specs.declared.TracedFault.{TracedFault}
use Rattle.dbmarks.specs.Marking.{page_mark}
use Rattle.dbmarks.specs.declared.marks.Mark.{Mark}
use Rattle.dbscan.specs.Desks.{DeskView}
use Rattle.dbscan.specs.Finishes.{IsDeskOf}
use Rattle.dbinjuries.specs.Bits.{bit_set, has_bit, HasPageBit}
use Rattle.dbinjuries.specs.Lists.{HasBits, IsUnused, ListsAll, received}
use Rattle.dbinjuries.specs.Zeros.{AreBlank, AreZeros}
use Rattle.dbscan.specs.Trees.{AreTrees, place_by, row_noted}
use Rattle.dbscan.specs.Texts.{tree_of_row}
use Rattle.dbscan.specs.declared.place.Place.{Place}
use Rattle.dbscan.specs.declared.tree_names.TreeNames.{TreeNames}
use Rattle.dbpicture.specs.Names.{short_text}
use Rattle.dbpicture.specs.Faults.{fault_signs, is_weak, shown, shows}
use Rattle.dbpicture.specs.Grids.{is_of_square, group_for}
use Rattle.dbpicture.specs.declared.fault_notes.FaultNotes.{FaultNotes}
use Rattle.dbpicture.specs.declared.faults.Sign.{Sign}
use Rattle.dbpicture.specs.declared.faults.Sign.TheVariants.{Faulty, Framed}
use Rattle.dbpicture.specs.declared.faults.SquareFaults.{SquareFaults}
use Rattle.dbpicture.specs.declared.kept.KeptFaults.{KeptFaults}
use Rattle.dbpicture.specs.Owners.{IsOf, is_one_of}
use Rattle.dbpicture.specs.Squares.{Drawn}
use Rattle.dbpicture.specs.declared.grid.Grid.{Grid}
use Rattle.dbpicture.specs.declared.legend.NotedPages.{NotedPages}
use Rattle.dbpicture.specs.declared.tree_text.NamedTree.{NamedTree}
use Rattle.dbpicture.specs.declared.squares.Squares.{Squares}

-- what a square shows: nothing, where there is none with this number
abbrev pub square_at : List SquareFaults → ℕ → SquareFaults
square_at squares index = slice_index_or squares index (record { bits = 0 })

abbrev pub noted_at : {A : Type 0} → FaultNotes A → ℕ → Sign → Bool
noted_at n index = shown (square_at n.squares.items index).bits

-- bits of pages with that of one more, or not
abbrev pub bits_if : Bool → ℕ → List ℕ → List ℕ
bits_if is_set p bits = if is_set then bit_set p bits else bits

-- The bits of the pages of a file of `count` pages that have a sign.
pub record AreBits (count : ℕ) (signs : List (ℕ × Sign)) (sign : Sign) (bits : List ℕ) : Type 0 where
  pub room : HasPageBit bits count
  pub are : (p : ℕ) → 1 ≤ p → p ≤ count → has_bit bits p ≡ shows signs (λ q. q == p) sign

-- These signs of the pages of a file of `count` pages were noted, each with its page.
pub record AreNoted {A : Type 0} (count : ℕ) (signs : List (ℕ × Sign)) (n : FaultNotes A) : Type 0 where
  pub pages : n.pages ≡ count
  pub group : n.group ≡ group_for count
  pub room : length n.squares.items ≡ div_ceil count (group_for count)
  pub squares : (index : ℕ) → noted_at n index ≡ shows signs (is_of_square count index)
  pub faulty : AreBits count signs Faulty n.faulty
  pub framed : AreBits count signs Framed n.framed

-- No fault was reported of a file of this shape. There is room for 100 injuries, and for the starts of the pages.
pub record ReceivesNone {A : Type 0} (g : Geometry) (k : KeptFaults A) : Type 0 where
  pub none : k.faults ≡ 0
  pub room : g.pages < length k.trees.known
  pub notes : AreNoted g.pages [] k.notes
  pub listing : IsUnused 100 k.listing
  pub bits : HasBits g k.listing

-- a fault is counted, noted at its page, and listed
pub record Adds {A : Type 0} (x : TracedFault) (old new : KeptFaults A) : Type 0 where
  pub count : new.faults ≡ counted (old.faults + 1)
  pub notes : (count : ℕ) (signs : List (ℕ × Sign)) → AreNoted count signs old.notes → AreNoted count (signs ++ fault_signs x.fault) new.notes
  pub listing : new.listing ≡ received old.listing x
  pub trees : new.trees ≡ old.trees

-- the start of the page of a row is noted
pub record Notes {A : Type 0} (r : StatRow) (old new : KeptFaults A) : Type 0 where
  pub trees : new.trees.known ≡ row_noted old.trees.known r
  pub notes : new.notes ≡ old.notes
  pub listing : new.listing ≡ old.listing
  pub count : new.faults ≡ old.faults

-- All faults of a file were noted at their pages, and are listed, and the start of each page was noted; no strong frame is noted yet.
pub record HasFaults {A : Type 0} (file : List ℕ) (V : List Reference) (k : KeptFaults A) : Type 0 where
  pub trees : AreTrees V k.trees.known
  pub notes : AreNoted (geometry file).pages (flat_map fault_signs (faults file V)) k.notes
  pub listing : ListsAll 100 file V k.listing
  pub zeros : AreZeros file V k.listing.zeros
  pub blank : AreBlank file V k.listing.blank

-- the text of the tree of a start, by the rows of the schema that have a root page
abbrev pub shown_tree : Encoding → List SchemaRow → ℕ → List ℕ
shown_tree e rows start = short_text (tree_of_row e rows start)

-- the tree that was named last, that of a start
abbrev pub tree_named : {A : Type 0} → TreeNames A → Option ℕ → NamedTree
tree_named names start = record { start = start; name = option_map_or (shown_tree names.encoding names.roots.now.rows) start [] }

-- its name is that of the tree of its start
abbrev pub HoldsTreeName : {A : Type 0} → TreeNames A → NamedTree → Type 0
HoldsTreeName names tree = tree ≡ tree_named names tree.start

-- what each page is, by the marks
abbrev pub marked_place : List Mark → ℕ → Place
marked_place marks p = place_by (page_mark marks p)

-- whether a page is one byte throughout, by the bits of those that are
abbrev pub blank_by : {A : Type 0} → Squares A → ℕ → Bool
blank_by s = is_one_of (filter (has_bit s.blank.now) (range_with_len 1 s.grid.pages))

-- the squares are of this file: their marks are those of its visits, and what is known of the trees of its pages is right
abbrev pub AreOf : {A : Type 0} → Squares A → List ℕ → List Reference → Type 0
AreOf s = IsOf s.marks.now s.trees.now.known

-- and these are what they are drawn by
abbrev pub drawn_by : {A : Type 0} → Squares A → List Reference → Drawn
drawn_by s V = record {
  grid = s.grid;
  shape = geometry_of s.header.now.bytes s.header.now.file_len;
  place = marked_place s.marks.now;
  start = start_at V;
  blank = blank_by s;
  largest = s.largest.items;
  names = s.labels.names.items;
  tree = shown_tree s.names.encoding s.names.roots.now.rows;
  faults = noted_at s.notes.now;
}

-- what the legend counts of notes: of how many pages are one byte throughout, have each frame, and are outlined
abbrev pub noted_by : {A : Type 0} → FaultNotes A → ℕ → Grid → NotedPages
noted_by n blank grid = record {
  blank = blank;
  strong = count_by (has_bit n.framed) (range_with_len 1 n.pages);
  weak = count_by (is_weak (has_bit n.faulty) (has_bit n.framed)) (range_with_len 1 n.pages);
  outside = grid.outside.last - grid.pages;
  are_after = grid.outside.are_after;
}

-- All is known of a file: a desk is of it, and its faults were kept and counted.
pub record HasAll {A : Type 0} (d : DeskView) (k : KeptFaults A) (file : List ℕ) (V : List Reference) : Type 0 where
  pub desk : IsDeskOf d file V
  pub kept : HasFaults file V k
  pub count : k.faults ≡ counted (length (faults file V))
