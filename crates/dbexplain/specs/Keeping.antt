-- What is kept of a file until its report is written.
use Rattle.std.specs.Prelude.{◌≡◌, ℕ, ◌<◌, List, [], ◌++◌, flat_map, length}
use Rattle.dbformat.specs.File.{geometry}
use Rattle.dbformat.specs.Lines.{fault_line}
use Rattle.dbformat.specs.Reference.{Reference}
use Rattle.dbformat.specs.Rows.{stat_rows}
use Rattle.dbformat.specs.declared.Geometry.{Geometry}
use Rattle.dbinjuries.specs.Lines.{cause_text}
use Rattle.dbinjuries.specs.Others.{kept_others_text}
use Rattle.dbinjuries.specs.declared.injury.Injury.{Injury}
use Rattle.dbinjuries.specs.Lists.{HasBits, IsUnused, ListsAll}
use Rattle.dbscan.specs.Desks.{DeskView}
use Rattle.dbscan.specs.Finishes.{IsDeskOf}
use Rattle.dbscan.specs.Placed.{reported_faults}
use Rattle.dbscan.specs.Trees.{AreTrees}
use Rattle.dbexplain.specs.Explained.{after_cause, front_text}
use Rattle.dbexplain.specs.Indexes.{AreIndexes}
use Rattle.dbexplain.specs.KeptRanges.{AreAllKept, AreRangesOf}
use Rattle.dbexplain.specs.Notes.{AreOwnersOf}
use Rattle.dbexplain.specs.Tallies.{IsTallyOf, Tallied}
use Rattle.dbinjuries.specs.Zeros.{AreZeros}
use Rattle.dbexplain.specs.declared.kept.Kept.{Kept}
use Rattle.dbexplain.specs.declared.owners.Owners.{Owners}
use Rattle.dbexplain.specs.declared.starts.RowNotes.{RowNotes}

-- what is written of an injury, by what is kept of it
abbrev pub kept_injury_text : List ℕ → List Reference → Injury → List ℕ
kept_injury_text file V k =
    front_text file V k.first.fault ++ (cause_text k.first.cause ++ (after_cause file V k.first.fault.page k.first.cause ++ kept_others_text k))

-- the fault lines of what is kept of some injuries
abbrev pub lines_of : List Injury → List ℕ
lines_of kept = flat_map (λ (e : Injury). fault_line e.first.fault) kept

-- nothing is known of a file of this shape, and there is room for `limit` injuries and for its pages
pub record IsEmpty {A : Type 0} (limit : ℕ) (g : Geometry) (k : Kept A) : Type 0 where
  pub listing : IsUnused limit k.listing
  pub tally : IsTallyOf g.pages [] k.tally
  pub bits : HasBits g k.listing
  pub ranges : AreRangesOf [] k.ranges
  pub indexes : AreIndexes [] k.indexes
  pub room : g.pages < length k.trees.known

-- Faults were found in the file of a desk. All of them were counted, and are listed, and the start of each page was noted.
pub record HasAll {A : Type 0} (d : DeskView) (k : Kept A) (file : List ℕ) (V : List Reference) : Type 0 where
  pub desk : IsDeskOf d file V
  pub some : reported_faults file V ≡ [] → ⊥
  pub listing : ListsAll k.listing.injuries.limit file V k.listing
  pub tally : IsTallyOf (geometry file).pages (reported_faults file V) k.tally
  pub zeros : AreZeros file V k.listing.zeros
  pub ranges : AreRangesOf (reported_faults file V) k.ranges
  pub indexes : AreIndexes (stat_rows file V) k.indexes
  pub trees : AreTrees V k.trees.known

-- All faults of a file were counted by a tally, these bits are of the pages that are zeros, and this is known of the rows.
pub record IsCounted {A : Type 0} (o : Owners A) (t : Tallied) (words : List ℕ) (rows : RowNotes A) (file : List ℕ) (V : List Reference) : Type 0 where
  pub owners : AreOwnersOf o file V
  pub tally : IsTallyOf (geometry file).pages (reported_faults file V) t
  pub zeros : AreZeros file V words
  pub ranges : AreAllKept (reported_faults file V) rows.ranges.now
  pub indexes : AreIndexes (stat_rows file V) rows.indexes.now
