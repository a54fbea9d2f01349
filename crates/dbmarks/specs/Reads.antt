-- What a walk reads, whatever the source answers.
use Rattle.std.specs.Prelude.{◌≡◌, ◌≢◌, ℕ, true, false, List, ◌++◌, map}
use Rattle.dbsurvey.specs.Address.{IsIn, EachPair}
use Rattle.dbformat.specs.Log.{page_range, IsPageLog}
use Rattle.dbformat.specs.declared.ByteRange.{ByteRange}
use Rattle.dbformat.specs.declared.Geometry.{Geometry}
use Rattle.dbmarks.specs.declared.marks.Mark.{Mark}
use Rattle.dbmarks.specs.Marking.{is_unmarked, AreMarksFor, KeepsMarks}

-- Whole pages of one size, none twice, each of which got its mark in between: so none of them is fixed, or was read
-- before its mark was there.
pub record Reads (size : ℕ) (old new : List Mark) (log : List ByteRange) : Type 0 where
  pub pages : List ℕ
  pub ranges : log ≡ map (page_range size) pages
  pub distinct : EachPair (λ p q. p ≢ q) pages
  pub fresh : (p : ℕ) → IsIn p pages → is_unmarked old p ≡ true
  pub marked : (p : ℕ) → IsIn p pages → is_unmarked new p ≡ false
  pub kept : KeepsMarks old new

-- What walks over the pages of a file read, one call after another: pages of the file, none twice in all, and none of
-- fixed use, so never the lock-byte page. The marks stay those of a file of this geometry.
pub record ReadsEachPageOnce (g : Geometry) : Type 0 where
  pub pages : (old new : List Mark) (log : List ByteRange) → AreMarksFor g old → Reads g.page_size old new log → IsPageLog g log
  pub joined : (old mid new : List Mark) (first second : List ByteRange) → Reads g.page_size old mid first → Reads g.page_size mid new second
      → Reads g.page_size old new (first ++ second)
  pub marks : (old new : List Mark) (log : List ByteRange) → AreMarksFor g old → Reads g.page_size old new log → AreMarksFor g new
