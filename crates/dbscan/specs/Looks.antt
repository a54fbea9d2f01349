-- What is read of a file after the walks: pages by rising numbers.
use Rattle.std.specs.Prelude.{◌≡◌, ◌⊎◌, ℕ, ◌<◌, true, false, List, [], ◌∷◌, map}
use Rattle.dbsurvey.specs.Address.{IsIn, EachPair}
use Rattle.dbformat.specs.Log.{page_range, IsPageLog}
use Rattle.dbformat.specs.declared.ByteRange.{ByteRange}
use Rattle.dbformat.specs.declared.Geometry.{Geometry}
use Rattle.dbmarks.specs.Marking.{is_unmarked, AreMarksFor}
use Rattle.dbmarks.specs.declared.marks.Mark.{Mark}

-- Whole pages of one size of which Q holds were read, each once, by rising numbers.
pub record ReadsRising (size : ℕ) (Q : ℕ → Type 0) (log : List ByteRange) : Type 0 where
  pub pages : List ℕ
  pub ranges : log ≡ map (page_range size) pages
  pub rising : EachPair (λ p q. p < q) pages
  pub each : (p : ℕ) → IsIn p pages → Q p

-- the same, where all are before page `next`
pub record ReadsRisingBefore (size : ℕ) (Q : ℕ → Type 0) (next : ℕ) (log : List ByteRange) : Type 0 where
  pub reads : ReadsRising size Q log
  pub before : (p : ℕ) → IsIn p reads.pages → p < next

-- nothing was read, or page p, of which Q holds
abbrev pub ReadsOrNot : ℕ → (ℕ → Type 0) → ℕ → List ByteRange → Type 0
ReadsOrNot size Q p log = (log ≡ []) ⊎ ((log ≡ page_range size p ∷ []) × Q p)

-- a page that has no mark
abbrev pub IsUnmarked : List Mark → ℕ → Type 0
IsUnmarked marks p = is_unmarked marks p ≡ true

-- Pages of a file were read, none twice, and none of those that have no mark; and these are marks for its pages.
pub record ReadsMarked (g : Geometry) (marks : List Mark) (log : List ByteRange) : Type 0 where
  pub whole : AreMarksFor g marks
  pub pages : IsPageLog g log
  pub marked : (p : ℕ) → IsIn p pages.pages → is_unmarked marks p ≡ false
