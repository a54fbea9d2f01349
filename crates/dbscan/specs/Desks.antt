-- What a desk holds, and what a walk does to it.
use Rattle.std.specs.Prelude.{◌≡◌, ℕ, List, [], None, length, Result}
use Rattle.dbformat.specs.File.{refusal_of}
use Rattle.dbformat.specs.FixedPages.{geometry_of}
use Rattle.dbformat.specs.declared.Geometry.{Geometry}
use Rattle.dbsource.specs.Answers.{Step}
use Rattle.dbsource.specs.Bench.{Pages}
use Rattle.dbsource.specs.Errors.{is_read_failed}
use Rattle.dbsource.specs.HeaderBytes.{HeaderBytes}
use Rattle.dbsource.specs.Headers.{IsHeaderOf}
use Rattle.dbsource.specs.Sources.{Asks, SourceState}
use Rattle.dbsource.specs.declared.error.RunError.{RunError}
use Rattle.dbmarks.specs.Marking.{AreMarksFor, marks_of}
use Rattle.dbmarks.specs.Reads.{Reads}
use Rattle.dbmarks.specs.declared.marks.Mark.{Mark}
use Rattle.dbscan.specs.Roots.{Listed}
use Rattle.dbscan.specs.declared.desk.Desk.TheInside.{Inside}

-- a desk as contracts see it
pub record DeskView : Type 0 where
  pub header : HeaderBytes
  pub pages : Pages
  pub marks : List Mark
  pub roots : Listed

abbrev pub desk_view : {A : Type 0} → Inside A → DeskView
desk_view d = record { header = d.header; pages = d.bench; marks = d.marks; roots = d.roots }

-- the header is accepted, and page buffers and marks are those for its file
pub record AreForHeader {A : Type 0} (d : Inside A) : Type 0 where
  pub accepted : (refusal_of d.header.bytes d.header.file_len ≡ None) × (length d.header.bytes ≡ 100)
  pub shape : d.bench.geometry ≡ geometry_of d.header.bytes d.header.file_len
  pub marks : AreMarksFor d.bench.geometry d.marks

-- the shape of the file of a desk
abbrev pub shape_of : DeskView → Geometry
shape_of d = geometry_of d.header.bytes d.header.file_len

-- no page was visited, and no root taken
pub record IsFresh (d : DeskView) : Type 0 where
  pub marks : d.marks ≡ marks_of (shape_of d) []
  pub roots : d.roots.rows ≡ []

-- What walks over a desk asked for: pages of its file, none twice, each of which got its mark in between. What was left holds
-- of each file with its header that agrees with what was read. The source failed exactly where that is answered.
abbrev pub AsksOver : {A : Type 0} → Step → DeskView → DeskView → (List ℕ → Type 0) → Result A RunError → SourceState → SourceState → Type 0
AsksOver step old new T r before after = Asks step (Reads (shape_of old).page_size old.marks new.marks) (λ file. IsHeaderOf old.header file
    → T file) is_read_failed r before after
