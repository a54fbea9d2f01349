-- The root of a tree, and the reference to it.
use Rattle.std.specs.Prelude.{ℕ, List, []}
use Rattle.dbformat.specs.File.{page_bytes}
use Rattle.dbformat.specs.Head.{own_kind}
use Rattle.dbformat.specs.Reference.{Reference}
use Rattle.dbformat.specs.declared.TreeKind.{TreeKind}
use Rattle.dbformat.specs.declared.TreeKind.TheVariants as tree
use Rattle.dbmarks.specs.Marking.{AreMarksOf}
use Rattle.dbtrace.specs.Starts.{AreOfEarlierStarts}
use Rattle.dbwalk.specs.Walking.{IsCandidate}
use Rattle.dbmarks.specs.declared.marks.Mark.{Mark}
use Rattle.dbwalk.specs.declared.root.Root.{Root}
use Rattle.dbwalk.specs.declared.root.RootKind.{RootKind}
use Rattle.dbwalk.specs.declared.root.RootKind.TheVariants.{Schema, Index, Own}

-- the kind of a root's tree, by the bytes of its page
abbrev pub kind_of : RootKind → ℕ → List ℕ → TreeKind
kind_of Schema p page = tree.Table
kind_of Index p page = tree.Index
kind_of Own p page = own_kind p page

-- and in a file
abbrev pub kind_in : List ℕ → Root → TreeKind
kind_in file root = kind_of root.kind root.page (page_bytes file root.page)

-- The reference to a root, where all visits so far are below earlier starts, and the marks are those of the visits.
pub record IsRootAfter (file : List ℕ) (root : Root) (W : List Reference) (c : Reference) (marks : List Mark) : Type 0 where
  pub candidate : IsCandidate (kind_in file root) root.start [] root.page 0 root.start c
  pub early : AreOfEarlierStarts root.start W
  pub marked : AreMarksOf file W marks
