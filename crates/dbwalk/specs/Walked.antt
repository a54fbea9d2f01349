-- What each call of the walk over a tree keeps, and what it says of each file.
use Rattle.std.specs.Prelude.{◌≡◌, ◌⊎◌, ◌≤◌, ℕ, List, Result, IfErr}
use Rattle.dbformat.specs.Address.{schema_start}
use Rattle.dbformat.specs.File.{geometry}
use Rattle.dbformat.specs.Header.{encoding}
use Rattle.dbformat.specs.declared.Geometry.{Geometry}
use Rattle.dbsource.specs.Answers.{Step}
use Rattle.dbsource.specs.Errors.{is_out_of_memory, is_read_failed}
use Rattle.dbsource.specs.Failures.{failures_after}
use Rattle.dbsource.specs.Sources.{HasLog, SourceState}
use Rattle.dbsource.specs.declared.error.RunError.{RunError}
use Rattle.dbsource.specs.declared.error.RunError.TheVariants.{OutOfMemory}
use Rattle.dbtrace.specs.Item.{Item}
use Rattle.dbtrace.specs.Walk.{Walk}
use Rattle.dbwalk.specs.Reporting.{IsReadOrWrite, SinkWalks, SinkState}
use Rattle.dbmarks.specs.Reads.{Reads}
use Rattle.dbwalk.specs.Underway.{HasDone}
use Rattle.dbwalk.specs.declared.tree_walk.TreeWalk.{TreeWalk}

-- the errors of the walk over the tree of a start: only the rows of the schema take memory
abbrev pub IsTreeError : ℕ → RunError → Type 0
IsTreeError start e = IsReadOrWrite e ⊎ ((e ≡ OutOfMemory) × (start ≡ schema_start))

-- It borrows the same source, marks, taker and sink, of the same tree and file. Each failed call of a source or a taker is counted,
-- and is the answer's error; a sink that failed is shut. Only the tree of the schema calls the taker.
pub record Walked {A S K T R : Type 0} (told : S → SourceState) (held : K → SinkState) (refusals : T → ℕ)
    (r : Result R RunError) (g g' : Geometry) (old new : TreeWalk A S K T) : Type 0 where
  pub source : new.source.ghost_name ≡ old.source.ghost_name
  pub marks : new.marks.ghost_name ≡ old.marks.ghost_name
  pub taker : new.taker.ghost_name ≡ old.taker.ghost_name
  pub sink : new.sink.ghost_name ≡ old.sink.ghost_name
  pub coded : new.encoding ≡ old.encoding
  pub shape : g' ≡ g
  pub start : new.tree.start ≡ old.tree.start
  pub kind : new.tree.kind ≡ old.tree.kind
  pub reads : (told new.source.now).failures ≡ failures_after is_read_failed r (told old.source.now).failures
  pub writes : SinkWalks r (held old.sink.now) (held new.sink.now)
  pub refused : refusals new.taker.now ≡ failures_after is_out_of_memory r (refusals old.taker.now)
  pub only : IfErr r (IsTreeError old.tree.start)
  pub others : 1 ≤ old.tree.start → new.taker.now ≡ old.taker.now

-- There is a log of the reads, each page once, and this holds of each file that agrees with the answers.
abbrev pub SaysOfFiles : {A S K T : Type 0} → Step → (S → SourceState) → Geometry → TreeWalk A S K T → TreeWalk A S K T → (List ℕ → Type 0) → Type 0
SaysOfFiles step told g old new says = HasLog step (Reads g.page_size old.marks.now new.marks.now) (λ file. g ≡ geometry file
    → old.encoding ≡ encoding file → says file) (told old.source.now) (told new.source.now)

-- it has done a part of the walk
abbrev pub Does : {A S K T R : Type 0} → ((K × T) → Item → (K × T) → Type 0) → ((K × T) → Item → (K × T) → Type 0) → List ℕ → Walk → Result R RunError
    → TreeWalk A S K T → TreeWalk A S K T → Type 0
Does moves stops file done r old new = HasDone moves stops file done r (new.marks.now, new.tree) (old.sink.now, old.taker.now) (new.sink.now, new.taker.now)
