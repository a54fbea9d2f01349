-- A walk beside the pages of a tree: along an overflow chain, or along the freelist.
use Rattle.std.specs.Prelude.{◌≡◌, ℕ, ◌≤◌, Bool, true, false, List, [], ◌∷◌, length, Option, None, Result, Ok, Err, IfErr, IfOk, IfSome}
use Rattle.dbsurvey.specs.Story.{Go}
use Rattle.dbformat.specs.File.{geometry, page_bytes}
use Rattle.dbformat.specs.Reference.{Reference, role_of, tree_kind}
use Rattle.dbmarks.specs.Marking.{AreMarksOf}
use Rattle.dbmarks.specs.Reads.{Reads}
use Rattle.dbmarks.specs.declared.marks.Mark.{Mark}
use Rattle.dbsource.specs.Answers as answers
use Rattle.dbsource.specs.Errors.{is_read_failed}
use Rattle.dbsource.specs.Failures.{failures_after}
use Rattle.dbsource.specs.Sources.{HasLog, SourceState}
use Rattle.dbsource.specs.declared.error.RunError.{RunError}
use Rattle.dbtrace.specs.Causes.{refusal_cause}
use Rattle.dbtrace.specs.Finding.{Finding}
use Rattle.dbtrace.specs.Walk.{Walk}
use Rattle.dbtrace.specs.declared.Cause.{Cause}
use Rattle.dbwalk.specs.Entered.{Enters, IsNext, IsStepOf}
use Rattle.dbwalk.specs.Reporting.{IsReadOrWrite, SinkState, SinkWalks}
use Rattle.dbwalk.specs.Underway.{HasDone, IsUnderway}
use Rattle.dbwalk.specs.Watching.{fed, never}
use Rattle.dbwalk.specs.declared.entering.Step.{Step}
use Rattle.dbwalk.specs.declared.state.Tree.{Tree}

-- a buffer for a page with this usable size
pub record IsPageBuffer (usable : ℕ) (buffer : List ℕ) : Type 0 where
  pub least : 480 ≤ usable
  pub within : usable ≤ length buffer
  pub most : length buffer ≤ 65536

-- What it leaves of what it borrows. The source failed exactly where ReadFailed is answered, and a sink that failed is shut; there is no
-- error but these.
pub record LeavesBeside {A : Type 0} (r : Result A RunError) (old new : SourceState) (before after : SinkState) : Type 0 where
  pub reads : new.failures ≡ failures_after is_read_failed r old.failures
  pub writes : SinkWalks r before after
  pub only : IfErr r IsReadOrWrite

-- And there is a log of the reads, each page of this size once, and this holds of each file that agrees with the answers.
pub record WalksBeside {A : Type 0} (step : answers.Step) (r : Result A RunError) (old new : SourceState) (before after : SinkState) (size : ℕ)
    (marks marks' : List Mark) (says : List ℕ → Type 0) : Type 0 where
  pub log : HasLog step (Reads size marks marks') (λ file. size ≡ (geometry file).page_size → says file) old new
  pub beside : LeavesBeside r old new before after

-- a reference was followed, and its page marked and read; or it was refused, which was reported; or nothing was reported
abbrev pub Opens : {S : Type 0} → (S → Finding → S → Type 0) → List ℕ → List Reference → Reference → Result Bool RunError → List Mark → S → S → List ℕ → Type 0
Opens takes file W c (Ok true) marks s t here = Enters takes file W c (refusal_cause file W c) (Ok true) marks s t × (here ≡ page_bytes file c.page)
Opens takes file W c (Ok false) marks s t here = Enters takes file W c (refusal_cause file W c) (Ok false) marks s t
Opens takes file W c (Err e) marks s t here = s ≡ t

-- so whatever was visited, and whatever the step's reference is, if a fault of it has this cause
pub record EntersBeside {S : Type 0} (takes : S → Finding → S → Type 0) (file : List ℕ) (step : Step) (why : Cause) (marks : List Mark) (s : S)
    (r : Result Bool RunError) (marks' : List Mark) (t : S) (here : List ℕ) : Type 0 where
  pub opens : (W : List Reference) (c : Reference) → IsStepOf step c → IsNext W c → AreMarksOf file W marks → refusal_cause file W c ≡ why
      → Opens takes file W c r marks' s t here

-- On the way of a whole walk: the reference of a step is left, which is to a page of no tree.
pub record IsAtStep {S : Type 0} (takes : S → Finding → S → Type 0) (file : List ℕ) (whole : Walk) (before : S) (step : Step) (why : Cause)
    (state : List Mark × Tree) (s : S) : Type 0 where
  pub now : Walk
  pub d : Reference
  pub is : IsStepOf step d
  pub aside : tree_kind (role_of d) ≡ None
  pub cause_is : refusal_cause file now.visits d ≡ why
  pub rest : IsUnderway (fed takes) file whole before now (Go d ∷ []) state s

-- What a turn leaves: it is on the way at the next place, or at the end, or stopped by an error.
pub record Turns {S P : Type 0} (takes : S → Finding → S → Type 0) (file : List ℕ) (whole : Walk) (before : S) (on : P → Type 0) (end : Type 0)
    (r : Result (Option P) RunError) (state : List Mark × Tree) (s : S) : Type 0 where
  pub next : IfOk r (λ o. IfSome o on)
  pub ended : IfOk r (λ o. o ≡ None → HasDone {A = Unit {0}} (fed takes) never file whole (Ok tt) state before s × end)
  pub stopped : IfErr r (λ e. HasDone {A = Unit {0}} (fed takes) never file whole (Err e) state before s)
