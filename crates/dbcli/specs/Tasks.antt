-- What a line asks for, and what it leaves: what one run leaves, or a mend.
use Rattle.std.specs.Prelude.{◌≡◌, ℕ, List, [], Result, IfErr, OnOk}
use Rattle.dbformat.specs.declared.Verdict.{Verdict}
use Rattle.dbsource.specs.Changes.{Change}
use Rattle.dbsource.specs.Patched.{ChangedLength, ChangedStep, Over, changed}
use Rattle.dbsource.specs.declared.error.RunError.{RunError}
use Rattle.dbsource.specs.declared.out.Out.{Ghosts as OutWords}
use Rattle.dbsource.specs.declared.source.Source.{Ghosts as SourceWords}
use Rattle.dbmend.specs.Mended.{HasMended}
use Rattle.dbcli.specs.ErrorLines.{error_line}
use Rattle.dbcli.specs.Exit.{EndsWithLine}
use Rattle.dbcli.specs.Finishing.{Finishes}
use Rattle.dbcli.specs.Handing.{IsMendHanded}
use Rattle.dbcli.specs.Status.{exit_status}
use Rattle.dbcli.specs.declared.task.Task.{Task}
use Rattle.dbcli.specs.declared.task.Task.TheVariants.{Run, Mend}

-- a source with changes, as contracts see it
abbrev pub changed_words : {S : Type 0} → SourceWords S → SourceWords (Over S)
changed_words source = record {
  held = λ s. changed s.changes (source.held s.source);
  step = ChangedStep source.step;
  lengths = ChangedLength source.lengths;
}

module _ {S O E : Type 0} (source : SourceWords S) (out : OutWords O) (err : OutWords E) where
  -- What a mend with at most this many changes leaves of a source and of two Outs.
  pub record LeavesMend (limit status : ℕ) (old new : S × O × E) : Type 0 where
    -- it answered this, and wrote to the first Out alone
    pub answer : Result Verdict RunError
    pub written : O
    pub mended : HasMended source out limit answer (old.0, old.1) (new.0, written)
    -- what it wrote was handed on, and this is the outcome
    pub outcome : Result Verdict RunError
    pub second : E
    pub handed : IsMendHanded answer outcome (out.held written) (out.held new.1) (err.held old.2) (err.held second)
    -- the status is that of the outcome
    pub is_status : status ≡ exit_status outcome
    -- the second Out got nothing, or the line of the error
    pub quiet : OnOk outcome (err.held new.2 ≡ err.held second)
    pub line : IfErr outcome (λ error. EndsWithLine (error_line error) 2 (err.held second) (err.held new.2))

  -- What is left by what a line asks for.
  abbrev pub Does : Task → ℕ → S × O × E → S × O × E → Type 0
  Does (Run asked) status old new = Finishes source out err [] asked status old new
  Does (Mend limit) status old new = LeavesMend limit status old new

module _ {S O E : Type 0} (source : SourceWords S) (out : OutWords O) (err : OutWords E) where
  -- The same of a file with changes. A mend is then a mend of the file with these.
  abbrev pub DoesWith : List Change → Task → ℕ → S × O × E → S × O × E → Type 0
  DoesWith changes (Run asked) status old new = Finishes source out err changes asked status old new
  DoesWith changes (Mend limit) status old new = (left : Over S) × (left.source ≡ new.0)
      × LeavesMend (changed_words source) out err limit status (record { changes = changes; source = old.0 }, old.1, old.2) (left, new.1, new.2)
