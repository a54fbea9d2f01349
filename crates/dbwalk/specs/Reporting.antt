-- What was reported to a sink, whatever it does with it, and which Outs failed.
use Rattle.std.specs.Prelude.{◌≡◌, ℕ, Bool, false, true, List, [], ◌∷◌, Result, map, ◌⊎◌, Ok, Err, IfErr}
use Rattle.dbsource.specs.Errors.{is_write_failed}
use Rattle.dbsource.specs.Failures.{HasOneMore, MovesAfter}
use Rattle.dbsurvey.specs.Moves.{Moves, MovesBySome}
use Rattle.dbformat.specs.declared.Fault.{Fault}
use Rattle.dbtrace.specs.Finding.{Finding, reported_alone}
use Rattle.dbsource.specs.declared.error.RunError.{RunError}
use Rattle.dbsource.specs.declared.error.RunError.TheVariants.{ReadFailed, WriteFailed, OutOfMemory}

-- Which Outs or sinks a sink borrows, and what these borrow in turn, by the names of these borrows, which no call changes; how
-- many calls failed, for each Out on its own; and whether it is shut, as it is after a failure.
pub record SinkState : Type 0 where
  pub lent : List ℕ
  pub failures : List ℕ
  pub is_shut : Bool

-- one Out is borrowed, under this name, this is its count of failures, and whether it is shut
abbrev pub one_out : ℕ → ℕ → Bool → SinkState
one_out name failures is_shut = record { lent = name ∷ []; failures = failures ∷ []; is_shut = is_shut }

-- it borrows the same, and one of the Outs failed once more
pub record HasFailed (old new : SinkState) : Type 0 where
  pub lent : new.lent ≡ old.lent
  pub failures : HasOneMore old.failures new.failures

-- a sink after an answer: one of its Outs failed once more exactly if the answer is an error of the counted kind
abbrev pub SinkAfter : {A E : Type 0} → (E → Bool) → Result A E → SinkState → SinkState → Type 0
SinkAfter is_counted r old new = MovesAfter HasFailed is_counted r old new

-- it was open, one of the Outs failed once more, and it is shut
pub record HasShut (old new : SinkState) : Type 0 where
  pub was_open : old.is_shut ≡ false
  pub shut : new.is_shut ≡ true
  pub failed : HasFailed old new

-- a sink after some items: it is as it was, or one of its Outs failed and it has shut
abbrev pub SinkMoves : SinkState → SinkState → Type 0
SinkMoves old new = (new ≡ old) ⊎ HasShut old new

-- A sink after a part of a walk: after an error it is shut exactly if this is WriteFailed.
pub record SinkWalks {A : Type 0} (r : Result A RunError) (old new : SinkState) : Type 0 where
  pub moves : SinkMoves old new
  pub shut : IfErr r (λ e. new.is_shut ≡ is_write_failed e)

-- all items came to a sink
pub record IsReportedTo {S I : Type 0} (takes : S → I → S → Type 0) (held : S → SinkState) (s : S) (reported : List I) (t : S) : Type 0 where
  pub items : Moves takes s reported t
  pub count : SinkMoves (held s) (held t)

-- faults that go back to nothing but themselves, as findings
abbrev pub findings : List Fault → List Finding
findings fs = map reported_alone fs

-- at Ok all items, after an error a beginning of them
abbrev pub Reports : {S I A : Type 0} → (S → I → S → Type 0) → Result A RunError → S → List I → S → Type 0
Reports takes (Ok a) s items t = Moves takes s items t
Reports takes (Err e) s items t = MovesBySome takes s items t

-- an error of reading or writing
abbrev pub IsReadOrWrite : RunError → Type 0
IsReadOrWrite e = (e ≡ ReadFailed) ⊎ (e ≡ WriteFailed)

-- an error of writing or of memory
abbrev pub IsWriteOrMemory : RunError → Type 0
IsWriteOrMemory e = (e ≡ WriteFailed) ⊎ (e ≡ OutOfMemory)

-- an error of reading, writing or memory
abbrev pub IsReadWriteOrMemory : RunError → Type 0
IsReadWriteOrMemory e = IsReadOrWrite e ⊎ (e ≡ OutOfMemory)
