-- What is written to an Out, until it fails.
use Rattle.std.specs.Prelude.{◌≡◌, ℕ, Bool, true, false, List, Result, Ok, Err}
use Rattle.dbformat.specs.Reference.{Reference}
use Rattle.dbsource.specs.Outs.{OutState, Puts}
use Rattle.dblines.specs.declared.writer.Writer.{Writer}

-- whether an Out failed, as an answer, and the other way round
abbrev pub failure_answer : Bool → Result (Unit {0}) (Unit {0})
failure_answer true = Err tt
failure_answer false = Ok tt

abbrev pub answer_of : {A E : Type 0} → Result A E → Bool
answer_of (Ok a) = false
answer_of (Err e) = true

-- bytes were put, where the Out had not failed before, and else it is as it was
abbrev pub IsWritten : Bool → Bool → OutState → OutState → List ℕ → Type 0
IsWritten true failed old new text = (new ≡ old) × (failed ≡ true)
IsWritten false failed old new text = Puts (failure_answer failed) old new text

-- these bytes were written
pub record Wrote {O : Type 0} (held : O → OutState) (s : Writer O) (text : List ℕ) (t : Writer O) : Type 0 where
  pub same_out : t.out.ghost_name ≡ s.out.ghost_name
  pub written : IsWritten s.has_failed t.has_failed (held s.out.now) (held t.out.now) text

-- Some text was written, and of each file and survey of which this is known it is this text.
pub record WroteOf {O : Type 0} (held : O → OutState) (s : Writer O) (Known : List ℕ → List Reference → Type 0)
    (text : List ℕ → List Reference → List ℕ) (t : Writer O) : Type 0 where
  pub all : List ℕ
  pub wrote : Wrote held s all t
  pub is : (file : List ℕ) (V : List Reference) → Known file V → all ≡ text file V

-- and put to an Out
pub record PutsOf {A E : Type 0} (r : Result A E) (old new : OutState) (Known : List ℕ → List Reference → Type 0)
    (text : List ℕ → List Reference → List ℕ) : Type 0 where
  pub all : List ℕ
  pub puts : Puts r old new all
  pub is : (file : List ℕ) (V : List Reference) → Known file V → all ≡ text file V
