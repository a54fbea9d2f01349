-- What calls of a sink leave of its state, call after call.
use Rattle.std.proofs.Common.{◌≡◌, Bool, true, false, inl, inr, List, [], ◌∷◌, Result, Ok, Err, refl, sym, ap, subst, ◌∙◌, if◌then◌else◌, IfErr, OnOk, IsErrAnd}
use Rattle.dbwalk.proofs.Common.{Moves, MovesBySome, is_write_failed, RunError, WriteFailed, SinkAfter, SinkMoves, SinkState, SinkWalks}
use Rattle.dbwalk.proofs.Common.{err_from_is_err_and}
use Rattle.std.proofs.lemmas.Bool.{false≢true}
use Rattle.dbwalk.specs.Reporting.{HasFailed}

-- what the exit of a `?` answers, where the error is known
pub err_is : {A : Type 0} {r : Result A RunError} {e : RunError} → IsErrAnd r (λ x. x ≡ e) → r ≡ Err e
err_is {r = r} h = let q = err_from_is_err_and r h in q.1 ∙ ap Err q.2

-- some items, and then others
pub moves_then : {a b c : SinkState} → SinkMoves a b → SinkMoves b c → SinkMoves a c
moves_then {a = a} {c = c} h (inl e) = subst (λ n. SinkMoves a n) (sym e) h
moves_then {c = c} (inl e) (inr k) = subst (λ n. SinkMoves n c) e (inr k)
moves_then (inr h) (inr k) = absurd (false≢true (sym k.was_open ∙ h.shut))

-- one that is open afterwards is as it was
pub moves_open : {a b : SinkState} → SinkMoves a b → b.is_shut ≡ false → b ≡ a
moves_open (inl e) o = e
moves_open (inr h) o = absurd (false≢true (sym o ∙ h.shut))

-- a part of a walk after items, and items alone
pub walks_after : {A : Type 0} {r : Result A RunError} {a b c : SinkState} → SinkWalks r b c → SinkMoves a b → SinkWalks r a c
walks_after k h = record { moves = moves_then h k.moves; shut = k.shut }

pub walks_ok : {A : Type 0} {x : A} {a b : SinkState} → SinkMoves a b → SinkWalks (Ok x) a b
walks_ok h = record { moves = h; shut = tt }

-- an error, by what it is
pub walks_err : {A : Type 0} {r : Result A RunError} {e : RunError} {a b : SinkState} → r ≡ Err e → SinkMoves a b → b.is_shut ≡ is_write_failed e
    → SinkWalks r a b
walks_err {a = a} {b = b} q h s = subst (λ r. SinkWalks r a b) (sym q) (record { moves = h; shut = s })

-- the same error, of an answer of another type
pub walks_as : {A B : Type 0} {r : Result B RunError} {e : RunError} {a b : SinkState} → r ≡ Err e → SinkWalks {A = A} (Err e) a b → SinkWalks r a b
walks_as q h = walks_err q h.moves h.shut

-- a whole walk: it began with an open sink, and at Ok it ended so
pub walks_end : {A : Type 0} (r : Result A RunError) {a b : SinkState} → SinkWalks r a b → a.is_shut ≡ false → OnOk r (b.is_shut ≡ false)
    → SinkAfter is_write_failed r a b
walks_end (Ok x) h o e = moves_open h.moves e
walks_end (Err WriteFailed) {a} {b} h o e = failed h.moves
  where
    failed : SinkMoves a b → HasFailed a b
    failed (inl same) = absurd (false≢true (sym o ∙ sym (ap (λ x. x.is_shut) same) ∙ h.shut))
    failed (inr k) = k.failed
walks_end (Err _) h o e = moves_open h.moves h.shut

-- all items are a beginning of them
pub moves_some : {S I : Type 0} (takes : S → I → S → Type 0) (s t : S) (items : List I) → Moves takes s items t → MovesBySome takes s items t
moves_some takes s t [] h = h
moves_some takes s t (x ∷ items) h = inr (h.0, h.1, moves_some takes h.0 t items h.2)

-- the answer of a walk that did all, where the sink is asked at its end
abbrev pub asked : Bool → Result (Unit {0}) RunError
asked shut = if shut then Err WriteFailed else Ok tt

pub asked_both : (P : Result (Unit {0}) RunError → Type 0) {r : Result (Unit {0}) RunError} (shut : Bool) → r ≡ asked shut → P (Ok tt) → P (Err WriteFailed)
    → P r
asked_both P shut e h k = subst P (sym e) (by_answer shut)
  where
    by_answer : (shut : Bool) → P (asked shut)
    by_answer true = k
    by_answer false = h

-- and what it leaves of the sink
pub asked_walks : {r : Result (Unit {0}) RunError} {a b : SinkState} → r ≡ asked b.is_shut → SinkMoves a b → SinkWalks r a b
asked_walks {a = a} {b = b} e h = subst (λ r. SinkWalks r a b) (sym e) (record { moves = h; shut = by_answer b.is_shut refl })
  where
    by_answer : (shut : Bool) → b.is_shut ≡ shut → IfErr (asked shut) (λ x. b.is_shut ≡ is_write_failed x)
    by_answer true s = s
    by_answer false s = tt

pub asked_open : {r : Result (Unit {0}) RunError} (shut : Bool) → r ≡ asked shut → OnOk r (shut ≡ false)
asked_open shut e = subst (λ r. OnOk r (shut ≡ false)) (sym e) (by_answer shut)
  where
    by_answer : (shut : Bool) → OnOk (asked shut) (shut ≡ false)
    by_answer true = tt
    by_answer false = refl
