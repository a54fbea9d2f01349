-- What a walk beside the pages of a tree leaves, part after part.
use Rattle.std.proofs.Common.{◌≡◌, ℕ, Bool, true, false, inl, inr, List, [], ◌∷◌, ◌++◌, Option, Some, None, Result, Ok, Err, refl, sym, ap, subst, ◌∙◌, IfErr}
use Rattle.std.proofs.Common.{IfSome}
use Rattle.dbwalk.proofs.Common.{Go, Errand, errands_of, is_followed, geometry, Way, Reference, role_of, tree_kind, rules_of, Event, at_page, at_refused}
use Rattle.dbwalk.proofs.Common.{story_of, Moves, Finding, reported_at, refusal_cause, Cause, KeepsMarks, Mark, AreMarksOf, is_read_failed, failures_after}
use Rattle.dbwalk.proofs.Common.{SourceState, Walk, advance, RunError, WriteFailed, EntersBeside, Enters, Opens, Turns, WalksBeside, IsReadOrWrite, SinkMoves}
use Rattle.dbwalk.proofs.Common.{SinkState, SinkWalks, Geometry, log_then, Reads, has_weaker, ReadFailed, Step, Tree, HasDone, IsUnderway, IsAt, fed, never}
use Rattle.dbwalk.proofs.Common.{append-nil}
use Rattle.dbmarks.proofs.Readings.{reads_none}
use Rattle.dbsource.proofs.Logs.{has_none}
use Rattle.dbsource.specs.Sources.{HasLog}
use Rattle.dbtrace.proofs.Asides.{IsOff, item_off, step_off}
use Rattle.dbwalk.specs.Beside.{IsAtStep, LeavesBeside}
use Rattle.dbwalk.proofs.Reporting.Sinks.{walks_after, walks_as, walks_err, walks_ok}
use Rattle.dbwalk.proofs.Underway.Handing.{found_fed}
use Rattle.dbwalk.proofs.Underway.Underways.{items_of, stop_now, under_end, under_refused, under_visit, under_whole}
use Rattle.dbsource.specs.Answers as answers

-- nothing was read
pub beside_reported : {A : Type 0} {x : A} {s : SourceState} {a b : SinkState} → SinkMoves a b → LeavesBeside (Ok x) s s a b
beside_reported moves = record { reads = refl; writes = walks_ok moves; only = tt }

pub beside_shut : {A : Type 0} {r : Result A RunError} {s : SourceState} {a b : SinkState} → r ≡ Err WriteFailed → SinkWalks r a b → LeavesBeside r s s a b
beside_shut {A = A} {s = s} q walks = record {
  reads = subst (λ (r : Result A RunError). s.failures ≡ failures_after is_read_failed r s.failures) (sym q) refl;
  writes = walks;
  only = subst (λ (r : Result A RunError). IfErr r IsReadOrWrite) (sym q) (inr refl);
}

-- a page of no tree could not be read, or was read
pub beside_unread : {A : Type 0} {r : Result A RunError} {s t : SourceState} {a b : SinkState} → r ≡ Err ReadFailed
    → t.failures ≡ failures_after {A = A} is_read_failed (Err ReadFailed) s.failures → SinkMoves a b → b.is_shut ≡ false → LeavesBeside r s t a b
beside_unread {A = A} {s = s} {t = t} q count moves still = record {
  reads = subst (λ (r : Result A RunError). t.failures ≡ failures_after is_read_failed r s.failures) (sym q) count;
  writes = walks_err q moves still;
  only = subst (λ (r : Result A RunError). IfErr r IsReadOrWrite) (sym q) (inl refl);
}

pub beside_read : {A : Type 0} {x : A} {s t : SourceState} {a b : SinkState} → t.failures ≡ s.failures → SinkMoves a b → LeavesBeside (Ok x) s t a b
beside_read count moves = record { reads = count; writes = walks_ok moves; only = tt }

-- the same of an answer of another type
pub beside_as : {A B : Type 0} {r : Result B RunError} {e : RunError} {s t : SourceState} {a b : SinkState} → r ≡ Err e
    → LeavesBeside {A = A} (Err e) s t a b → LeavesBeside r s t a b
beside_as {B = B} {s = s} {t = t} is h = record {
  reads = subst (λ (r : Result B RunError). t.failures ≡ failures_after is_read_failed r s.failures) (sym is) h.reads;
  writes = walks_as is h.writes;
  only = subst (λ (r : Result B RunError). IfErr r IsReadOrWrite) (sym is) h.only;
}

-- one after another
pub beside_then : {A B : Type 0} {x : A} {r : Result B RunError} {s t u : SourceState} {a b c : SinkState} → LeavesBeside (Ok x) s t a b
    → LeavesBeside r t u b c → LeavesBeside r s u a c
beside_then {r = r} h k = record {
  reads = k.reads ∙ ap (failures_after is_read_failed r) h.reads;
  writes = walks_after k.writes h.writes.moves;
  only = k.only;
}

-- The same with the log of the reads, and what holds of each file.

-- nothing was read
pub walk_unread : {A : Type 0} {r : Result A RunError} {step : answers.Step} {s : SourceState} {a b : SinkState} {size : ℕ} {l m : List Mark}
    {T : List ℕ → Type 0} → LeavesBeside r s s a b → KeepsMarks l m → ((file : List ℕ) → T file) → WalksBeside step r s s a b size l m T
walk_unread {s = s} {size = size} {l = l} {m = m} beside keeps says =
    record { log = has_none s s refl refl (reads_none size l m keeps) (λ file e. says file); beside = beside }

-- an error of a part, and what was reported after one
pub walk_as : {A B : Type 0} {r : Result B RunError} {e : RunError} {step : answers.Step} {s t : SourceState} {a b : SinkState} {size : ℕ} {l m : List Mark}
    {P T : List ℕ → Type 0} → r ≡ Err e → WalksBeside {A = A} step (Err e) s t a b size l m P → ((file : List ℕ) → P file → T file)
    → WalksBeside step r s t a b size l m T
walk_as q h says = record { log = has_weaker _ _ h.log (λ log k. k) (λ file f e. says file (f e)); beside = beside_as q h.beside }

pub walk_reported : {A B : Type 0} {x : A} {y : B} {step : answers.Step} {s t : SourceState} {a b c : SinkState} {size : ℕ} {l m : List Mark}
    {P T : List ℕ → Type 0} → WalksBeside step (Ok x) s t a b size l m P → SinkMoves b c → ((file : List ℕ) → P file → T file)
    → WalksBeside step (Ok y) s t a c size l m T
walk_reported h moves says = record {
  log = has_weaker _ _ h.log (λ log k. k) (λ file f e. says file (f e));
  beside = beside_then h.beside (beside_reported moves);
}

-- one part after another
pub walk_then : {A B : Type 0} {x : A} {r : Result B RunError} {step : answers.Step} {s t u : SourceState} {a b c : SinkState} {size size' : ℕ}
    {l m n : List Mark} {P Q T : List ℕ → Type 0} → size' ≡ size → WalksBeside step (Ok x) s t a b size l m P → WalksBeside step r t u b c size' m n Q
    → ((file : List ℕ) → P file → Q file → T file) → WalksBeside step r s u a c size l n T
walk_then same h k says =
    record { log = log_then _ _ same h.log k.log (λ file f g e. says file (f e) (g (same ∙ e))); beside = beside_then h.beside k.beside }

-- by another name of the size
pub walk_sized : {A : Type 0} {r : Result A RunError} {step : answers.Step} {s t : SourceState} {a b : SinkState} {size size' : ℕ} {l m : List Mark}
    {P T : List ℕ → Type 0} → size ≡ size' → WalksBeside step r s t a b size l m P → ((file : List ℕ) → P file → T file)
    → WalksBeside step r s t a b size' l m T
walk_sized {l = l} {m = m} is h says = record {
  log = has_weaker _ _ h.log (λ log k. subst (λ n. Reads n l m log) is k) (λ file f e. says file (f (is ∙ e)));
  beside = h.beside;
}

-- what a log by the size of pages says by the geometry
pub log_shaped : {step : answers.Step} {s t : SourceState} {size : ℕ} {shape : Geometry} {l m : List Mark} {P Q : List ℕ → Type 0} → size ≡ shape.page_size
    → HasLog step (Reads size l m) (λ file. size ≡ (geometry file).page_size → P file) s t → ((file : List ℕ) → shape ≡ geometry file → P file → Q file)
    → HasLog step (Reads shape.page_size l m) (λ file. shape ≡ geometry file → Q file) s t
log_shaped {l = l} {m = m} same h says = has_weaker _ _ h (λ log k. subst (λ n. Reads n l m log) same k)
    (λ file f e. says file e (f (same ∙ ap (λ s. s.page_size) e)))

-- A turn, by what it answers.

module _ {S P : Type 0} {takes : S → Finding → S → Type 0} {file : List ℕ} {whole : Walk} {before : S} {on : P → Type 0} {end : Type 0}
    {state : List Mark × Tree} {s : S} where
  pub turn_failed : {r : Result (Option P) RunError} {e : RunError} → r ≡ Err e
      → HasDone {A = Unit {0}} (fed takes) never file whole (Err e) state before s → Turns takes file whole before on end r state s
  turn_failed q h = subst (λ r. Turns takes file whole before on end r state s) (sym q) (record { next = tt; ended = tt; stopped = h })

  -- nothing is left
  pub turn_ended : {now : Walk} → IsUnderway (fed takes) file whole before now [] state s → (whole.visits ≡ now.visits → end)
      → Turns takes file whole before on end (Ok None) state s
  turn_ended {now = now} h end = record {
    next = tt;
    ended = λ none. (under_end (fed takes) never file whole before tt now state s h, end (ap (λ m. m.visits) (sym (under_whole h))));
    stopped = tt;
  }

  pub turn_on : {place : P} → on place → Turns takes file whole before on end (Ok (Some place)) state s
  turn_on h = record { next = h; ended = λ none. cc; stopped = tt }

  pub turned_on : {o : Option P} {place : P} → Turns takes file whole before on end (Ok o) state s → o ≡ Some place → on place
  turned_on h is = subst (λ o. IfSome o on) is h.next

-- A reference to a page of no tree: it is refused, or visited. Marks and findings are those of its event, and the tree's state stays.
module _ {S : Type 0} {takes : S → Finding → S → Type 0} {file : List ℕ} {whole : Walk} {before : S} {now : Walk} {d : Reference}
    {es : List (Errand Way Event)} {marks : List Mark} {tree : Tree} {s : S}
    (under : IsUnderway (fed takes) file whole before now (Go d ∷ es) (marks, tree) s) (aside : tree_kind (role_of d) ≡ None) where
  at_off : {marks' : List Mark} (event : Event) → IsOff file event → AreMarksOf file (advance file now event).visits marks'
      → IsAt file (advance file now event) marks' tree
  at_off event off m =
      let same = sym (step_off file (advance file now event).visits now.state event off) in
      (m, under.at.1 ∙ ap (λ p. p.greatest) same, under.at.2 ∙ ap (λ p. p.leaf) same)

  moves_off : (t : S) (event : Event) → IsOff file event → Moves takes s (reported_at file (advance file now event).visits event) t
      → Moves (fed takes) s (items_of file now event) t
  moves_off t event off h =
      let U = (advance file now event).visits in
      subst (λ l. Moves (fed takes) s l t) (sym (item_off file U now.state event off)) (found_fed takes (reported_at file U event) s t h)

  pub refused_beside : {marks' : List Mark} {t : S} → Enters takes file now.visits d (refusal_cause file now.visits d) (Ok false) marks' s t
      → IsUnderway (fed takes) file whole before (advance file now (at_refused d)) es (marks', tree) t
  refused_beside {marks'} {t} e =
      let same = sym (append-nil now.visits) in
      under_refused (fed takes) file whole before now (marks, tree) (marks', tree) s t d es under e.0
      (at_off (at_refused d) aside (subst (λ V. AreMarksOf file V marks') same e.1))
      (moves_off t (at_refused d) aside (subst (λ V. Moves takes s (reported_at file V (at_refused d)) t) same e.2))

  pub visited_beside : {marks' : List Mark} {t : S} → is_followed (rules_of file) now.visits d ≡ true → AreMarksOf file (now.visits ++ (d ∷ [])) marks'
      → Moves takes s (reported_at file (now.visits ++ (d ∷ [])) (at_page d)) t
      → IsUnderway (fed takes) file whole before (advance file now (at_page d)) (errands_of (story_of file) d ++ es) (marks', tree) t
  visited_beside {marks'} {t} f m h = under_visit (fed takes) file whole before now (marks, tree) (marks', tree) s t d es under f (at_off (at_page d) aside m)
      (moves_off t (at_page d) aside h)

-- a turn at a step
module _ {S : Type 0} {takes : S → Finding → S → Type 0} {file : List ℕ} {whole : Walk} {before : S} {step : Step} {why : Cause} {marks : List Mark}
    {tree : Tree} {s : S} (at : IsAtStep takes file whole before step why (marks, tree) s) where
  -- an error stopped it
  pub turn_stopped : {P : Type 0} {on : P → Type 0} {end : Type 0} {r : Result (Option P) RunError} {e : RunError} {marks' : List Mark} {t : S}
      {here : List ℕ} → r ≡ Err e → IsReadOrWrite e → EntersBeside takes file step why marks s (Err e) marks' t here
      → Turns takes file whole before on end r (marks', tree) t
  turn_stopped {e = e} {t = t} q only h = turn_failed q (record {
    at = tt;
    handed = stop_now (fed takes) file whole before at.now (marks, tree) (marks, tree) s t never e (Go at.d ∷ []) at.rest only
        (h.opens at.now.visits at.d at.is at.rest.past at.rest.at.0 at.cause_is);
  })

  -- the reference is refused, or followed
  module _ {b : Bool} {marks' : List Mark} {t : S} {here : List ℕ} (h : EntersBeside takes file step why marks s (Ok b) marks' t here) where
    entered : (d : Bool) → b ≡ d → Opens takes file at.now.visits at.d (Ok d) marks' s t here
    entered d is = subst (λ b. Opens takes file at.now.visits at.d (Ok b) marks' s t here) is
        (h.opens at.now.visits at.d at.is at.rest.past at.rest.at.0 at.cause_is)

    pub turn_refused : {P : Type 0} {on : P → Type 0} {end : Type 0} → b ≡ false → (whole.visits ≡ at.now.visits → end)
        → Turns takes file whole before on end (Ok None) (marks', tree) t
    turn_refused is end = turn_ended (refused_beside at.rest at.aside (entered false is)) (λ e. end (e ∙ append-nil at.now.visits))

    pub turn_entered : b ≡ true → Opens takes file at.now.visits at.d (Ok true) marks' s t here
    turn_entered is = entered true is
