-- Items that are handed to a sink and a taker, one list after another.
use Rattle.std.proofs.Common.{◌≡◌, Bool, inl, inr, List, [], ◌∷◌, ◌++◌, map, Result, Ok, Err, refl, sym, ap, subst, ℕ, ◌∙◌, OnOk}
use Rattle.dbwalk.proofs.Common.{Moves, Stops, MovesBySome, SchemaCell, SchemaRow, RunError, WriteFailed, OutOfMemory, Finding, Item, found, given}
use Rattle.dbwalk.proofs.Common.{given_cells, counted_findings, Reports, ReportsRow, watches, fails, fed, never, row_at, StopsAt, Handed, Taken, AreQuiet}
use Rattle.dbwalk.proofs.Common.{Errand, geometry, rules_of, Way, Event, own_visit, story_of, Walk, bare, run_below, AreMarksOf, IsAt, HasDone, done_below}
use Rattle.dbwalk.proofs.Common.{Mark, Tree, Moves-append, some_after, has_steps}
use Rattle.dbsurvey.proofs.Moving.{some_first, stops_first, stops_after}
use Rattle.dbsurvey.specs.Story.{reporting_of}
use Rattle.dbsurvey.proofs.Advancing.{run_visits}
use Rattle.dbtrace.specs.Walk.{machine}
use Rattle.dbwalk.proofs.Reporting.Sinks.{asked, asked_both, moves_some}

-- items that give no row
pub only_found : (items : List Item) → given_cells items ≡ [] → items ≡ map found (counted_findings 0 items)
only_found [] e = refl
only_found (found f ∷ items) e = ap (λ l. found f ∷ l) (only_found items e)
only_found (given c ∷ items) e = cc

-- what a call that answers nothing has done
abbrev pub HasEnded : {P : Type 0} → (P → Item → P → Type 0) → (P → Item → P → Type 0) → List ℕ → Walk → Result (Unit {0}) RunError → List Mark
    × Tree → P → P → Type 0
HasEnded moves stops file done r now w x = HasDone moves stops file done r now w x

-- what a call that failed has done, by what was handed out
pub stopped_as : {P A : Type 0} {moves : P → Item → P → Type 0} {stops : P → Item → P → Type 0} {file : List ℕ} {done : Walk}
    {now : List Mark × Tree} {w x : P} {r : Result A RunError} {e : RunError}
    → r ≡ Err e → StopsAt moves stops e w done.items x → HasDone moves stops file done r now w x
stopped_as {moves = moves} {stops = stops} {file = file} {done = done} {now = now} {w = w} {x = x} q h =
    subst (λ r. HasDone moves stops file done r now w x) (sym q) (record { at = tt; handed = h })

-- all was done, and the sink is asked at the end
pub asked_done : {P : Type 0} {moves : P → Item → P → Type 0} {stops : P → Item → P → Type 0} {file : List ℕ} {done : Walk}
    {now : List Mark × Tree} {w x : P} {r : Result (Unit {0}) RunError} (shut : Bool)
    → r ≡ asked shut → HasDone {A = Unit {0}} moves stops file done (Ok tt) now w x → HasDone moves stops file done r now w x
asked_done {moves = moves} {stops = stops} {file = file} {done = done} {now = now} {w = w} {x = x} shut e h =
    asked_both (λ r. HasDone moves stops file done r now w x) shut e h (record { at = tt; handed = moves_some moves w x done.items h.handed })

module _ {P : Type 0} (moves : P → Item → P → Type 0) (stops : P → Item → P → Type 0) where
  -- an error in the first of two lists
  pub stop_first : (e : RunError) (w x : P) (L M : List Item) → StopsAt moves stops e w L x → StopsAt moves stops e w (L ++ M) x
  stop_first OutOfMemory w x L M h = stops_first moves stops w x L M h
  stop_first _ w x L M h = some_first moves w x L M h

  -- some items, and then an error
  pub stop_after : (e : RunError) (w m x : P) (L M : List Item) → Moves moves w L m → StopsAt moves stops e m M x → StopsAt moves stops e w (L ++ M) x
  stop_after OutOfMemory w m x L M h k = stops_after moves stops w m x L M h k
  stop_after _ w m x L M h k = some_after moves w m x L M h k

  -- some items, and then those of a call
  pub handed_after : {A : Type 0} (r : Result A RunError) (w m x : P) (L M : List Item) → Moves moves w L m → Handed moves stops r m M x
      → Handed moves stops r w (L ++ M) x
  handed_after (Ok a) w m x L M h k = Moves-append moves w m x L M h k
  handed_after (Err e) w m x L M h k = stop_after e w m x L M h k

-- findings alone, to a sink alone
pub found_fed : {S : Type 0} (takes : S → Finding → S → Type 0) (fs : List Finding) (s t : S) → Moves takes s fs t → Moves (fed takes) s (map found fs) t
found_fed takes [] s t e = e
found_fed takes (f ∷ fs) s t h = (h.0, h.1, found_fed takes fs h.0 t h.2)

module _ {S T : Type 0} (takes : S → Finding → S → Type 0) (keeps : T → SchemaRow → Taken → T → Type 0) (refuses : T → SchemaRow → T → Type 0) where
  -- what a sink alone is handed, beside a taker
  fed_moves : (items : List Item) (s s' : S) (t : T) → Moves (fed takes) s items s' → Moves (watches takes keeps) (s, t) items (s', t)
  fed_moves [] s s' t e = ap (λ m. (m, t)) e
  fed_moves (found f ∷ items) s s' t h = ((h.0, t), (h.1, refl), fed_moves items h.0 s' t h.2)
  fed_moves (given c ∷ items) s s' t h = absurd h.1

  pub found_moves : (fs : List Finding) (s s' : S) (t : T) → Moves takes s fs s' → Moves (watches takes keeps) (s, t) (map found fs) (s', t)
  found_moves fs s s' t h = fed_moves (map found fs) s s' t (found_fed takes fs s s' h)

  fed_some : (items : List Item) (s s' : S) (t : T) → MovesBySome (fed takes) s items s' → MovesBySome (watches takes keeps) (s, t) items (s', t)
  fed_some [] s s' t e = ap (λ m. (m, t)) e
  fed_some (i ∷ items) s s' t (inl e) = inl (ap (λ m. (m, t)) e)
  fed_some (found f ∷ items) s s' t (inr h) = inr ((h.0, t), (h.1, refl), fed_some items h.0 s' t h.2)
  fed_some (given c ∷ items) s s' t (inr h) = absurd h.1

  fed_never : (items : List Item) (s s' : S) → Stops (fed takes) never s items s' → ⊥
  fed_never [] s s' h = h
  fed_never (i ∷ items) s s' (inl h) = h
  fed_never (i ∷ items) s s' (inr h) = fed_never items h.0 s' h.2

  pub fed_done : {A : Type 0} {file : List ℕ} {done : Walk} (r : Result A RunError) {now : List Mark × Tree} {s s' : S} (t : T)
      → HasDone (fed takes) never file done r now s s' → HasDone (watches takes keeps) (fails refuses) file done r now (s, t) (s', t)
  fed_done {A = A} {done = done} r {s = s} {s' = s'} t h = record { at = h.at; handed = by_result r h.handed }
    where
      by_result : (r : Result A RunError) → Handed (fed takes) never r s done.items s'
          → Handed (watches takes keeps) (fails refuses) r (s, t) done.items (s', t)
      by_result (Ok a) h = fed_moves done.items s s' t h
      by_result (Err OutOfMemory) h = absurd (fed_never done.items s s' h)
      by_result (Err _) h = fed_some done.items s s' t h

  -- a row of the schema alone, and none
  pub row_handed : (r : Result (Unit {0}) RunError) (c : SchemaCell) (w x : S × T) → ReportsRow takes keeps refuses (row_at c) r w x
      → Handed (watches takes keeps) (fails refuses) r w (given c ∷ []) x
  row_handed (Ok a) c w x h = (x, h, refl)
  row_handed (Err WriteFailed) c w x h = inl h
  row_handed (Err OutOfMemory) c w x h = inl h
  row_handed (Err _) c w x h = absurd h

-- what findings alone leave of a sink, which is in a state that is handed items
module _ {P S : Type 0} (moves stops : P → Item → P → Type 0) (takes : S → Finding → S → Type 0) (sink : P → S)
    (each : (f : Finding) (w x : P) → moves w (found f) x → takes (sink w) f (sink x)) (none : (f : Finding) (w x : P) → stops w (found f) x → ⊥) where
  moves_found : (fs : List Finding) (w x : P) → Moves moves w (map found fs) x → Moves takes (sink w) fs (sink x)
  moves_found [] w x e = ap sink e
  moves_found (f ∷ fs) w x h = (sink h.0, each f w h.0 h.1, moves_found fs h.0 x h.2)

  some_found : (fs : List Finding) (w x : P) → MovesBySome moves w (map found fs) x → MovesBySome takes (sink w) fs (sink x)
  some_found [] w x e = ap sink e
  some_found (f ∷ fs) w x (inl e) = inl (ap sink e)
  some_found (f ∷ fs) w x (inr h) = inr (sink h.0, each f w h.0 h.1, some_found fs h.0 x h.2)

  -- no memory was asked for
  never_refused : (fs : List Finding) (w x : P) → Stops moves stops w (map found fs) x → ⊥
  never_refused [] w x h = h
  never_refused (f ∷ fs) w x (inl h) = none f w x h
  never_refused (f ∷ fs) w x (inr h) = never_refused fs h.0 x h.2

  pub handed_found : {A : Type 0} (r : Result A RunError) (fs : List Finding) (w x : P) → Handed moves stops r w (map found fs) x
      → Reports takes r (sink w) fs (sink x)
  handed_found (Ok a) fs w x h = moves_found fs w x h
  handed_found (Err OutOfMemory) fs w x h = absurd (never_refused fs w x h)
  handed_found (Err _) fs w x h = some_found fs w x h

-- What calls have done, one after another.

-- the visits do not look at the items
pub bare_visits : (file : List ℕ) (m : Walk) (es : List (Errand Way Event)) → (run_below file m es).visits ≡ (done_below file m es).visits
bare_visits file m es =
    let L = reporting_of (rules_of file) (story_of file) (geometry file).pages m.visits es in
    run_visits (machine file) m L ∙ sym (run_visits (machine file) (bare m) L)

module _ {P : Type 0} (moves : P → Item → P → Type 0) (stops : P → Item → P → Type 0) (file : List ℕ) (m : Walk) (es : List (Errand Way Event)) where
  -- what a walk has handed out already, and then some errands
  pub done_on : {A : Type 0} (r : Result A RunError) (now : List Mark × Tree) (w x y : P) → Moves moves w m.items x
      → HasDone moves stops file (done_below file m es) r now x y → HasDone moves stops file (run_below file m es) r now w y
  done_on {A = A} r now w x y h k = record {
    at = on_ok r k.at;
    handed = subst (λ items. Handed moves stops r w items y) (sym ((has_steps file).items m es))
        (handed_after moves stops r w x y m.items (done_below file m es).items h k.handed);
  }
    where
      on_ok : (r : Result A RunError) → OnOk r (IsAt file (done_below file m es) now.0 now.1) → OnOk r (IsAt file (run_below file m es) now.0 now.1)
      on_ok (Ok a) h = let state = sym ((has_steps file).state m es) in
          (subst (λ V. AreMarksOf file V now.0) (sym (bare_visits file m es)) h.0, h.1 ∙ ap (λ p. p.greatest) state, h.2 ∙ ap (λ p. p.leaf) state)
      on_ok (Err e) h = tt

  -- an error in what it should have handed out already
  pub stops_on : {A : Type 0} (e : RunError) (now : List Mark × Tree) (w x : P) → StopsAt moves stops e w m.items x
      → HasDone {A = A} moves stops file (run_below file m es) (Err e) now w x
  stops_on e now w x h = record {
    at = tt;
    handed = subst (λ items. StopsAt moves stops e w items x) (sym ((has_steps file).items m es))
        (stop_first moves stops e w x m.items (done_below file m es).items h);
  }

module _ {P : Type 0} (moves : P → Item → P → Type 0) (stops : P → Item → P → Type 0) (file : List ℕ) (from : Walk) where
  -- nothing
  pub done_none : {A : Type 0} (a : A) (now : List Mark × Tree) (w : P) → IsAt file from now.0 now.1
      → HasDone moves stops file (done_below file from []) (Ok a) now w w
  done_none a now w at = subst (λ m. HasDone moves stops file m (Ok a) now w w) (sym ((has_steps file).none (bare from))) (record { at = at; handed = refl })

  -- some errands, and then others
  pub done_then : {A B : Type 0} (a : A) (r : Result B RunError) (es fs : List (Errand Way Event)) (mid now : List Mark × Tree) (w x y : P)
      → AreQuiet own_visit es → HasDone moves stops file (done_below file from es) (Ok a) mid w x
      → HasDone moves stops file (done_below file (done_below file from es) fs) r now x y → HasDone moves stops file (done_below file from (es ++ fs)) r now w y
  done_then a r es fs mid now w x y q h k = subst (λ m. HasDone moves stops file m r now w y) (sym ((has_steps file).join (bare from) es fs q))
      (done_on moves stops file (done_below file from es) fs r now w x y h.handed k)

  -- an error in the first of them
  pub done_stops : {A B : Type 0} (e : RunError) (es fs : List (Errand Way Event)) (mid now : List Mark × Tree) (w x : P) → AreQuiet own_visit es
      → HasDone {A = A} moves stops file (done_below file from es) (Err e) mid w x
      → HasDone {A = B} moves stops file (done_below file from (es ++ fs)) (Err e) now w x
  done_stops {B = B} e es fs mid now w x q h = subst (λ m. HasDone {A = B} moves stops file m (Err e) now w x) (sym ((has_steps file).join (bare from) es fs q))
      (stops_on moves stops file (done_below file from es) fs e now w x h.handed)
