-- A walk under way, step by step.
use Rattle.std.proofs.Common.{◌≡◌, ℕ, inr, List, [], ◌∷◌, ◌++◌, None, Ok, Err, sym, ap, subst, ◌∙◌, append_assoc, true, false, inl, refl, option_to_list}
use Rattle.dbwalk.proofs.Common.{is_story, IsIn, IsBefore, IsIn-cases, step_of, IsLeftOf, AreQuiet, IsPast, Moves, Reported, Errand, Go, Due, errand_key}
use Rattle.dbwalk.proofs.Common.{errands_of, is_followed, geometry, Way, Reference, IsNext, Event, at_page, at_refused, OutOfMemory, IsReadOrWrite, own_visit}
use Rattle.dbwalk.proofs.Common.{story_of, rules_of, RunError, Item, items_at, Walk, bare, advance, run_below, AreMarksOf, IsAt, IsUnderway, HasDone}
use Rattle.dbwalk.proofs.Common.{done_below, StopsAt, Mark, Tree, append-nil, Moves-append, IsIn-right, are_rules, has_steps}
use Rattle.dbsurvey.specs.Story.{AreErrandsApart}
use Rattle.dbsurvey.proofs.Order.{EachPair-append, EachPair-left, EachPair-right, IsLeftOf-before, IsLeftOf-longer}
use Rattle.dbsurvey.proofs.Past.{past_visit, past_join, errands_apart}
use Rattle.dbsurvey.proofs.Reportings.{errands_at-step}
use Rattle.dbwalk.proofs.Underway.Handing.{stop_first, stop_after}

-- the errands of a visited candidate are apart, and left of those after it
visit_apart : (file : List ℕ) (c : Reference) (es : List (Errand Way Event)) → AreErrandsApart (Go c ∷ es)
    → AreErrandsApart (errands_of (story_of file) c ++ es)
visit_apart file c es h = EachPair-append (λ e f. IsLeftOf (errand_key e) (errand_key f)) (errands_of (story_of file) c) es
    (errands_apart (rules_of file) (story_of file) (is_story file) c) h.1
    (λ e f i j. let k = errands_at-step c.address ((story_of file).items c) e i in
    subst (λ a. IsLeftOf a (errand_key f)) (sym k.2) (subst (λ b. IsLeftOf (c.address ++ (step_of k.0 ∷ [])) b) (append-nil (errand_key f))
    (IsLeftOf-longer c.address (errand_key f) (step_of k.0 ∷ []) [] (h.0 f j))))

past_visit_all : (file : List ℕ) (U : List Reference) (c : Reference) (es : List (Errand Way Event)) → IsPast U (Go c ∷ es) → AreErrandsApart (Go c ∷ es)
    → IsPast (U ++ (c ∷ [])) (errands_of (story_of file) c ++ es)
past_visit_all file U c es past apart u f i j = elim (IsIn-cases f (errands_of (story_of file) c) es j) [
  | inl k ↦ past_visit (story_of file) U c (λ v g m n. past v g m (first g n)) u f i k
  | inr k ↦ (elim (IsIn-cases u U (c ∷ []) i) [
    | inl m ↦ past u f m (inr k)
    | inr m ↦ (elim m [
      | inl e ↦ subst (λ w. IsBefore w.address (errand_key f)) (sym e) (IsLeftOf-before c.address (errand_key f) (apart.0 f k))
      | inr n ↦ absurd n
    ])
  ])
]
  where
    first : (g : Errand Way Event) → IsIn g (Go c ∷ []) → IsIn g (Go c ∷ es)
    first g (inl e) = inl e
    first g (inr n) = absurd n

-- the items of an event, after the visits and the state so far
abbrev pub items_of : List ℕ → Walk → Event → List Item
items_of file now event = items_at file (advance file now event).visits now.state event

module _ {P : Type 0} (moves : P → Item → P → Type 0) (file : List ℕ) (whole : Walk) (before : P) (now : Walk) (state state' : List Mark × Tree) (w x : P) where
  -- an event that is no visit: of a cell, or of a reference that is refused
  quiet : (e : Errand Way Event) (event : Event) (es : List (Errand Way Event)) → IsUnderway moves file whole before now (e ∷ es) state w → own_visit event
      ≡ None → run_below file now (e ∷ es) ≡ run_below file (advance file now event) es
      → IsAt file (advance file now event) state'.0 state'.1 → Moves moves w (items_of file now event) x
      → IsUnderway moves file whole before (advance file now event) es state' x
  quiet e event es h q step at m =
      let same : (advance file now event).visits ≡ now.visits = ap (λ o. now.visits ++ option_to_list o) q ∙ append-nil now.visits in record {
        rest = sym step ∙ h.rest;
        at = at;
        past = subst (λ U. IsPast U es) (sym same) (λ u f i j. h.past u f i (inr j));
        apart = h.apart.1;
        handed = Moves-append moves before w x now.items (items_of file now event) h.handed m;
      }

  pub under_event : (t : Reported Event) (es : List (Errand Way Event)) → IsUnderway moves file whole before now (Due t ∷ es) state w → own_visit t.event ≡ None
      → IsAt file (advance file now t.event) state'.0 state'.1 → Moves moves w (items_of file now t.event) x
      → IsUnderway moves file whole before (advance file now t.event) es state' x
  under_event t es h q at m = quiet (Due t) t.event es h q ((has_steps file).event now t es q) at m

  pub under_refused : (c : Reference) (es : List (Errand Way Event)) → IsUnderway moves file whole before now (Go c ∷ es) state w
      → is_followed (rules_of file) now.visits c ≡ false
      → IsAt file (advance file now (at_refused c)) state'.0 state'.1 → Moves moves w (items_of file now (at_refused c)) x
      → IsUnderway moves file whole before (advance file now (at_refused c)) es state' x
  under_refused c es h f at m = quiet (Go c) (at_refused c) es h refl ((has_steps file).refused now c es f) at m

  -- a visit: what its page leads to is to be done next
  pub under_visit : (c : Reference) (es : List (Errand Way Event)) → IsUnderway moves file whole before now (Go c ∷ es) state w
      → is_followed (rules_of file) now.visits c ≡ true
      → IsAt file (advance file now (at_page c)) state'.0 state'.1 → Moves moves w (items_of file now (at_page c)) x
      → IsUnderway moves file whole before (advance file now (at_page c)) (errands_of (story_of file) c ++ es) state' x
  under_visit c es h f at m = record {
    rest = sym ((has_steps file).visit now c es f) ∙ h.rest;
    at = at;
    past = past_visit_all file now.visits c es h.past h.apart;
    apart = visit_apart file c es h.apart;
    handed = Moves-append moves before w x now.items (items_of file now (at_page c)) h.handed m;
  }

  -- a call does the first errands
  pub under_call : {A : Type 0} (stops : P → Item → P → Type 0) (a : A) (es fs : List (Errand Way Event))
      → IsUnderway moves file whole before now (es ++ fs) state w → AreQuiet own_visit es
      → HasDone moves stops file (done_below file now es) (Ok a) state' w x → IsUnderway moves file whole before (run_below file now es) fs state' x
  under_call stops a es fs h q done =
      let visits = (has_steps file).visits now es q in
      let same : (run_below file now es).visits ≡ (done_below file now es).visits = visits ∙ sym ((has_steps file).visits (bare now) es q) in
      let progress = (has_steps file).state now es in
      let items = (has_steps file).items now es in record {
        rest = sym ((has_steps file).join now es fs q) ∙ h.rest;
        at = (
          subst (λ U. AreMarksOf file U state'.0) (sym same) done.at.0,
          done.at.1 ∙ ap (λ p. p.greatest) (sym progress),
          done.at.2
              ∙ ap (λ p. p.leaf) (sym progress),
        );
        past = subst (λ U. IsPast U fs) (sym visits) (past_join (rules_of file) (geometry file).pages (are_rules file) now.visits es fs h.apart
            (EachPair-left (λ e f. IsLeftOf (errand_key e) (errand_key f)) es fs h.apart) (λ u f i j. h.past u f i (IsIn-right f es fs j)));
        apart = EachPair-right (λ e f. IsLeftOf (errand_key e) (errand_key f)) es fs h.apart;
        handed = subst (λ l. Moves moves before l x) (sym items) (Moves-append moves before w x now.items (done_below file now es).items h.handed done.handed);
      }

  -- an error, where these items were to be handed out next: those of the first errands
  module _ (stops : P → Item → P → Type 0) (e : RunError) where
    stop : (left : List (Errand Way Event)) → IsUnderway moves file whole before now left state w → (m : Walk) (es : List (Errand Way Event))
        → run_below file now left ≡ run_below file m es
        → (out : List Item) → m.items ≡ now.items ++ out → StopsAt moves stops e w out x → StopsAt moves stops e before whole.items x
    stop left h m es step out items k =
        let Z = (done_below file m es).items in
        let all : whole.items ≡ now.items ++ (out ++ Z) = ap (λ w. w.items) (sym h.rest ∙ step) ∙ (has_steps file).items m es ∙ ap (λ l. l ++ Z) items
        ∙ append_assoc now.items out Z in
        subst (λ l. StopsAt moves stops e before l x) (sym all)
        (stop_after moves stops e before w x now.items (out ++ Z) h.handed (stop_first moves stops e w x out Z k))

    pub stop_call : {A : Type 0} (es fs : List (Errand Way Event)) → IsUnderway moves file whole before now (es ++ fs) state w → AreQuiet own_visit es
        → HasDone {A = A} moves stops file (done_below file now es) (Err e) state' w x → StopsAt moves stops e before whole.items x
    stop_call es fs h q done = stop (es ++ fs) h (run_below file now es) fs ((has_steps file).join now es fs q) (done_below file now es).items
        ((has_steps file).items now es) done.handed

    -- nothing more was handed out
    pub stop_now : (left : List (Errand Way Event)) → IsUnderway moves file whole before now left state w → IsReadOrWrite e → w ≡ x
        → StopsAt moves stops e before whole.items x
    stop_now left h only same = stop left h now left refl [] (sym (append-nil now.items)) (by_error e only)
      where
        by_error : (e : RunError) → IsReadOrWrite e → StopsAt moves stops e w [] x
        by_error OutOfMemory (inl f) = cc
        by_error OutOfMemory (inr f) = cc
        by_error _ f = same

-- at the start all is left
pub under_start : {P : Type 0} {moves : P → Item → P → Type 0} (file : List ℕ) (from : Walk) (c : Reference) {state : List Mark × Tree} {w : P}
    → IsAt file from state.0 state.1 → IsNext from.visits c
    → IsUnderway moves file (done_below file from (Go c ∷ [])) w (bare from) (Go c ∷ []) state w
under_start file from c at next = record { rest = refl; at = at; past = next; apart = ((λ e i. absurd i), tt); handed = refl }

-- nothing is left: the walk is whole
pub under_whole : {P : Type 0} {moves : P → Item → P → Type 0} {file : List ℕ} {whole : Walk} {before : P} {now : Walk} {state : List Mark × Tree} {w : P}
    → IsUnderway moves file whole before now [] state w → now ≡ whole
under_whole {file = file} {now = now} h = sym ((has_steps file).none now) ∙ h.rest

pub under_end : {P A : Type 0} (moves : P → Item → P → Type 0) (stops : P → Item → P → Type 0) (file : List ℕ) (whole : Walk) (before : P) (a : A)
    (now : Walk) (state : List Mark × Tree) (w : P)
    → IsUnderway moves file whole before now [] state w → HasDone moves stops file whole (Ok a) state before w
under_end moves stops file whole before a now state w h =
    let all : now ≡ whole = under_whole h in record {
      at = subst (λ m. IsAt file m state.0 state.1) all h.at;
      handed = subst (λ m. Moves moves before m.items w) all h.handed;
    }
