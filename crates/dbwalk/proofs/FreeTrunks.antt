-- The leaves of a trunk, one after another.
use Rattle.std.proofs.Common.{◌≡◌, ℕ, zero, suc, ◌+◌, ◌-◌, ◌*◌, ◌<◌, true, false, inl, inr, Bool, List, [], ◌∷◌, ◌++◌, map, Ok, sym, ap, subst, arith, ◌≤◌}
use Rattle.std.proofs.Common.{cond, Some, None, Result, Err, OnOk, refl, ◌∙◌, nat_le, nat_lt, ◌==◌, pos}
use Rattle.dbwalk.proofs.Common.{Errand, Go, errands_of, then_step, page_faults, Moves, free_leaf, Way, Reference}
use Rattle.dbwalk.proofs.Common.{role_of, bytes_left, tree_kind, trunk, link, next_trunk, leaf_count, most_leaves, Event, at_page, at_refused, story_of}
use Rattle.dbwalk.proofs.Common.{Mark, Tree, EntersBeside, Turns, IsNext, Enters, cause_of, refusal_cause, Finding, reported_alone, reported_by}
use Rattle.dbwalk.proofs.Common.{reported_at, leaves_from, IsFirstTrunk, IsOnTrunks, trunk_step, next_step, is_followed, go, leaf_errands, fault}
use Rattle.dbwalk.proofs.Common.{page_bytes, usable_size, rules_of, is_too_deep, L01, RunError, role_mark, AreMarksOf, u32_at}
use Rattle.dbwalk.proofs.Common.{nat_tests, append-nil, Step, Walk, advance, bare, begin, IsUnderway, IsAt, HasDone, IsDone, Handed, done_below, fed, never}
use Rattle.dbwalk.proofs.Common.{reported_below, visited_below, has_steps}
use Rattle.dbtrace.proofs.Asides.{are_aside}
use Rattle.dbwalk.proofs.Reporting.Belows.{quiet_go}
use Rattle.dbwalk.proofs.Underway.Handing.{handed_found}
use Rattle.dbformat.specs.Address.{freelist_start}
use Rattle.dbformat.proofs.Looping.{none_at_free_leaf, by_leaf}
use Rattle.dbwalk.proofs.Reporting.Besides.{refused_beside, turn_ended, turn_entered, turn_on, visited_beside}
use Rattle.dbtrace.specs.declared.Cause.TheVariants.{Itself}
use Rattle.dbwalk.specs.Trunks.{OpensTrunk}
use Rattle.dbwalk.proofs.Reporting.Enterings.{no_chain_refusal}
use Rattle.dbwalk.proofs.Underway.Underways.{under_start}

-- leaf j of a trunk
abbrev pub leaf_of : Reference → List ℕ → ℕ → Reference
leaf_of d page j = record { address = then_step d.address j; page = u32_at (8 + 4 * j) page; role = record { role = free_leaf; from = d.page; item = j } }

pub leaves_more : (d : Reference) (page : List ℕ) (j n : ℕ) → 0 < n → leaves_from d page j n ≡ Go (leaf_of d page j) ∷ leaves_from d page (j + 1) (n - 1)
leaves_more d page j zero h = absurd (omega arith)
leaves_more d page j (suc n) h = let e : n ≡ suc n - 1 = omega arith in ap (λ k. Go (leaf_of d page j) ∷ leaves_from d page (j + 1) k) e

-- nothing is reported of a free leaf
reported_free : (file : List ℕ) (V : List Reference) (c : Reference) → role_of c ≡ free_leaf → reported_at file V (at_page c) ≡ []
unfolding page_faults
reported_free file V c r = rw r refl

module _ {S : Type 0} {takes : S → Finding → S → Type 0} {file : List ℕ} {whole : Walk} {before : S} {now : Walk} {c : Reference}
    {es : List (Errand Way Event)} {marks : List Mark} {tree : Tree} {s : S}
    (under : IsUnderway (fed takes) file whole before now (Go c ∷ es) (marks, tree) s) where
  pub next_of_left : IsNext now.visits c
  next_of_left u f i (inl e) = under.past u f i (inl e)
  next_of_left u f i (inr n) = absurd n

  -- a leaf is entered: nothing is reported of it, or why it is refused
  pub leaf_entered : {marks' : List Mark} {t : S} (b : Bool) → role_of c ≡ free_leaf
      → Enters takes file now.visits c (refusal_cause file now.visits c) (Ok b) marks' s t
      → (m : Walk) × IsUnderway (fed takes) file whole before m es (marks', tree) t
  leaf_entered {marks'} {t} false r e = (advance file now (at_refused c), refused_beside under (ap tree_kind r) e)
  leaf_entered {marks'} {t} true r e = (
    advance file now (at_page c),
    subst (λ fs. IsUnderway (fed takes) file whole before (advance file now (at_page c)) (fs ++ es) (marks', tree) t) (none_at_free_leaf file c r)
        (visited_beside under (ap tree_kind r) e.0 e.1
        (subst (λ l. Moves takes s l t) (sym (reported_free file (now.visits ++ (c ∷ [])) c r)) e.2)),
  )

-- The trunks of the freelist, one after another.

module _ (file : List ℕ) (d : Reference) (role : role_of d ≡ trunk) where
  abbrev page : List ℕ
  page = page_bytes file d.page

  -- what is reported of a trunk, by whether its leaves are too many
  reported_by_count : (V : List Reference) (b : Bool) → nat_lt (most_leaves (usable_size file)) (leaf_count page) ≡ b
      → reported_at file V (at_page d) ≡ reported_by (cause_of file V (at_page d)) (cond b (fault L01 d.page 0 (pos (leaf_count page)) ∷ []) [])
  unfolding page_faults
  reported_by_count V b e = rw (role, e) refl

  -- what it leads to, by whether they fit
  abbrev leads_to : Bool → List (Errand Way Event)
  leads_to b = cond b (leaf_errands d page (leaf_count page) ++ map (go d) (next_trunk d.page page (leaf_count page)))
      (map (go d) (next_trunk d.page page 0))

  module _ {S : Type 0} {takes : S → Finding → S → Type 0} {whole : Walk} {before : S} {now : Walk} {old marks : List Mark} {tree : Tree} {s : S}
      (followed : is_followed (rules_of file) now.visits d ≡ true) (marked : AreMarksOf file (now.visits ++ d ∷ []) marks)
      (under : IsUnderway (fed takes) file whole before now (Go d ∷ []) (old, tree) s) where
    abbrev Left : List (Errand Way Event) → S → Type 0
    Left es t = IsUnderway (fed takes) file whole before (advance file now (at_page d)) es (marks, tree) t

    opened : (t : S) → Moves takes s (reported_at file (now.visits ++ d ∷ []) (at_page d)) t → (b : Bool)
        → nat_le (leaf_count page) (most_leaves (usable_size file)) ≡ b → Left (leads_to b) t
    opened t m b e = subst (λ es. Left es t) (append-nil (errands_of (story_of file) d) ∙ by_leaf file d role ∙ ap leads_to e)
        (visited_beside under (ap tree_kind role) followed marked m)

    -- a trunk whose leaves fit: they are left, and the next trunk
    pub opened_fitting : leaf_count page ≤ most_leaves (usable_size file) → Left (leads_to true) s
    opened_fitting l =
        let few : nat_lt (most_leaves (usable_size file)) (leaf_count page) ≡ false = grind (arith, nat_tests) in
        opened s (subst (λ L. Moves takes s L s) (sym (reported_by_count (now.visits ++ d ∷ []) false few)) refl) true (grind (arith, nat_tests))

    -- a trunk with too many leaves, which was reported: the next trunk is left
    pub opened_crowded : {t : S} → most_leaves (usable_size file) < leaf_count page
        → Moves takes s (reported_alone (fault L01 d.page 0 (pos (leaf_count page))) ∷ []) t → Left (leads_to false) t
    opened_crowded {t} l m =
        let many : nat_lt (most_leaves (usable_size file)) (leaf_count page) ≡ true = grind (arith, nat_tests) in
        opened t (subst (λ L. Moves takes s L t) (sym (reported_by_count (now.visits ++ d ∷ []) true many)) m) false (grind (arith, nat_tests))

-- it is in no tree
pub trunk_shallow : (c : Reference) → role_of c ≡ trunk → is_too_deep c ≡ false
trunk_shallow c h = grind arith

module _ {S : Type 0} {takes : S → Finding → S → Type 0} {file : List ℕ} {whole : Walk} {before : S} {step : Step} {marks : List Mark} {tree : Tree}
    {s : S} (on : IsOnTrunks takes file whole before step (marks, tree) s) where
  -- it is entered, and opened
  module _ {b : Bool} {marks' : List Mark} {m : S} {here : List ℕ} (h : EntersBeside takes file step Itself marks s (Ok b) marks' m here) (is : b ≡ true) where
    pub trunk_read : here ≡ page_bytes file step.page
    trunk_read = (turn_entered on.at h is).1 ∙ ap (page_bytes file) on.at.is.page

    pub trunk_opened : (r : Result ℕ RunError) (state : List Mark × Tree) (t : S) → ((now : Walk) (d : Reference) → d.page ≡ step.page → role_of d ≡ trunk
        → is_followed (rules_of file) now.visits d ≡ true → AreMarksOf file (now.visits ++ d ∷ []) marks'
        → IsUnderway (fed takes) file whole before now (Go d ∷ []) (marks, tree) m → OpensTrunk takes file whole before d r state t)
        → OpensTrunk takes file whole before on.at.d r state t
    trunk_opened r state t opens =
        let e = (turn_entered on.at h is).0 in
        opens on.at.now on.at.d on.at.is.page on.role e.0 e.1
        (subst (λ y. IsUnderway (fed takes) file whole before on.at.now (Go on.at.d ∷ []) (marks, tree) y) e.2 on.at.rest)

-- the next trunk, or none
pub next_turned : {S : Type 0} {takes : S → Finding → S → Type 0} {file : List ℕ} {whole : Walk} {before : S} (d : Reference) (item : ℕ) {now : Walk}
    {state : List Mark × Tree} {s : S}
    → IsUnderway (fed takes) file whole before now (map (go d) (next_trunk d.page (page_bytes file d.page) item)) state s
    → Turns takes file whole before (λ step. IsOnTrunks takes file whole before step state s) Unit
    (Ok (next_step (u32_at 0 (page_bytes file d.page)) d.page item)) state s
next_turned {S} {takes} {file} {whole} {before} d item {now} {state} {s} h =
    by_next (u32_at 0 (page_bytes file d.page)) (u32_at 0 (page_bytes file d.page) == 0) h
  where
    by_next : (n : ℕ) (b : Bool) → IsUnderway (fed takes) file whole before now (map (go d) (cond b [] (link d.page item item trunk n ∷ []))) state s
        → Turns takes file whole before (λ step. IsOnTrunks takes file whole before step state s) Unit
        (Ok (cond b None (Some (trunk_step n d.page item)))) state s
    by_next n true h = turn_ended h (λ e. tt)
    by_next n false h =
        let next : Reference = record { address = then_step d.address item; page = n; role = record { role = trunk; from = d.page; item = item } } in
        turn_on (record {
          at = record {
            now = now;
            d = next;
            is = record { page = refl; mark = refl; from = refl; item = refl; deep = refl };
            aside = refl;
            cause_is = no_chain_refusal file now.visits next refl refl;
            rest = h;
          };
          role = refl;
        })

-- at the first trunk all is left
pub trunks_start : {S : Type 0} (takes : S → Finding → S → Type 0) (file : List ℕ) (from : Walk) (c : Reference) (first : ℕ) (state : List Mark × Tree) (s : S)
    → IsFirstTrunk first c → IsNext from.visits c → IsAt file from state.0 state.1
    → IsOnTrunks takes file (done_below file from (Go c ∷ [])) s (trunk_step first 0 freelist_start) state s
trunks_start takes file from c first state s h next at = record {
  at = record {
    now = bare from;
    d = c;
    is = record { page = h.page; mark = ap (λ r. role_mark r c.role.from) h.role; from = h.from; item = h.item; deep = trunk_shallow c h.role };
    aside = ap tree_kind h.role;
    cause_is = no_chain_refusal file from.visits c (ap tree_kind h.role) (ap bytes_left h.role);
    rest = under_start file from c at next;
  };
  role = h.role;
}

-- the walk from there on, by the visits and findings of the definitions
pub trunks_done : {S : Type 0} {takes : S → Finding → S → Type 0} {file : List ℕ} {W : List Reference} {c : Reference} {first : ℕ}
    {r : Result (Unit {0}) RunError} {marks : List Mark} {tree : Tree} {s t : S} → IsFirstTrunk first c
    → HasDone (fed takes) never file (done_below file (begin W) (Go c ∷ [])) r (marks, tree) s t → IsDone takes file W (Go c ∷ []) r marks s t
trunks_done {takes = takes} {file} {W} {c} {r = r} {marks} {tree} {s} {t} first done = record {
  marked = marked r done.at;
  reported = handed_found (fed takes) never takes (λ s. s) (λ f w x h. h) (λ f w x h. h) r (reported_below file W (Go c ∷ [])) s t
      (subst (λ items. Handed (fed takes) never r s items t) (are_aside file (begin W) c (ap tree_kind first.role)).items done.handed);
}
  where
    marked : (r : Result (Unit {0}) RunError) → OnOk r (IsAt file (done_below file (begin W) (Go c ∷ [])) marks tree)
        → OnOk r (AreMarksOf file (W ++ visited_below file W (Go c ∷ [])) marks)
    marked (Ok a) at = subst (λ V. AreMarksOf file V marks) ((has_steps file).visits (begin W) (Go c ∷ []) (quiet_go c)) at.0
    marked (Err e) at = tt
