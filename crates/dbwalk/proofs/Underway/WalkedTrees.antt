-- The walk over a whole tree: its root, and the end of the loop.
use Rattle.std.proofs.Common.{◌≡◌, ℕ, [], ◌∷◌, length, ap, arith, ◌<◌, ◌≤◌, true, false, inl, inr, List, Option, Some, None, refl, sym, subst, ◌↔◌, ◌-◌, cond}
use Rattle.std.proofs.Common.{◌++◌, map, Result, Ok, Err, ◌∙◌, Bool, ◌==◌, IsSome, OnOk, slice_get}
use Rattle.dbwalk.proofs.Common.{Address, IsIn, IsBefore, start_of, schema_start, errand_key, Go, errands_of, Reference, role_of, tree_kind, TreeKind, IsNext}
use Rattle.dbwalk.proofs.Common.{refused_reported, IsCandidate, left_over, is_followed, geometry, page_bytes, schema, SchemaRow, at_page, at_refused, story_of}
use Rattle.dbwalk.proofs.Common.{rules_of, RunError, WriteFailed, Finding, reported_below, visited_below, Item, found, given_cells, no_rowids, begin, advance}
use Rattle.dbwalk.proofs.Common.{AreMarksOf, Walk, Moves, IsAt, HasDone, IsUnderway, IsEntered, entered, IsWalkingOn, tree_walk, IsTreeDone, watches}
use Rattle.dbwalk.proofs.Common.{fails, Handed, StackFrame, Mark, Tree, Taken, nat_tests, append-nil, some_none, ReadFailed, has_steps}
use Rattle.dbtrace.specs.Starts.{IsOfEarlierStart, AreOfEarlierStarts}
use Rattle.dbwalk.proofs.Underway.Visits.{refused_moves}
use Rattle.dbwalk.proofs.Reporting.Sinks.{asked, asked_both, moves_some}
use Rattle.dbtrace.proofs.Folding.{is_fold}
use Rattle.dbmarks.specs.Marking.{marks_of}
use Rattle.dbwalk.proofs.Trees.Bounds.{no_key_from, root_address, root_first, no_key_up_to}
use Rattle.dbwalk.proofs.Trees.Stacking.{from_first}
use Rattle.dbwalk.proofs.Underway.Handing.{handed_found, only_found}
use Rattle.dbwalk.proofs.Underway.Underways.{under_visit, under_end}
use Rattle.dbtrace.specs.declared.Cause.TheVariants as cause

-- The root of a tree, and the end of the loop.

-- a candidate by other names
pub candidate_as : {kind kind' : TreeKind} {k k' : ℕ} {l l' : List ℕ} {p p' from item item' : ℕ} {c : Reference} → kind' ≡ kind → k' ≡ k → l' ≡ l → p' ≡ p
    → item' ≡ item → IsCandidate kind k l p from item c → IsCandidate kind' k' l' p' from item' c
candidate_as a b d e f is = rw (a, b, d, e, f) is

-- the root
module _ (file : List ℕ) (kind : TreeKind) (k : ℕ) (p from item : ℕ) (W : List Reference) (c : Reference) (candidate : IsCandidate kind k [] p from item c)
    (early : AreOfEarlierStarts k W) where
  at_root : c.address ≡ k ∷ []
  at_root = root_address c.address k (candidate.depth) candidate.start

  all_before : (u : Reference) → IsIn u W → IsBefore u.address c.address
  all_before u i = subst (λ a. IsBefore u.address a) (sym at_root) (by_address u.address (early u i))
    where
      by_address : (a : Address) → IsOfEarlierStart k a → IsBefore a (k ∷ [])
      by_address [] e = absurd e
      by_address (x ∷ a) e = inl e

  pub root_next : IsNext W c
  root_next u e i (inl j) = subst (λ e. IsBefore u.address (errand_key e)) (sym j) (all_before u i)
  root_next u e i (inr j) = absurd j

-- no frame is left
pub none_left : {X : Type 0} (xs : List X) (o : Option X) → o ≡ None → (IsSome o ↔ (0 < length xs)) → xs ≡ []
none_left [] o e h = refl
none_left {X} (x ∷ xs) o e h = absurd (none o e (h.1 (omega arith)))
  where
    none : (o : Option X) → o ≡ None → IsSome o → ⊥
    none None e s = let f : false ≡ true = s in cc
    none (Some y) e s = cc

-- The walk over a whole tree: how it starts and ends, and what it has done by the definitions.

module _ {S T : Type 0} (takes : S → Finding → S → Type 0) (keeps : T → SchemaRow → Taken → T → Type 0) (refuses : T → SchemaRow → T → Type 0)
    (file : List ℕ) (k : ℕ) (W : List Reference) (c : Reference)
    (at : c.address ≡ k ∷ []) (early : AreOfEarlierStarts k W) where
  -- by the marks, and what was handed out
  pub tree_handed : (r : Result (Unit {0}) RunError) (marks : List Mark) (before after : S × T) → OnOk r (AreMarksOf file (tree_walk file W c).visits marks)
      → Handed (watches takes keeps) (fails refuses) r before (tree_walk file W c).items after
      → IsTreeDone takes keeps refuses file W c r marks before after
  tree_handed r marks before after marked h = record {
    marked = subst (λ U. OnOk r (AreMarksOf file U marks)) ((is_fold file).visits_are k W c at early) marked;
    handed = h;
    others = λ l.
        let items = (tree_walk file W c).items in
        let none : given_cells items ≡ [] = (is_fold file).rows_are k W c at early
        ∙ ap (λ b. cond b (schema file (W ++ visited_below file W (Go c ∷ []))) []) (other (start_of c.address) l (ap start_of at)) in
        handed_found (watches takes keeps) (fails refuses) takes (λ w. w.0) (λ f w x h. h.0) (λ f w x h. h) r (reported_below file W (Go c ∷ [])) before after
        (subst (λ L. Handed (watches takes keeps) (fails refuses) r before L after)
        (only_found items none ∙ ap (map found) ((is_fold file).findings_are k W c at early)) h);
  }
    where
      other : (n : ℕ) → 1 ≤ n → n ≡ k → (k == schema_start) ≡ false
      other n l e = grind (arith, nat_tests)

  pub tree_done : (r : Result (Unit {0}) RunError) (marks : List Mark) (tree : Tree) (before after : S × T)
      → HasDone (watches takes keeps) (fails refuses) file (tree_walk file W c) r (marks, tree) before after
      → IsTreeDone takes keeps refuses file W c r marks before after
  tree_done r marks tree before after h = tree_handed r marks before after (marked r h.at) h.handed
    where
      marked : (r : Result (Unit {0}) RunError) → OnOk r (IsAt file (tree_walk file W c) marks tree)
          → OnOk r (AreMarksOf file (tree_walk file W c).visits marks)
      marked (Ok u) h = h.0
      marked (Err e) h = tt

  -- the root is refused, and that was reported; the sink is asked then
  pub tree_refused : {kind : TreeKind} → tree_kind (role_of c) ≡ Some kind
      → {r : Result (Unit {0}) RunError} (shut : Bool) → r ≡ asked shut → (marks : List Mark) (s s' : S) (t : T) → is_followed (rules_of file) W c ≡ false
      → AreMarksOf file W marks
      → Moves takes s (refused_reported file W c (cause.Rows no_rowids)) s' → IsTreeDone takes keeps refuses file W c r marks (s, t) (s', t)
  tree_refused role shut is marks s s' t refused m reported =
      let whole : tree_walk file W c ≡ advance file (begin W) (at_refused c) = (has_steps file).refused (begin W) c [] refused
      ∙ (has_steps file).none (advance file (begin W) (at_refused c)) in
      let moves : Moves (watches takes keeps) (s, t) (tree_walk file W c).items (s', t) =
      subst (λ (w : Walk). Moves (watches takes keeps) (s, t) w.items (s', t)) (sym whole)
      (refused_moves takes keeps refuses file (begin W) c role refl (no_key_up_to file (W ++ (c ∷ [])) c (ap length at)) s s' t reported) in
      asked_both (λ r. IsTreeDone takes keeps refuses file W c r marks (s, t) (s', t)) shut is
      (tree_handed (Ok tt) marks (s, t) (s', t) (subst (λ U. AreMarksOf file U marks) (sym (ap (λ m. m.visits) whole ∙ append-nil W)) m) moves)
      (tree_handed (Err WriteFailed) marks (s, t) (s', t) tt (moves_some (watches takes keeps) (s, t) (s', t) (tree_walk file W c).items moves))

  -- the sink was found shut at first
  pub tree_unasked : (marks : List Mark) (s : S) (t : T) → IsTreeDone takes keeps refuses file W c (Err WriteFailed) marks (s, t) (s, t)
  tree_unasked marks s t = tree_handed (Err WriteFailed) marks (s, t) (s, t) tt (some_none (watches takes keeps) (s, t) (tree_walk file W c).items)

  -- the root could not be read
  pub tree_unread : (marks : List Mark) (s : S) (t : T) → IsTreeDone takes keeps refuses file W c (Err ReadFailed) marks (s, t) (s, t)
  tree_unread marks s t = tree_handed (Err ReadFailed) marks (s, t) (s, t) tt (some_none (watches takes keeps) (s, t) (tree_walk file W c).items)

module _ {P : Type 0} {moves : P → Item → P → Type 0} {stops : P → Item → P → Type 0} {file : List ℕ} (W : List Reference) (c : Reference)
    {w : P} where
  -- the root is an undamaged interior page: the first frame
  pub tree_started : {levels : List (List ℕ)} {marks : List Mark} {tree : Tree} {x : P} {items : List StackFrame} (f : StackFrame) → items ≡ f ∷ [] → f.page
      ≡ c.page → f.next ≡ 0 → f.up_to ≡ None → IsNext W c → tree_kind (role_of c) ≡ Some tree.kind → length c.address ≡ 1
      → {yes : Bool} → yes ≡ true → HasDone moves stops file (entered file (begin W) c (Ok yes)) (Ok yes) (marks, tree) w x
      × IsEntered file (begin W) c (Ok yes) levels → IsWalkingOn moves file W c w (items, levels) (marks, tree) x
  tree_started {levels = levels} {marks = marks} {tree = tree} {x = x} f are page start bound next role one is entry =
      let first = rw is at entry in
      let done = first.0 in
      let inside = first.1 refl in
      let none : Tree = record tree { greatest = None; leaf = None } in
      let all : errands_of (story_of file) c ++ [] ≡ left_over file tree.kind c (f ∷ []) = append-nil (errands_of (story_of file) c)
      ∙ sym (from_first file c tree.kind inside.view role inside.viewed)
      ∙ ap (λ n. left_over file tree.kind c (record f { next = n } ∷ [])) (sym start) in
      subst (λ l. IsWalkingOn moves file W c w (l, levels) (marks, tree) x) (sym are) (record {
        now = advance file (begin W) (at_page c);
        under = subst (λ es. IsUnderway moves file (tree_walk file W c) w (advance file (begin W) (at_page c)) es (marks, tree) x) all
            (under_visit moves file (tree_walk file W c) w (begin W) (marks_of (geometry file) W, none) (marks, tree) w x c []
            (record { rest = refl; at = (refl, refl, refl); past = next; apart = ((λ e i. absurd i), tt); handed = refl }) inside.followed done.at done.handed);
        root = root_first W c one next;
        frames_are = (
          record {
            page = page;
            view = inside.view;
            viewed = inside.viewed;
            interior = inside.interior;
            within = omega arith;
            up_to = bound ∙ sym (no_key_from file c c one);
          },
          tt,
        );
        calls = tt;
        read = (ap (slice_get levels) (let e : 0 ≡ length c.address - 1 = omega arith in e) ∙ inside.bytes ∙ ap (λ q. Some (page_bytes file q)) (sym page), tt);
      })

  -- no frame is left
  pub tree_ended : {levels : List (List ℕ)} {marks : List Mark} {tree : Tree} {frames : List StackFrame} {x : P} → frames ≡ []
      → IsWalkingOn moves file W c w (frames, levels) (marks, tree) x
      → HasDone {A = Unit {0}} moves stops file (tree_walk file W c) (Ok tt) (marks, tree) w x
  tree_ended {marks = marks} {tree = tree} {x = x} empty on = under_end moves stops file (tree_walk file W c) w tt on.now (marks, tree) x
      (subst (λ l. IsUnderway moves file (tree_walk file W c) w on.now (left_over file tree.kind c l) (marks, tree) x) empty on.under)
