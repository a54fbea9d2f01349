-- The walks from the starts, one after another: what a walk over the next tree leaves to be reported.
use Rattle.dbscan.proofs.Common.{◌≡◌, ◌↔◌, ℕ, ◌+◌, ◌-◌, ◌<◌, Bool, false, List, [], ◌∷◌, ◌++◌, drop, length, map, Some, Result, Ok, Err, refl, sym, ap, subst}
use Rattle.dbscan.proofs.Common.{◌∙◌, arith, append_assoc, append-nil, OnOk, slice_get, ◌==◌, Moves, MovesBySome, Errand, Go, schema_start, start_of, encoding}
use Rattle.dbscan.proofs.Common.{first_trunk, Way, Reference, SchemaRow, Event, Survey, Encoding, RunError, Finding, reported_below}
use Rattle.dbscan.proofs.Common.{visited_below, AreMarksOf, Mark, Notice, found, ended, errands_left, root_reference, tree_notices, later_notices}
use Rattle.dbscan.proofs.Common.{start_notices, IsSchemaOf, at_freelist, at_row, at_schema, later_errands, root_of, schema_reference, IsAtStarts, IsTreeWalked}
use Rattle.dbscan.proofs.Common.{IsWalkedOver, IsSchemaWalked, IsBetweenStarts, StopsReporting, AreReported, AreWalked, enumerate_from, Moves-append}
use Rattle.dbscan.proofs.Common.{some_first, some_after, StartsEmpty, IsRootAfter, Notifier, drop_more, get_or_from_slice_get, gives, readable_rows}
use Rattle.dbscan.proofs.Common.{IsFirstTrunk, freelist_reference, Root, Schema, tree_given, tree_reported, reported_none, visited_join, visited_none}
use Rattle.dbscan.proofs.Common.{moves_some, rules_of, geometry, inr}
use Rattle.dbwalk.specs.Done.{IsDone, IsTreeDone}
use Rattle.dbwalk.specs.Entered.{IsNext}
use Rattle.dbwalk.specs.declared.taker.Taken.{Taken}
use Rattle.dbformat.proofs.Theory.{are_rules}
use Rattle.dbsurvey.proofs.Past.{past_join}
use Rattle.dbwalk.proofs.Trees.Bounds.{root_address}
use Rattle.dbscan.specs.Notifiers.{HandsOn}
use Rattle.dbscan.proofs.RunItems.{all_visited, starts_left, survey_below_starts}
use Rattle.dbscan.proofs.Starts.{no_schema_kind, root_next}
use Rattle.dbscan.proofs.Notifiers.{notifier_moves, notifier_some}

-- one start is done: the next ones are left
at_next : (file : List ℕ) (V U : List Reference) (c : Reference) (es : List (Errand Way Event)) (marks marks' : List Mark)
    → IsAtStarts file V U (Go c ∷ es) marks
    → AreMarksOf file (U ++ visited_below file U (Go c ∷ [])) marks' → IsAtStarts file V (U ++ visited_below file U (Go c ∷ [])) es marks'
at_next file V U c es marks marks' h m = record {
  marked = m;
  past = past_join (rules_of file) (geometry file).pages (are_rules file) U (Go c ∷ []) es h.apart ((λ e i. absurd i), tt) (λ u f i j. h.past u f i (inr j));
  apart = h.apart.1;
  visits = sym (visited_join file U (Go c ∷ []) es) ∙ h.visits;
}

-- none is left
at_end : (file : List ℕ) (V : List Reference) (survey : Survey file V) (U : List Reference) (marks : List Mark) → IsAtStarts file V U [] marks
    → AreMarksOf file V marks
at_end file V survey U marks h =
    subst (λ W. AreMarksOf file W marks) (sym (append-nil U) ∙ ap (λ L. U ++ L) (sym (visited_none file U)) ∙ h.visits ∙ all_visited file V survey) h.marked

module _ {S : Type 0} (receives : S → Notice → S → Type 0) where
  -- ---- one tree

  -- the tree of a root, with a taker that starts empty, if the tree is the schema's
  module _ {T : Type 0} (keeps : T → SchemaRow → Taken → T → Type 0) (refuses : T → SchemaRow → T → Type 0) (file : List ℕ) (named : Root)
      (old marks : List Mark) (w m : Notifier S) (first u : T) (schema : (named.kind ≡ Schema) ↔ (named.start ≡ schema_start)) where
    abbrev IsDoneFrom : Result (Unit {0}) RunError → Type 0
    IsDoneFrom r = named.encoding ≡ encoding file → (W : List Reference) (c : Reference) → IsRootAfter file named W c old
        → IsTreeDone (HandsOn receives) keeps refuses file W c r marks (w, first) (m, u)

    abbrev IsWalkedFrom : Result (Unit {0}) RunError → Notifier S → Type 0
    IsWalkedFrom r t = named.encoding ≡ encoding file → (W : List Reference) (c : Reference) → IsRootAfter file named W c old → (held : T → ℕ)
        → (named.kind ≡ Schema → StartsEmpty keeps held first) → IsWalkedOver receives keeps file W c r marks w t first u

    -- what is below its root is marked and was reported, and the taker was given the rows of the schema
    root_done : (r : Result (Unit {0}) RunError) → IsDoneFrom r → named.encoding ≡ encoding file → (W : List Reference) (c : Reference)
        → IsRootAfter file named W c old → (held : T → ℕ) → (named.kind ≡ Schema → StartsEmpty keeps held first)
        → IsDone (HandsOn receives) file W (Go c ∷ []) r marks w m
        × (start_of c.address ≡ schema_start → OnOk r (Moves (gives keeps) first (readable_rows file (W ++ visited_below file W (Go c ∷ []))) u))
    root_done r done code W c after held empty =
        let at = root_address c.address named.start after.candidate.depth after.candidate.start in
        let first_empty : start_of c.address ≡ schema_start → StartsEmpty keeps held first = λ z. empty (schema.1 (sym after.candidate.start ∙ z)) in
        let all = done code W c after in (
          tree_reported (HandsOn receives) keeps refuses file named.start W c at after.early r marks (w, first) (m, u) all held first_empty,
          tree_given (HandsOn receives) keeps refuses file named.start W c at after.early r marks (w, first) (m, u) all held first_empty,
        )

    -- an error stopped the walk
    pub from_stopped : (e : RunError) → IsDoneFrom (Err e) → IsWalkedFrom (Err e) m
    from_stopped e done code W c after held empty =
        let items = reported_below file W (Go c ∷ []) in
        let d = root_done (Err e) done code W c after held empty in record {
          tree = record {
            marked = tt;
            reported = some_first receives w.reporter.now m.reporter.now (map (found w.start.now) items) (ended w.start.now ∷ [])
                (notifier_some receives items w m d.0.reported);
          };
          has_rows = tt;
          given = λ k. tt;
        }

    -- all was reported, and then that the tree ended
    all_reported : (W : List Reference) (c : Reference) (t : Notifier S) → Moves (HandsOn receives) w (reported_below file W (Go c ∷ [])) m
        → receives m.reporter.now (ended m.start.now) t.reporter.now → Moves receives w.reporter.now (tree_notices w.start.now file W c) t.reporter.now
    all_reported W c t moved ends =
        let items = reported_below file W (Go c ∷ []) in
        let k = notifier_moves receives items w m moved in
        Moves-append receives w.reporter.now m.reporter.now t.reporter.now (map (found w.start.now) items) (ended w.start.now ∷ []) k.0
        (t.reporter.now, subst (λ at. receives m.reporter.now (ended at) t.reporter.now) k.1 ends, refl)

    -- of which all was taken, or not
    pub from_ended : (t : Notifier S) → receives m.reporter.now (ended m.start.now) t.reporter.now → t.has_rows ≡ m.has_rows → (r : Result (Unit {0}) RunError)
        → IsDoneFrom (Ok tt) → IsWalkedFrom r t
    from_ended t ends rows (Ok x) done code W c after held empty =
        let d = root_done (Ok tt) done code W c after held empty in record {
          tree = record { marked = d.0.marked; reported = all_reported W c t d.0.reported ends };
          has_rows = rows ∙ (notifier_moves receives (reported_below file W (Go c ∷ [])) w m d.0.reported).2;
          given = d.1;
        }
    from_ended t ends rows (Err x) done code W c after held empty =
        let all = all_reported W c t (root_done (Ok tt) done code W c after held empty).0.reported ends in record {
          tree = record { marked = tt; reported = moves_some receives w.reporter.now t.reporter.now (tree_notices w.start.now file W c) all };
          has_rows = tt;
          given = λ k. tt;
        }

  module _ (file : List ℕ) (V : List Reference) (survey : Survey file V) (before : S) where
    -- ---- the schema's tree

    -- it is done, and the trees of its rows are left
    pub schema_reported : (marks marks' : List Mark) (rows : List SchemaRow) (any : Bool) (t : S) → AreMarksOf file [] marks
        → IsSchemaWalked receives file (Ok any) marks' rows before t
        → IsBetweenStarts receives file V before (enumerate_from 1 rows) marks' t
    schema_reported marks marks' rows any t fresh d =
        let U = [] ++ visited_below file [] (Go schema_reference ∷ []) in
        let of = d.schema V survey in
        record {
          visits = U;
          at = subst (λ es. IsAtStarts file V U es marks') (sym of.left)
              (at_next file V [] schema_reference (later_errands file V) marks marks' (starts_left file V survey marks fresh) d.tree.marked);
          notices = tree_notices at_schema file [] schema_reference;
          reported = d.tree.reported;
          rest = ap (λ l. tree_notices at_schema file [] schema_reference ++ later_notices file U (enumerate_from 1 l)) of.listed;
        }

    -- ---- the tree of the next row

    module _ (marks marks' : List Mark) (s t : S) where
      next_reported : (k : ℕ) (row : SchemaRow) (left : List (ℕ × SchemaRow)) (h : IsBetweenStarts receives file V before ((k, row) ∷ left) marks s)
          → (r : Result (Unit {0}) RunError) → IsTreeWalked receives (at_row k row) file h.visits (root_reference file k row) r marks' s t
          → StopsReporting receives file V before left r marks' t
      next_reported k row left h (Ok u) d =
          let c = root_reference file k row in
          let its = tree_notices (at_row k row) file h.visits c in
          record {
            visits = h.visits ++ visited_below file h.visits (Go c ∷ []);
            at = at_next file V h.visits c (errands_left file left) marks marks' h.at d.marked;
            notices = h.notices ++ its;
            reported = Moves-append receives before s t h.notices its h.reported d.reported;
            rest = append_assoc h.notices its (later_notices file (h.visits ++ visited_below file h.visits (Go c ∷ [])) left) ∙ h.rest;
          }
      next_reported k row left h (Err e) d =
          let c = root_reference file k row in
          let its = tree_notices (at_row k row) file h.visits c in
          let others = later_notices file (h.visits ++ visited_below file h.visits (Go c ∷ [])) left in
          subst (λ L. MovesBySome receives before L t) (append_assoc h.notices its others ∙ h.rest)
          (some_first receives before t (h.notices ++ its) others (some_after receives before s t h.notices its h.reported d.reported))

    -- by the walk over its tree
    pub next_row : (marks marks' : List Mark) (s : S) {T : Type 0} (keeps : T → SchemaRow → Taken → T → Type 0) (rows : List SchemaRow) (i : ℕ)
        (r : Result (Unit {0}) RunError)
        (code : Encoding) (own : SchemaRow) (named : Root) (w t : Notifier S) (first u : T)
        → i < length rows → IsBetweenStarts receives file V before (enumerate_from (i + 1) (drop i rows)) marks s
        → code ≡ encoding file → slice_get rows (i + 1 - 1) ≡ Some own → named ≡ root_of code (i + 1) own → w.start.now ≡ at_row (i + 1) own
        → w.reporter.now ≡ s
        → (named.encoding ≡ encoding file → (W : List Reference) (c : Reference) → IsRootAfter file named W c marks → (held : T → ℕ)
        → (named.kind ≡ Schema → StartsEmpty keeps held first) → IsWalkedOver receives keeps file W c r marks' w t first u)
        → StopsReporting receives file V before (enumerate_from (i + 1 + 1) (drop (i + 1) rows)) r marks' t.reporter.now
    next_row marks marks' s keeps rows i r code own named w t first u l h coded there is at from walked =
        let c = root_reference file (i + 1) own in
        let n : i + 1 - 1 ≡ i = omega arith in
        let found = get_or_from_slice_get rows i own own (ap (slice_get rows) (sym n) ∙ there) in
        let here : drop i rows ≡ own ∷ drop (i + 1) rows = drop_more rows i own l ∙ ap (λ x. x ∷ drop (i + 1) rows) found in
        let rest = enumerate_from (i + 1 + 1) (drop (i + 1) rows) in
        let left : IsBetweenStarts receives file V before ((i + 1, own) ∷ rest) marks s =
        subst (λ l. IsBetweenStarts receives file V before (enumerate_from (i + 1) l) marks s) here h in
        let root : named ≡ root_of (encoding file) (i + 1) own = is ∙ ap (λ x. root_of x (i + 1) own) coded in
        let next = root_next file V left.visits marks (encoding file) (i + 1) own (errands_left file rest) (survey_below_starts file V survey) left.at in
        let tree = (walked (ap (λ (x : Root). x.encoding) root) left.visits c (subst (λ x. IsRootAfter file x left.visits c marks) (sym root) next) (λ x. 0)
        (λ z. absurd (no_schema_kind own.kind (ap (λ (x : Root). x.kind) (sym root) ∙ z)))).tree in
        next_reported marks marks' s t.reporter.now (i + 1) own rest left r
        (subst (λ x. IsTreeWalked {A = Unit {0}} receives (at_row (i + 1) own) file left.visits c r marks' x t.reporter.now) from
        (subst (λ at. IsTreeWalked {A = Unit {0}} receives at file left.visits c r marks' w.reporter.now t.reporter.now) at tree))

    -- ---- the freelist, which is the last

    pub freelist_reported : (marks marks' : List Mark) (w t : Notifier S) (first : ℕ) (r : Result (Unit {0}) RunError) → w.start.now ≡ at_freelist
        → (first == 0) ≡ false → first ≡ first_trunk file
        → IsBetweenStarts receives file V before [] marks w.reporter.now
        → ((U : List Reference) (d : Reference) → IsFirstTrunk first d → IsNext U d → AreMarksOf file U marks
        → IsDone (HandsOn receives) file U (Go d ∷ []) r marks' w t)
        → AreReported receives file V r marks' before t.reporter.now
    freelist_reported marks marks' w t first r start some e h walked =
        by_result r (walked h.visits d (record { page = refl; role = refl; from = refl; item = refl }) at.past at.marked)
      where
        d : Reference
        d = freelist_reference first

        one : errands_left file [] ≡ Go d ∷ []
        one = rw (← e, some) refl

        at : IsAtStarts file V h.visits (Go d ∷ []) marks
        at = subst (λ es. IsAtStarts file V h.visits es marks) one h.at

        items : List Finding
        items = reported_below file h.visits (Go d ∷ [])

        all : h.notices ++ map (found w.start.now) items ≡ start_notices file V
        all = ap (λ at. h.notices ++ map (found at) items) start ∙ ap (λ es. h.notices ++ map (found at_freelist) (reported_below file h.visits es)) (sym one)
            ∙ h.rest

        by_result : (r : Result (Unit {0}) RunError) → IsDone (HandsOn receives) file h.visits (Go d ∷ []) r marks' w t
            → AreReported receives file V r marks' before t.reporter.now
        by_result (Ok u) k = record {
          marked = at_end file V survey _ marks' (at_next file V h.visits d [] marks marks' at k.marked);
          reported = subst (λ L. Moves receives before L t.reporter.now) all
              (Moves-append receives before w.reporter.now t.reporter.now h.notices (map (found w.start.now) items) h.reported
              (notifier_moves receives items w t k.reported).0);
        }
        by_result (Err x) k = record {
          marked = tt;
          reported = subst (λ L. MovesBySome receives before L t.reporter.now) all
              (some_after receives before w.reporter.now t.reporter.now h.notices (map (found w.start.now) items) h.reported
              (notifier_some receives items w t k.reported));
        }

    -- there is none
    pub no_freelist_reported : (marks : List Mark) (s : S) → first_trunk file ≡ 0 → IsBetweenStarts receives file V before [] marks s
        → AreReported {A = Unit {0}} receives file V (Ok tt) marks before s
    no_freelist_reported marks s e h = record {
      marked = at_end file V survey h.visits marks (subst (λ es. IsAtStarts file V h.visits es marks) none h.at);
      reported = subst (λ L. Moves receives before L s) all h.reported;
    }
      where
        none : errands_left file [] ≡ []
        none = rw e refl

        all : h.notices ≡ start_notices file V
        all = sym (append-nil h.notices) ∙ ap (λ L. h.notices ++ map (found at_freelist) L) (sym (reported_none file h.visits))
            ∙ ap (λ es. h.notices ++ map (found at_freelist) (reported_below file h.visits es)) (sym none) ∙ h.rest

  -- ---- all starts, and what is known of the schema

  module _ (file : List ℕ) (V : List Reference) (marks : List Mark) (rows : List SchemaRow) (s t : S) where
    -- an error stopped the walk over the schema's tree, or those after it
    pub schema_stopped : (e : RunError) → IsTreeWalked {A = Bool} receives at_schema file [] schema_reference (Err e) marks s t
        → AreWalked receives file V (Err e) marks rows s t
    schema_stopped e d = record {
      all = record { marked = tt; reported = some_first receives s t (tree_notices at_schema file [] schema_reference) _ d.reported };
      has_rows = tt;
      listed = tt;
    }

    pub later_stopped : (e : RunError) → AreReported {A = Unit {0}} receives file V (Err e) marks s t → AreWalked receives file V (Err e) marks rows s t
    later_stopped e d = record { all = record { marked = tt; reported = d.reported }; has_rows = tt; listed = tt }

    -- all was walked over
    pub all_walked : (any : Bool) → IsSchemaOf file V rows any → AreReported {A = Unit {0}} receives file V (Ok tt) marks s t
        → AreWalked receives file V (Ok any) marks rows s t
    all_walked any of d = record { all = record { marked = d.marked; reported = d.reported }; has_rows = of.has_rows; listed = of.listed }
