-- What is reported of a page, as the program reports it.
use Rattle.std.proofs.Common.{◌≡◌, ℕ, Bool, true, false, List, [], ◌∷◌, ◌++◌, map, Option, Some, None, refl, ap, ◌∙◌, zero, suc, ◌+◌, ◌<◌, ◌&&◌, length}
use Rattle.std.proofs.Common.{Err, sym, subst, arith, inl, inr, max, fold, sum_by, cond, append-nil, Less, Equal, Greater, ◌≤◌, option_to_list}
use Rattle.std.proofs.Common.{option_and_then, flat_map, ◌==◌, IsSomeAnd, IfSome, IsOk}
use Rattle.dbwalk.proofs.Common.{usable_size, page_bytes, start_of, child_path, chain_place, View, undamaged, Role}
use Rattle.dbwalk.proofs.Common.{Reference, role_of, tree_kind, tree_view, bytes_left, tree_page_faults, page_faults, cell_fault}
use Rattle.dbwalk.proofs.Common.{cell_faults, inner_faults, tree_page_row, row_in, TreeKind, chain_cause, seen_bytes, key_up_to, page_cause, visit_cause}
use Rattle.dbwalk.proofs.Common.{reported_row, reported_by, Finding, Progress, cause_by, depth_faults, rowids_by, Cause, RowidBounds, FaultCode, at_page}
use Rattle.dbwalk.proofs.Common.{view_row, damaged_row, inner_cause, view_cause, with_leaf, page_findings, IsReportedTo, SinkState, Cell, cell, cells, count}
use Rattle.dbwalk.proofs.Common.{CellFault, first_cells, payload_of, greatest_of, child, Fault, TreeLeaf, range_with_len, is_none, common_steps}
use Rattle.dbwalk.proofs.Common.{flat_map-append, nat_tests, Moves-append, cases_order}
use Rattle.dbformat.specs.PageFaults.{fragment_fault, freeblock_fault, coverage_fault, empty_fault}
use Rattle.dbtrace.specs.Causes.{page_facts}
use Rattle.dbformat.specs.Runs.{content_run}
use Rattle.dbtrace.proofs.Causing.{inner_codes, inner_same, reported_by-append, tree_same, page_same}
use Rattle.dbtrace.proofs.Depths.{no_depth, reported_same as reported_alike}
use Rattle.dbwalk.proofs.Reporting.Sinks.{moves_then}
use Rattle.dbformat.proofs.Looping.{range-one-more}
use Rattle.std.specs.Ordering.{is_lt, nat_cmp, ord_max}
use Rattle.std.specs.Cmp.{nat_cmp_is}
use Rattle.std.proofs.lemmas.List.Elements.{filter_map-append}
use Rattle.std.proofs.lemmas.List.Sums.{sum_by-append}
use Rattle.dbwalk.specs.declared.state.KeySpan.{KeySpan}
use Rattle.dbtrace.specs.declared.Cause.TheVariants as cause

-- What is reported of a visited page: its row, the faults within it, and a depth that differs from the first leaf's.

-- whether a page of a tree is a child
abbrev pub is_child : Role → Bool
is_child (child kind) = true
is_child _ = false

-- by the progress of a walk the faults of the page have the same causes
pub page_causes : (file : List ℕ) (U : List Reference) (p : Progress) (c : Reference) {kind : TreeKind} → tree_kind (role_of c) ≡ Some kind
    → reported_by (cause_by file U p (at_page c)) (page_faults file [] c ++ depth_faults file p.leaf c)
    ≡ reported_by (with_leaf (visit_cause (rowids_by p (key_up_to file U c)) file c) (rowids_by p (key_up_to file U c)) p.leaf) (page_faults file [] c
    ++ depth_faults file p.leaf c)
page_causes file U p c {kind} role =
    reported_by-append why (page_faults file [] c) (depth_faults file p.leaf c)
    ∙ ap (λ L. L ++ reported_by why (depth_faults file p.leaf c))
    (page_same why other file (ap (λ o. chain_cause file U c o 1 (seen_bytes (usable_size file) (page_bytes file c.page)))
    (no_chain (role_of c) role)) refl c (λ k e. refl))
    ∙ ap (λ L. reported_by other (page_faults file [] c) ++ L) (reported_alike why other _ _ refl)
    ∙ sym (reported_by-append other (page_faults file [] c) (depth_faults file p.leaf c))
  where
    why : FaultCode → Cause
    why = cause_by file U p (at_page c)

    other : FaultCode → Cause
    other = with_leaf (visit_cause (rowids_by p (key_up_to file U c)) file c) (rowids_by p (key_up_to file U c)) p.leaf

    no_chain : (r : Role) → tree_kind r ≡ Some kind → bytes_left r ≡ None
    no_chain r e = grind arith

module _ (file : List ℕ) (c : Reference) (kind : TreeKind) (role : tree_kind (role_of c) ≡ Some kind) where
  faults_are : page_faults file [] c ≡ tree_page_faults kind (is_child (role_of c)) c.page (usable_size file) (page_bytes file c.page)
  unfolding page_faults
  faults_are = let none = no_depth file c in grind (arith, common_steps)

  row_is : (o : Option View) → tree_view file c ≡ o → row_in (role_of c) file c ≡ Some (tree_page_row c o)
  row_is o f = grind arith

  -- the view of the page is that of its bytes
  pub view_is : tree_view file c ≡ undamaged kind c.page (usable_size file) (page_bytes file c.page)
  unfolding tree_view
  view_is = ap (λ o. option_and_then (λ kind. undamaged kind c.page (usable_size file) (page_bytes file c.page)) o) role

  -- its row first, and then its faults: those within it, and that of its depth
  pub page_reported : (rowids : RowidBounds) (leaf : Option TreeLeaf) (o : Option View) → tree_view file c ≡ o
      → page_findings file rowids leaf c ≡ (reported_row (tree_page_row c o)
      ∷ reported_by (page_cause rowids c.page (usable_size file) (page_bytes file c.page) o)
      (tree_page_faults kind (is_child (role_of c)) c.page (usable_size file) (page_bytes file c.page)))
      ++ reported_by (with_leaf (visit_cause rowids file c) rowids leaf) (depth_faults file leaf c)
  page_reported rowids leaf o f =
      let why = with_leaf (visit_cause rowids file c) rowids leaf in
      let fs = tree_page_faults kind (is_child (role_of c)) c.page (usable_size file) (page_bytes file c.page) in
      let last = reported_by why (depth_faults file leaf c) in
      ap (λ r. map reported_row (option_to_list r) ++ reported_by why (page_faults file [] c ++ depth_faults file leaf c)) (row_is o f)
      ∙ ap (λ fs. reported_row (tree_page_row c o) ∷ reported_by why (fs ++ depth_faults file leaf c)) faults_are
      ∙ ap (λ L. reported_row (tree_page_row c o) ∷ L) (reported_by-append why fs (depth_faults file leaf c))
      ∙ ap (λ L. reported_row (tree_page_row c o) ∷ (L ++ last))
      (tree_same why (visit_cause rowids file c) refl kind (is_child (role_of c)) c.page (usable_size file) (page_bytes file c.page))
      ∙ ap (λ o'. reported_row (tree_page_row c o) ∷ (reported_by (page_cause rowids c.page (usable_size file) (page_bytes file c.page) o') fs ++ last)) f

-- the rows, where the address has no chain
pub row_of_view : (c : Reference) (v : View) (start : ℕ) (path : List ℕ) → start_of c.address ≡ start → child_path c.address ≡ path → chain_place c.address
    ≡ None → v.number ≡ c.page → view_row start path v ≡ tree_page_row c (Some v)
row_of_view c v start path a b n p = rw (← a, ← b, n, p) refl

pub row_of_damage : (c : Reference) (page start : ℕ) (path : List ℕ) → start_of c.address ≡ start → child_path c.address ≡ path → chain_place c.address ≡ None
    → c.page ≡ page → damaged_row start path page ≡ tree_page_row c None
row_of_damage c page start path a b n p = rw (← a, ← b, n, ← p) refl

-- What was reported to a sink, call after call.

-- some items, and then others
pub reported_then : {S I : Type 0} {takes : S → I → S → Type 0} {held : S → SinkState} {s m t : S} (L M : List I) → IsReportedTo takes held s L m
    → IsReportedTo takes held m M t → IsReportedTo takes held s (L ++ M) t
reported_then {s = s} {m} {t} L M h k = record { items = Moves-append _ s m t L M h.items k.items; count = moves_then h.count k.count }

-- none
pub reported_nothing : {S I : Type 0} {takes : S → I → S → Type 0} {held : S → SinkState} {s : S} → IsReportedTo takes held s [] s
reported_nothing = record { items = refl; count = inl refl }

-- the same of faults
pub faults_then : (why : FaultCode → Cause) {S : Type 0} {takes : S → Finding → S → Type 0} {held : S → SinkState} {s m t : S} (L M : List Fault)
    → IsReportedTo takes held s (reported_by why L) m → IsReportedTo takes held m (reported_by why M) t → IsReportedTo takes held s (reported_by why (L ++ M)) t
faults_then why {takes = takes} {held = held} {s} {m} {t} L M h k =
    subst (λ l. IsReportedTo takes held s l t) (sym (reported_by-append why L M)) (reported_then (reported_by why L) (reported_by why M) h k)

-- one element more of a range

pub faults_more : (f : ℕ → List Fault) (n : ℕ) → flat_map f (range_with_len 0 (n + 1)) ≡ flat_map f (range_with_len 0 n) ++ f n
faults_more f n = rw (range-one-more n) (simp (flat_map-append, append-nil))

pub none_more : (fs gs : List Fault) → (length (fs ++ gs) == 0) ≡ ((length fs == 0) && (length gs == 0))
none_more fs gs = grind (arith, common_steps, nat_tests)

-- whether a fault was found
pub none_found : (found : Option Fault) (fs : List Fault) → option_to_list found ≡ fs → is_none found ≡ (length fs == 0)
none_found found fs e = grind (arith, nat_tests)

-- What is reported of the faults within a page, where their cause is that of the page.
pub inner_reported : (rowids : RowidBounds) (v : View) (number : ℕ) (is_child : Bool) → number ≡ v.number → (why : Cause) → why
    ≡ cause.Page number (page_facts rowids (content_run v))
    → reported_by (inner_cause why) (inner_faults v is_child) ≡ reported_by (view_cause rowids v) (inner_faults v is_child)
inner_reported rowids v number is_child n why e =
    inner_same (inner_cause why) (view_cause rowids v)
    (ap (λ w. map (inner_cause w) inner_codes) (e ∙ ap (λ q. cause.Page q (page_facts rowids (content_run v))) n)) v is_child

-- What was found of a page whose cells have the faults cs: it is all of them.
pub inner_found : (v : View) (is_child good : Bool) (fragments freeblock coverage empty : Option Fault) (cs : List Fault) → cell_faults v ≡ cs
    → option_to_list fragments ≡ fragment_fault v → option_to_list freeblock ≡ freeblock_fault v → option_to_list coverage ≡ coverage_fault v good
    → option_to_list empty ≡ empty_fault v is_child → good ≡ ((length cs == 0) && is_none freeblock)
    → option_to_list fragments ++ (cs ++ flat_map option_to_list (freeblock ∷ coverage ∷ empty ∷ [])) ≡ inner_faults v is_child
inner_found v is_child good fragments freeblock coverage empty cs e f b c m g =
    by_parts (option_to_list fragments) (option_to_list freeblock) (option_to_list coverage) (option_to_list empty) f b (c ∙ ap (coverage_fault v) all_good) m e
  where
    all_good : good ≡ (length (cell_faults v ++ freeblock_fault v) == 0)
    all_good = g ∙ ap (λ x. (length cs == 0) && x) (none_found freeblock (freeblock_fault v) b) ∙ sym (none_more cs (freeblock_fault v))
        ∙ ap (λ l. length (l ++ freeblock_fault v) == 0) (sym e)

    by_parts : (fs bs os ms : List Fault) → fs ≡ fragment_fault v → bs ≡ freeblock_fault v → os
        ≡ coverage_fault v (length (cell_faults v ++ freeblock_fault v) == 0) → ms ≡ empty_fault v is_child → cell_faults v ≡ cs
        → fs ++ (cs ++ (bs ++ (os ++ (ms ++ [])))) ≡ inner_faults v is_child
    by_parts fs bs os ms f b c m e = grind (arith, common_steps)

-- The payload bytes of the cells of a page, added up cell by cell.

pub cells_all : (v : View) → cells v ≡ first_cells v (count v)
unfolding cells
cells_all v = refl

pub cells_err : (v : View) (n : ℕ) (f : CellFault) → cell v n ≡ Err f → first_cells v (n + 1) ≡ first_cells v n
cells_err v n f e = rw (range-one-more n) (simp (filter_map-append, e, append-nil))

pub local_more : (xs : List (ℕ × Cell)) (n : ℕ) (x : Cell) → payload_of (xs ++ (n, x) ∷ []) ≡ payload_of xs + length x.local
local_more xs n x = sum_by-append (λ (i, c). length c.local) xs ((n, x) ∷ [])
    ∙ ap (λ m. sum_by (λ (i, c). length c.local) xs + m) (let e : sum_by (λ (i, c). length c.local) ((n, x) ∷ []) ≡ length x.local = omega arith in e)

pub greatest_more : (xs : List (ℕ × Cell)) (n : ℕ) (x : Cell) → greatest_of (xs ++ (n, x) ∷ []) ≡ max (greatest_of xs) x.size
greatest_more xs n x = go 0 xs
  where
    go : (m : ℕ) (xs : List (ℕ × Cell)) → fold max m (map (λ (i, c). c.size) (xs ++ (n, x) ∷ [])) ≡ max (fold max m (map (λ (i, c). c.size) xs)) x.size
    go m [] = refl
    go m (y ∷ xs) = go (max m y.1.size) xs

-- the greater of two numbers, as `max` compares them
pub ord_max-max : (a b : ℕ) → ord_max nat_cmp a b ≡ max a b
ord_max-max a b = elim (cases_order a b) [
  | inl e ↦ ap (λ o. cond (is_lt o) a b) (sym (nat_cmp_is b a Equal (sym e))) ∙ (let m : b ≡ max a b = omega arith in m)
  | inr d ↦ (elim d [
    | inl l ↦ ap (λ o. cond (is_lt o) a b) (sym (nat_cmp_is b a Greater l)) ∙ (let m : b ≡ max a b = omega arith in m)
    | inr l ↦ ap (λ o. cond (is_lt o) a b) (sym (nat_cmp_is b a Less l)) ∙ (let m : a ≡ max a b = omega arith in m)
  ])
]

-- A page of which one reading shows that its cells are readable and apart.

-- no cell has a fault
pub no_cell_faults : (v : View) → ((i : ℕ) → i < count v → IsOk (cell v i)) → cell_faults v ≡ []
no_cell_faults v whole = below (count v) (omega arith)
  where
    one : (i : ℕ) → IsOk (cell v i) → cell_fault v i ≡ []
    one i h = grind arith

    below : (n : ℕ) → n ≤ count v → flat_map (cell_fault v) (range_with_len 0 n) ≡ []
    below zero l = refl
    below (suc n) l =
        let e : n + 1 ≡ suc n = omega arith in
        ap (λ m. flat_map (cell_fault v) (range_with_len 0 m)) (sym e) ∙ faults_more (cell_fault v) n
        ∙ ap (λ fs. fs ++ cell_fault v n) (below n (omega arith)) ∙ one n (whole n (omega arith))

-- what is known of a span that is there
pub with_span : (keys : Option KeySpan) (P Q : KeySpan → Type 0) → IsSomeAnd keys P → IfSome keys Q → (span : KeySpan) × P span × Q span
with_span None P Q p q = absurd p
with_span (Some span) P Q p q = (span, p, q)
