-- The rows of a form with all pages count each page of the file once.
use Rattle.std.proofs.Common.{◌≡◌, ℕ, zero, suc, ◌⊎◌, ◌<◌, ◌≤◌, inl, inr, Bool, true, false, cond, List, [], ◌∷◌, ◌++◌, map, length, Option, Some, None, refl}
use Rattle.std.proofs.Common.{sym, ap, subst, ◌∙◌, arith, length-append, append-nil}
use Rattle.std.specs.Prelude.{◌+◌, ◌*◌, ◌^◌, None, take, filter, flat_map, sum_by, ◌==◌, IsPermutation}
use Rattle.std.specs.List.{enumerate_from}
use Rattle.std.proofs.lemmas.Bool.{cases_Bool, eqb-true, both_ways}
use Rattle.std.proofs.lemmas.Grind.{flat_map-append}
use Rattle.std.proofs.Math.Nat.{min-eq_left, mul-le-mul}
use Rattle.std.proofs.lemmas.List.{length-map}
use Rattle.std.proofs.lemmas.List.FromFn.{length-range_with_len}
use Rattle.std.proofs.lemmas.List.Sorted.{length_permutation}
use Rattle.std.proofs.lemmas.List.Sums.{sum_by-cons}
use Rattle.dbsound.proofs.Common.{IsIn, EachPair, IsBefore, Link, geometry, refusal, start_of, schema_start, last_root_start, freelist_start, trunk, Way}
use Rattle.dbsound.proofs.Common.{Reference, role_of, is_root, is_on_freelist, starts, start, schema, rooted_rows, root_start, freelist_starts, later_starts}
use Rattle.dbsound.proofs.Common.{SchemaRow, first_trunk, page_size, under, Survey, rules_of, visit_of, page_numbers}
use Rattle.dbsurvey.proofs.Order.{IsIn-left, IsIn-right, IsIn-cases, EachPair-append, IsBefore-irreflexive}
use Rattle.dbsurvey.proofs.Ordering.{IsIn-map, IsIn-from_map, IsIn-from_flat_map}
use Rattle.dbformat.specs.Schema.{root_starts}
use Rattle.dbformat.specs.Lines.{pgsize, AddsUpToAllPages}
use Rattle.dbformat.specs.Rows.{StatRow, StatForm, row_in, stat_rows, other_page, other_rows, trees_reached, tree_rows, page_rows, form_rows, counted_pages}
use Rattle.dbformat.specs.Rows.{FormRow, page_row, tree_row, other_row, CountsEachPageOnce, CountsNoPageTwice}
use Rattle.dbsurvey.proofs.Lists.{filter-from, filter-has, find-some, filter_map-from, filter_map-has}
use Rattle.dbsurvey.proofs.Elements.{IsOnce, EachPair-filter, range_once, map_once}
use Rattle.dbsurvey.proofs.Rearranged.{rearranged}
use Rattle.dbformat.proofs.Accepted.{is_accepted}
use Rattle.dbformat.proofs.Roles.{child_leads}
use Rattle.dbsurvey.proofs.Composing.{named_at-step, named_at-from}
use Rattle.dbsound.proofs.RowCounts.RowPages.{of_row, row_of, pages_counted, trees_counted, is_shown, others_counted, rows_apart, unvisited_shown}
use Rattle.dbsound.proofs.RowCounts.RowPages.{visited_shown}
use Rattle.dbformat.proofs.Visited.{each_once, visit_is, number_of, has_address, root_is_start}
use Rattle.dbformat.proofs.Places.{same_start}
use Rattle.dbsurvey.proofs.Groups.{group, group-from, groups-have, groups_once}

-- the column `pgsize` of a row is the size of the pages that it counts, where these are so few
row_size : (size : ℕ) (row : FormRow) → length (counted_pages row) * size < 2 ^ 64 → pgsize size row ≡ length (counted_pages row) * size
row_size size (page_row row) h = omega arith
row_size size (tree_row k rows) h =
    let l : length (map (λ (row : StatRow). row.page) rows) ≡ length rows = length-map rows (λ row. row.page) in
    rw l (min-eq_left (let m : length rows * size < 2 ^ 64 = rw l at h in omega (arith, m)))
row_size size (other_row p what) h = omega arith

-- so of many rows
sizes_add_up : (size : ℕ) (rows : List FormRow) → length (flat_map counted_pages rows) * size < 2 ^ 64
    → sum_by (pgsize size) rows ≡ length (flat_map counted_pages rows) * size
sizes_add_up size [] h = let zero_size : 0 ≡ 0 * size = omega arith in zero_size
sizes_add_up size (row ∷ rows) h =
    let a = length (counted_pages row) in
    let b = length (flat_map counted_pages rows) in
    let l : length (flat_map counted_pages (row ∷ rows)) ≡ a + b = length-append (counted_pages row) (flat_map counted_pages rows) in
    let parts : (a + b) * size ≡ a * size + b * size = grind arith in
    let both : a * size + b * size < 2 ^ 64 = subst (λ n. n < 2 ^ 64) (ap (λ n. n * size) l ∙ parts) h in
    let first = row_size size row (omega (arith, both)) in
    let rest = sizes_add_up size rows (omega (arith, both)) in
    let sums : pgsize size row + sum_by (pgsize size) rows ≡ a * size + b * size = omega (arith, first, rest) in
    sum_by-cons (pgsize size) row rows ∙ sums ∙ sym (ap (λ n. n * size) l ∙ parts)

-- the starts are roots of trees, and a trunk
pub start_role : (file : List ℕ) (V : List Reference) (l : Link Way) → IsIn l (starts file V) → (is_root l.role.role ≡ true)
    ⊎ (is_on_freelist l.role.role ≡ true)
unfolding later_starts
start_role file V l (inl e) = inl (ap (λ (l : Link Way). is_root l.role.role) e)
start_role file V l (inr i) = elim (IsIn-cases l (root_starts file (rooted_rows (schema file (under schema_start V)))) (freelist_starts file) i) [
  | inl j ↦ inl (of_rows (enumerate_from 1 (take last_root_start (rooted_rows (schema file (under schema_start V))))) j)
  | inr j ↦ inr (of_freelist (first_trunk file == 0) j)
]
  where
    of_rows : (rows : List (ℕ × SchemaRow)) → IsIn l (map (root_start file) rows) → is_root l.role.role ≡ true
    of_rows rows j = let m = IsIn-from_map (root_start file) rows l j in ap (λ (l : Link Way). is_root l.role.role) m.2

    of_freelist : (b : Bool) → IsIn l (cond b [] (start freelist_start trunk (first_trunk file) ∷ [])) → is_on_freelist l.role.role ≡ true
    of_freelist true j = absurd j
    of_freelist false (inl e) = ap (λ (l : Link Way). is_on_freelist l.role.role) e
    of_freelist false (inr j) = absurd j

module _ (file : List ℕ) (V : List Reference) (s : Survey file V) where
  -- a visited page that is not on the freelist is in a tree that was reached, where the page that refers to it is
  next_in_tree : (r : Reference) → IsIn r V → is_on_freelist (role_of r) ≡ false
      → ((u : Reference) → IsIn u V → is_on_freelist (role_of u) ≡ false → length u.address < length r.address → IsIn (start_of u.address) (trees_reached V))
      → IsIn (start_of r.address) (trees_reached V)
  next_in_tree r i off h = elim ((s.exact r).0 i).0 [
    | inl j ↦ (let m = named_at-from [] (starts file V) r j in elim (start_role file V m.0 m.1) [
      | inl k ↦ IsIn-map (λ r. start_of r.address) (filter (λ r. is_root (role_of r)) V) r
          (filter-has (λ r. is_root (role_of r)) V r i (ap (λ r. is_root (role_of r)) m.2 ∙ k))
      | inr k ↦ absurd (both_ways (is_on_freelist (role_of r)) off (ap (λ r. is_on_freelist (role_of r)) m.2 ∙ k))
    ])
    | inr u ↦ (
        let m = named_at-from u.0.address ((rules_of file).links u.0.page u.0.role) r u.2 in
        let l = ap (λ (r : Reference). length r.address) m.2 in
        let k = h u.0 u.1 (sym (child_leads file u.0 r u.2).1 ∙ off) (omega (arith, length-append u.0.address (m.0.step ∷ []))) in
        subst (λ k. IsIn k (trees_reached V)) (sym (ap (λ (r : Reference). start_of r.address) m.2
        ∙ same_start u.0.address (has_address file V s u.0 u.1) (m.0.step ∷ []) [] ∙ ap start_of (append-nil u.0.address))) k)
  ]

  in_tree : (n : ℕ) (r : Reference) → length r.address ≤ n → IsIn r V → is_on_freelist (role_of r) ≡ false → IsIn (start_of r.address) (trees_reached V)
  in_tree zero r h i off = next_in_tree r i off (λ u j o l. absurd (omega arith))
  in_tree (suc n) r h i off = next_in_tree r i off (λ u j o l. in_tree n u (omega arith) j o)

  -- each tree that was reached has a start of its own
  trees_once : IsOnce (trees_reached V)
  trees_once = by_start (filter (λ r. is_root (role_of r)) V)
      (EachPair-filter (λ (x y : Reference). IsBefore x.address y.address) (λ r. is_root (role_of r)) V s.ascending)
      (λ t i. let f = filter-from (λ r. is_root (role_of r)) V t i in
      let m = named_at-step [] (starts file V) t (root_is_start file V s t f.0 f.1) in
      m.1 ∙ ap (λ k. k ∷ []) (sym (ap start_of m.1)))
    where
      by_start : (W : List Reference) → EachPair (λ x y. IsBefore x.address y.address) W → ((t : Reference) → IsIn t W → t.address ≡ start_of t.address ∷ [])
          → IsOnce (map (λ (r : Reference). start_of r.address) W)
      by_start [] b h = tt
      by_start (t ∷ W) b h = (
        (λ k i e.
            let m = IsIn-from_map (λ (r : Reference). start_of r.address) W k i in
            let same : m.0.address ≡ t.address = h m.0 (inr m.1) ∙ ap (λ k. k ∷ []) (sym (e ∙ m.2)) ∙ sym (h t (inl refl)) in
            IsBefore-irreflexive t.address (subst (λ a. IsBefore t.address a) same (b.0 m.0 m.1))),
        by_start W b.1 (λ t i. h t (inr i)),
      )

  abbrev rows : List StatRow
  rows = stat_rows file V

  apart : EachPair (λ (x y : StatRow). x.page ≡ y.page → ⊥) rows
  unfolding stat_rows
  apart = rows_apart file V V (each_once file V s)

  row_visit : (row : StatRow) → IsIn row rows → (r : Reference) × IsIn r V × (row.page ≡ r.page) × (is_on_freelist (role_of r) ≡ false)
  unfolding stat_rows
  row_visit row i =
      let m = filter_map-from (λ r. row_in (role_of r) file r) V row i in
      let h = of_row file m.0 (role_of m.0) row m.2 in
      (m.0, m.1, h.0, h.2)

  visit_row : (r : Reference) → IsIn r V → is_on_freelist (role_of r) ≡ false → (row : StatRow) × IsIn row rows × (row.page ≡ r.page)
      × (row.start ≡ start_of r.address)
  unfolding stat_rows
  visit_row r i off =
      let m = row_of file r (role_of r) off in
      let h = of_row file r (role_of r) m.0 m.1 in
      (m.0, filter_map-has (λ r. row_in (role_of r) file r) V r m.0 i m.1, h.0, h.1)

  -- what the rows of trees count, page by page or tree by tree
  record CountsTrees (ps : List ℕ) : Type 0 where
    pub once : IsOnce ps
    pub from : (p : ℕ) → IsIn p ps → (row : StatRow) × IsIn row rows × (row.page ≡ p)
    pub has : (r : Reference) → IsIn r V → is_on_freelist (role_of r) ≡ false → IsIn r.page ps

  by_page : CountsTrees (map (λ (row : StatRow). row.page) rows)
  by_page = record {
    once = map_once (λ (row : StatRow). row.page) rows apart;
    from = λ p i. let m = IsIn-from_map (λ (row : StatRow). row.page) rows p i in (m.0, m.1, sym m.2);
    has = λ r i off. let m = visit_row r i off in subst (λ p. IsIn p (map (λ (row : StatRow). row.page) rows)) m.2
        (IsIn-map (λ (row : StatRow). row.page) rows m.0 m.1);
  }

  by_tree : CountsTrees (flat_map (group (λ (row : StatRow). row.start) (λ (row : StatRow). row.page) rows) (trees_reached V))
  by_tree = record {
    once = groups_once (λ (row : StatRow). row.start) (λ (row : StatRow). row.page) rows apart (trees_reached V) trees_once;
    from = λ p i.
        let m = IsIn-from_flat_map (group (λ (row : StatRow). row.start) (λ (row : StatRow). row.page) rows) (trees_reached V) p i in
        let h = group-from (λ (row : StatRow). row.start) (λ (row : StatRow). row.page) rows m.0 p m.2 in (h.0, h.1, h.3);
    has = λ r i off.
        let m = visit_row r i off in
        let k = in_tree (length r.address) r (omega arith) i off in
        subst (λ p. IsIn p (flat_map (group (λ (row : StatRow). row.start) (λ (row : StatRow). row.page) rows) (trees_reached V))) m.2
        (groups-have (λ (row : StatRow). row.start) (λ (row : StatRow). row.page) rows (trees_reached V) m.0 m.1
        (subst (λ k. IsIn k (trees_reached V)) (sym m.3) k));
  }

  -- the other pages
  abbrev shown : ℕ → Bool
  shown p = is_shown (other_page file V p)

  -- no other page is one that rows of trees count
  others_apart : (ps : List ℕ) → CountsTrees ps → IsOnce (ps ++ filter shown (page_numbers (geometry file)))
  others_apart ps c = EachPair-append (λ x y. x ≡ y → ⊥) ps (filter shown (page_numbers (geometry file))) c.once
      (EachPair-filter (λ x y. x ≡ y → ⊥) shown (page_numbers (geometry file)) (range_once 1 (geometry file).pages))
      (λ p q i j e.
      let m = c.from p i in
      let v = row_visit m.0 m.1 in
      let same : v.0.page ≡ q = sym v.2 ∙ m.2 ∙ e in
      let off : shown q ≡ false = visited_shown file V q v.0 (ap (visit_of V) (sym same) ∙ visit_is file V s v.0 v.1) ∙ v.3 in
      both_ways (shown q) off (filter-from shown (page_numbers (geometry file)) q j).1)

  together : (ps : List ℕ) → CountsTrees ps → IsPermutation (ps ++ filter shown (page_numbers (geometry file))) (page_numbers (geometry file))
  together ps c = rearranged (ps ++ filter shown (page_numbers (geometry file))) (page_numbers (geometry file))
      (others_apart ps c)
      (range_once 1 (geometry file).pages)
      (λ p i. elim (IsIn-cases p ps (filter shown (page_numbers (geometry file))) i) [
        | inl j ↦ (let m = c.from p j in let v = row_visit m.0 m.1 in subst (λ p. IsIn p (page_numbers (geometry file))) (sym v.2 ∙ m.2)
            (number_of file V s v.0 v.1))
        | inr j ↦ (filter-from shown (page_numbers (geometry file)) p j).0
      ])
      (λ p i. by_visit p i (visit_of V p) refl)
    where
      by_visit : (p : ℕ) → IsIn p (page_numbers (geometry file)) → (o : Option Reference) → visit_of V p ≡ o
          → IsIn p (ps ++ filter shown (page_numbers (geometry file)))
      by_visit p i None e = IsIn-right p ps (filter shown (page_numbers (geometry file)))
          (filter-has shown (page_numbers (geometry file)) p i (unvisited_shown file V p e))
      by_visit p i (Some r) e = elim (cases_Bool (is_on_freelist (role_of r))) [
        | inl on ↦ IsIn-right p ps (filter shown (page_numbers (geometry file)))
            (filter-has shown (page_numbers (geometry file)) p i (visited_shown file V p r e ∙ on))
        | inr off ↦ (
            let h = find-some (λ (r : Reference). r.page == p) V r e in
            IsIn-left p ps (filter shown (page_numbers (geometry file))) (subst (λ p. IsIn p ps) (eqb-true r.page p h.1) (c.has r h.0 off)))
      ]

  -- the rows of trees in either form
  counted_trees : (aggregate : Bool) → CountsTrees (flat_map counted_pages (cond aggregate (tree_rows file V) (page_rows file V)))
  counted_trees true = subst CountsTrees (sym (trees_counted (λ k. filter (λ (row : StatRow). row.start == k) rows) (trees_reached V))) by_tree
  counted_trees false = subst CountsTrees (sym (pages_counted rows)) by_page

  -- the pages that a form counts: those of trees, and the other pages where it shows them
  abbrev shown_pages : Bool → List ℕ → List ℕ
  shown_pages all ps = ps ++ cond all (filter shown (page_numbers (geometry file))) []

  form_pages : (all : Bool) (A : List FormRow) → flat_map counted_pages (A ++ cond all (other_rows file V) []) ≡ shown_pages all (flat_map counted_pages A)
  form_pages true A = flat_map-append counted_pages A (other_rows file V)
      ∙ ap (λ l. flat_map counted_pages A ++ l) (others_counted (other_page file V) (page_numbers (geometry file)))
  form_pages false A = ap (flat_map counted_pages) (append-nil A) ∙ sym (append-nil (flat_map counted_pages A))

  shown_once : (all : Bool) (ps : List ℕ) → CountsTrees ps → IsOnce (shown_pages all ps)
  shown_once true ps c = others_apart ps c
  shown_once false ps c = subst IsOnce (sym (append-nil ps)) c.once

  abbrev tree_rows_of : StatForm → List FormRow
  tree_rows_of form = cond form.aggregate (tree_rows file V) (page_rows file V)

  pub counts_no_page_twice : (form : StatForm) → CountsNoPageTwice form file V
  unfolding form_rows
  counts_no_page_twice form = subst IsOnce (sym (form_pages form.all (tree_rows_of form)))
      (shown_once form.all (flat_map counted_pages (tree_rows_of form)) (counted_trees form.aggregate))

  pub counts_each_page : (form : StatForm) → form.all ≡ true → CountsEachPageOnce form file V
  unfolding form_rows
  counts_each_page form all = subst (λ ps. IsPermutation ps (page_numbers (geometry file)))
      (sym (form_pages form.all (tree_rows_of form) ∙ ap (λ b. shown_pages b (flat_map counted_pages (tree_rows_of form))) all))
      (together (flat_map counted_pages (tree_rows_of form)) (counted_trees form.aggregate))

  pub adds_up : (form : StatForm) → form.all ≡ true → refusal file ≡ None → AddsUpToAllPages form file V
  adds_up form all read =
      let range = (is_accepted file (length file) read).range in
      let rows = form_rows form file V in
      let pages : length (flat_map counted_pages rows) ≡ (geometry file).pages =
      sym (length_permutation (flat_map counted_pages rows) (page_numbers (geometry file)) (counts_each_page form all))
      ∙ length-range_with_len 1 (geometry file).pages in
      let fits = mul-le-mul range.pages.1 range.page_size.1 in
      sizes_add_up (page_size file) rows (rw pages (omega (arith, fits))) ∙ ap (λ n. n * page_size file) pages
