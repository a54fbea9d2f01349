-- The survey of a sound file: the visits of its terms.
use Rattle.std.proofs.Common.{arith, ◌≡◌, ℕ, ◌+◌, ◌≤◌, Bool, true, false, cond, not, ◌&&◌, Some, None, Ok, List, [], ◌∷◌, ◌++◌, map, length, take, refl, sym}
use Rattle.std.proofs.Common.{ap, subst, append_assoc, ◌∙◌}
use Rattle.std.specs.Prelude.{flat_map, filter_map, is_some, nat_lt, nat_le, ◌==◌}
use Rattle.std.specs.List.{enumerate_from, cons_option}
use Rattle.std.proofs.lemmas.List.{map-append, take_all}
use Rattle.std.proofs.lemmas.Bool.{and_from}
use Rattle.std.proofs.lemmas.Bool.Decides.{nat_tests}
use Rattle.dbsound.proofs.Common.{IsIn, EachPair, named_at, first_trunk, geometry, is_fixed, depth, last_root_start, freelist_start, SchemaRow, Reference}
use Rattle.dbsound.proofs.Common.{role_of, tree_kind, SchemaCell, rows_at, schema, rooted, rooted_rows, schema_link, root_start, freelist_starts, later_starts}
use Rattle.dbsound.proofs.Common.{Survey, rules_of, most_depth, Use, Sound, Forest, no_tree, and_tree, with_root}
use Rattle.dbsurvey.specs.Traverse.{part_of}
use Rattle.dbsurvey.specs.Whole.{HasEachPageOnce}
use Rattle.dbsurvey.proofs.Order.{EachPair-left, EachPair-right, EachPair-across}
use Rattle.dbsurvey.proofs.Ordering.{IsIn-map}
use Rattle.dbsurvey.proofs.Unfolding.{whole_part}
use Rattle.dbformat.specs.FixedPages.{is_page}
use Rattle.dbformat.specs.Survey.{is_too_deep}
use Rattle.dbformat.specs.Laws.{schema_part}
use Rattle.dbformat.proofs.Accepted.{is_accepted}
use Rattle.dbformat.proofs.Theory.{are_rules}
use Rattle.dbformat.proofs.LookBack.{by_starts}
use Rattle.dbsurvey.proofs.Each.{Each, Each-none, Each-append, Each-left, Each-right}
use Rattle.dbsound.proofs.TermVisits.{tree_visits, forest_visits, freelist_visits}
use Rattle.dbsound.proofs.TermVisits.Uses.{uses_of, tree_uses, forest_uses, freelist_uses, used_pages}
use Rattle.dbsound.proofs.TermVisits.Chains.{May, Whole}
use Rattle.dbsound.proofs.TermVisits.Trees.{tree_whole, freelist_whole, list_start}
use Rattle.dbsound.proofs.TermVisits.Forests.{forest_whole}
use Rattle.dbsound.proofs.TermVisits.Depths.{tree_depth, no_tree_depth}
use Rattle.dbsound.proofs.TermVisits.Starts.{freelist_no_tree}
use Rattle.dbsound.proofs.TermRows.Held.{IsLong}
use Rattle.dbsound.proofs.TermRows.Spelled.{row_of, tree_rows}
use Rattle.dbsurvey.proofs.Once.{page_in_range, page_not_fixed, pages_once}
use Rattle.dbformat.proofs.LongPages.{long_page}
use Rattle.dbsurvey.proofs.WholeParts.{whole_both}
use Rattle.dbsurvey.proofs.Composing.{named_at-append}

-- no tree page is too deep
abbrev pub IsShallow : Reference → Type 0
IsShallow t = is_some (tree_kind (role_of t)) ≡ true → length t.address ≤ most_depth

one_more : (height k : ℕ) → height + 1 ≡ length (k ∷ []) + height
one_more height k = omega arith

forest_shallow : {file : List ℕ} {rows : List SchemaRow} {uses : List Use} (f : Forest file rows uses) (k : ℕ) → Each IsShallow (forest_visits f k)
forest_shallow no_tree k = Each-none IsShallow
forest_shallow {file} (and_tree {height} i h t f) k = Each-append IsShallow (tree_visits t k (k ∷ [])) (forest_visits f (k + 1))
    (λ u j e. let d = (tree_depth t k (k ∷ []) height (one_more height k) u j).within e in omega arith)
    (forest_shallow f (k + 1))

not_too_deep : (t : Reference) → IsShallow t → is_too_deep t ≡ false
not_too_deep t h = by_kind (is_some (tree_kind (role_of t))) h
  where
    less : (n : ℕ) → n ≤ most_depth → nat_lt most_depth n ≡ false
    less n l = grind (arith, nat_tests)

    by_kind : (b : Bool) → (b ≡ true → length t.address ≤ most_depth) → (b && nat_lt most_depth (depth t.address)) ≡ false
    by_kind true h = less (length t.address) (h refl)
    by_kind false h = refl

is_page_from : (n p : ℕ) → 1 ≤ p → p ≤ n → (nat_le 1 p && nat_le p n) ≡ true
is_page_from n p l m = grind (arith, nat_tests)

once_from : (V : List Reference) → EachPair (λ x y. x ≡ y → ⊥) (map (λ t. t.page) V) → HasEachPageOnce V
once_from [] h = tt
once_from (t ∷ V) h = ((λ u i e. h.0 u.page (IsIn-map (λ t. t.page) V u i) e), once_from V h.1)

module _ (file : List ℕ) (s : Sound file) where
  -- below page 1
  abbrev pub first_visits : List Reference
  first_visits = tree_visits s.schema 0 (0 ∷ [])

  abbrev pub root_visits : List Reference
  root_visits = forest_visits s.trees 1

  abbrev pub free_visits : List Reference
  free_visits = freelist_visits s.freelist 0 freelist_start (freelist_start ∷ [])

  -- below the other starts
  abbrev pub later_visits : List Reference
  later_visits = root_visits ++ free_visits

  -- all of them, and their uses
  abbrev pub all_visits : List Reference
  all_visits = first_visits ++ later_visits

  abbrev pub all_uses : List Use
  all_uses = s.schema_uses ++ s.root_uses ++ s.free_uses

  pub uses_are : uses_of all_visits ≡ all_uses
  uses_are = map-append _ first_visits later_visits
      ∙ ap (λ l. l ++ uses_of later_visits) (tree_uses s.schema 0 (0 ∷ []))
      ∙ ap (λ l. s.schema_uses ++ l) (map-append _ root_visits free_visits ∙ ap (λ l. l ++ uses_of free_visits) (forest_uses s.trees 1)
      ∙ ap (λ l. s.root_uses ++ l) (freelist_uses s.freelist 0 freelist_start (freelist_start ∷ [])))
      ∙ sym (append_assoc s.schema_uses s.root_uses s.free_uses)

  pub pages_are : map (λ t. t.page) all_visits ≡ map (λ u. u.page) all_uses
  pages_are = sym (used_pages all_visits) ∙ ap (map (λ u. u.page)) uses_are

  in_pages : (t : Reference) → IsIn t all_visits → IsIn t.page (map (λ u. u.page) all_uses)
  in_pages t i = subst (λ l. IsIn t.page l) pages_are (IsIn-map (λ t. t.page) all_visits t i)

  in_file : (t : Reference) → IsIn t all_visits → (1 ≤ t.page) × (t.page ≤ (geometry file).pages)
  in_file t i = page_in_range (map (λ u. u.page) all_uses) (is_fixed (geometry file)) (geometry file).pages s.once t.page (in_pages t i)

  shallow : Each IsShallow all_visits
  shallow = Each-append IsShallow first_visits later_visits
      (λ t i e. let h = s.schema_height in let d = (tree_depth s.schema 0 (0 ∷ []) s.height (one_more s.height 0) t i).within e in omega arith)
      (Each-append IsShallow root_visits free_visits (forest_shallow s.trees 1)
      (λ t i e. (no_tree_depth file most_depth t (freelist_no_tree s.freelist 0 freelist_start (freelist_start ∷ []) t i)).within e))

  all_may : Each (May file) all_visits
  unfolding rules_of
  all_may t i =
      let r = in_file t i in
      and_from (is_page (geometry file) t.page) (not (is_fixed (geometry file) t.page) && not (is_too_deep t))
      (is_page_from (geometry file).pages t.page r.0 r.1)
      (and_from (not (is_fixed (geometry file) t.page)) (not (is_too_deep t))
      (ap not (page_not_fixed (map (λ u. u.page) all_uses) (is_fixed (geometry file)) (geometry file).pages s.once t.page (in_pages t i)))
      (ap not (not_too_deep t (shallow t i))))

  all_long : Each (IsLong file) all_visits
  all_long t i = let r = in_file t i in long_page file t.page s.is_read r.0 r.1

  page_once : HasEachPageOnce all_visits
  page_once = once_from all_visits (subst (EachPair (λ x y. x ≡ y → ⊥)) (sym pages_are)
      (pages_once (map (λ u. u.page) all_uses) (is_fixed (geometry file)) (geometry file).pages s.once))

  first_whole : Whole file (named_at [] (schema_link ∷ [])) first_visits
  first_whole = tree_whole s.schema 0 (0 ∷ []) (Each-left (May file) first_visits later_visits all_may)

  pub first_is : schema_part file ≡ first_visits
  first_is = whole_part (rules_of file) (geometry file).pages (are_rules file) first_whole []
      (EachPair-left (λ t u. t.page ≡ u.page → ⊥) first_visits later_visits page_once) (λ t i o. absurd o.1)

  rows_first : map row_of (flat_map (rows_at file first_visits) first_visits) ≡ map Ok s.rows
  rows_first = tree_rows s.schema first_visits 0 [] (is_accepted file (length file) s.is_read).range.usable.0 refl (λ t rest n. refl)
      (Each-left (IsLong file) first_visits later_visits all_long) ∙ s.spelled

  pub schema_first : map row_of (schema file first_visits) ≡ map Ok s.rows
  unfolding schema
  schema_first = rows_first

rooted-map : (cs : List SchemaCell) → rooted_rows cs ≡ filter_map rooted (map row_of cs)
rooted-map [] = refl
rooted-map (c ∷ cs) = ap (cons_option (rooted c.row)) (rooted-map cs)

rooted-rows : (rows : List SchemaRow) → filter_map rooted (map Ok rows) ≡ with_root rows
rooted-rows [] = refl
rooted-rows (r ∷ rows) = by_case (r.root == 0) (rooted-rows rows)
  where
    by_case : (b : Bool) → filter_map rooted (map Ok rows) ≡ with_root rows
        → cons_option (cond b None (Some r)) (filter_map rooted (map Ok rows)) ≡ cond (not b) (r ∷ with_root rows) (with_root rows)
    by_case true h = h
    by_case false h = ap (λ l. r ∷ l) h

pub rooted_are : (cs : List SchemaCell) (rows : List SchemaRow) → map row_of cs ≡ map Ok rows → rooted_rows cs ≡ with_root rows
rooted_are cs rows e = rooted-map cs ∙ ap (filter_map rooted) e ∙ rooted-rows rows

module _ (file : List ℕ) (s : Sound file) where
  rooted_first : rooted_rows (schema file (first_visits file s)) ≡ with_root s.rows
  rooted_first = rooted_are (schema file (first_visits file s)) s.rows (schema_first file s)

  later_links : later_starts file (first_visits file s) ≡ map (root_start file) (enumerate_from 1 (with_root s.rows))
      ++ list_start 0 freelist_start (first_trunk file)
  unfolding later_starts
  later_links = ap (λ rows. map (root_start file) (enumerate_from 1 (take last_root_start rows)) ++ freelist_starts file) rooted_first
      ∙ ap (λ rows. map (root_start file) (enumerate_from 1 rows) ++ freelist_starts file) (take_all last_root_start (with_root s.rows) s.few_roots)

  later_may : Each (May file) (later_visits file s)
  later_may = Each-right (May file) (first_visits file s) (later_visits file s) (all_may file s)

  later_whole : Whole file (named_at [] (later_starts file (first_visits file s))) (later_visits file s)
  later_whole = subst (λ ls. Whole file (named_at [] ls) (later_visits file s)) (sym later_links)
      (subst (λ cs. Whole file cs (later_visits file s))
      (sym (named_at-append [] (map (root_start file) (enumerate_from 1 (with_root s.rows))) (list_start 0 freelist_start (first_trunk file))))
      (whole_both (rules_of file) (named_at [] (map (root_start file) (enumerate_from 1 (with_root s.rows))))
      (named_at [] (list_start 0 freelist_start (first_trunk file))) (root_visits file s) (free_visits file s)
      (forest_whole s.trees 1 (Each-left (May file) (root_visits file s) (free_visits file s) later_may))
      (freelist_whole s.freelist 0 freelist_start [] (Each-right (May file) (root_visits file s) (free_visits file s) later_may))))

  later_is : part_of (rules_of file) (geometry file).pages (first_visits file s) (named_at [] (later_starts file (first_visits file s))) ≡ later_visits file s
  later_is = whole_part (rules_of file) (geometry file).pages (are_rules file) later_whole (first_visits file s)
      (EachPair-right (λ t u. t.page ≡ u.page → ⊥) (first_visits file s) (later_visits file s) (page_once file s))
      (λ t i o. EachPair-across (λ t u. t.page ≡ u.page → ⊥) (first_visits file s) (later_visits file s) (page_once file s) o.0 t o.1 i o.2)

  -- the survey is the visits of the terms
  pub survey_is : (V : List Reference) → Survey file V → V ≡ all_visits file s
  survey_is V survey = (by_starts file V survey).0
      ∙ ap (λ W. W ++ part_of (rules_of file) (geometry file).pages W (named_at [] (later_starts file W))) (first_is file s)
      ∙ ap (λ U. first_visits file s ++ U) later_is

  -- all that the starts lead to
  pub all_whole : Whole file (named_at [] (schema_link ∷ later_starts file (first_visits file s))) (all_visits file s)
  all_whole = whole_both (rules_of file) (named_at [] (schema_link ∷ [])) (named_at [] (later_starts file (first_visits file s))) (first_visits file s)
      (later_visits file s) (first_whole file s) later_whole
