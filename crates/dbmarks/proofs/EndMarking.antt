-- The faults at the end, by marks alone.
use Rattle.std.proofs.Common.{◌≡◌, ℕ, zero, suc, ◌+◌, ◌-◌, ◌≤◌, ◌<◌, Bool, true, false, cond, not, inl, List, [], ◌∷◌, ◌++◌, map, set, get_or, length, Option}
use Rattle.std.proofs.Common.{Some, None, refl, sym, ap, subst, ◌∙◌, arith, append_assoc, inr}
use Rattle.std.specs.Prelude.{count_by, sum_by, pos, ◌==◌, fold, max, filter}
use Rattle.std.specs.List.{range_with_len}
use Rattle.std.proofs.lemmas.List.{append-nil}
use Rattle.std.proofs.lemmas.List.FromFn.{get_or-map-range_with_len, length-map-range_with_len}
use Rattle.std.specs.Option.{option_map_or}
use Rattle.std.proofs.lemmas.Bool.{eqb-true, cases_Bool, eq-eqb, ne_eqb, both_ways}
use Rattle.std.proofs.lemmas.Bool.Decides.{nat_tests}
use Rattle.std.proofs.lemmas.List.Sums.{sum_by-set, sum_by-cons}
use Rattle.dbsurvey.specs.Address.{IsIn}
use Rattle.dbsurvey.proofs.Lists.{find-some, filter-from, filter-has}
use Rattle.dbsurvey.proofs.Order.{IsIn-right, EachPair-across}
use Rattle.dbformat.specs.File.{geometry, MapEntry, map_entry}
use Rattle.dbformat.specs.FixedPages.{is_fixed, is_page}
use Rattle.dbformat.specs.Reference.{Role, root, child, first_overflow, later_overflow, trunk, free_leaf, Reference, role_of, from_of, is_on_freelist, entry_of}
use Rattle.dbformat.specs.Reference.{is_root}
use Rattle.dbformat.specs.EndFaults.{visit_of, use_fault, entry_fault, free_pages, greatest_root_reached}
use Rattle.dbformat.specs.Tests.{reported_if}
use Rattle.dbformat.specs.Faults.{fault}
use Rattle.dbformat.specs.Survey.{Survey}
use Rattle.dbformat.proofs.Visited.{allowed, each_once}
use Rattle.dbformat.specs.declared.Geometry.{Geometry}
use Rattle.dbformat.specs.declared.Fault.{Fault}
use Rattle.dbformat.specs.declared.FaultCode.TheVariants.{N01}
use Rattle.dbmarks.specs.declared.marks.Mark.{Mark}
use Rattle.dbmarks.specs.declared.marks.Mark.TheVariants.{Unmarked, Fixed}
use Rattle.dbmarks.specs.Marking.{role_mark, visit_mark, mark_of, marks_of}
use Rattle.dbmarks.specs.EndMarks.{AreVisits, other_entry, mark_fault, is_free_mark, is_root_mark, is_other_mark, is_marked, marked_pages, greatest_root_marked}
use Rattle.dbmarks.proofs.Markings.{marks_of-visit, page_mark-in, page_mark-out, marks_of-length}
use Rattle.dbsurvey.specs.Whole.{HasEachPageOnce}
use Rattle.dbsurvey.proofs.Elements.{IsIn-range}
use Rattle.dbsurvey.proofs.Ordering.{IsIn-map, IsIn-from_map}

-- a visit that is found is one of the list, and of that page
pub found_in : (V : List Reference) (p : ℕ) (r : Reference) → visit_of V p ≡ Some r → IsIn r V × (r.page ≡ p)
found_in V p r h = let k = find-some (λ u. u.page == p) V r h in (k.0, eqb-true r.page p k.1)

abbrev use_by : List ℕ → ℕ → Bool → Option Reference → List Fault
use_by file p b None = reported_if (not b) (fault N01 p 0 (pos 0))
use_by file p b (Some r) = entry_fault p (map_entry file p) r

mark_by_role : (p : ℕ) (e : Option MapEntry) (from : ℕ) (role : Role) → other_entry p e (entry_of role from) ≡ mark_fault p e (role_mark role from)
mark_by_role p e from (root kind) = refl
mark_by_role p e from (child kind) = refl
mark_by_role p e from (first_overflow left) = refl
mark_by_role p e from (later_overflow left) = refl
mark_by_role p e from trunk = refl
mark_by_role p e from free_leaf = refl

entry_is : (p : ℕ) (e : Option MapEntry) (r : Reference) → entry_fault p e r ≡ other_entry p e (entry_of (role_of r) (from_of r))
entry_is p None r = refl
entry_is p (Some e) r = refl

by_visit : (file : List ℕ) (p : ℕ) (b : Bool) (o : Option Reference) → ((r : Reference) → o ≡ Some r → b ≡ false)
    → use_by file p b o ≡ mark_fault p (map_entry file p) (cond b Fixed (option_map_or visit_mark o Unmarked))
by_visit file p true None h = refl
by_visit file p false None h = refl
by_visit file p true (Some r) h = absurd (let k : true ≡ false = h r refl in cc)
by_visit file p false (Some r) h = entry_is p (map_entry file p) r ∙ mark_by_role p (map_entry file p) (from_of r) (role_of r)

-- a page without mark is in no use, and another has the entry of its visit
pub use_fault-by_mark : (file : List ℕ) (V : List Reference) (p : ℕ) → AreVisits (geometry file) V → use_fault file V p
    ≡ mark_fault p (map_entry file p) (mark_of (geometry file) V p)
unfolding use_fault mark_of
use_fault-by_mark file V p h = by_visit file p (is_fixed (geometry file) p) (visit_of V p)
    (λ r e. let k = found_in V p r e in subst (λ q. is_fixed (geometry file) q ≡ false) k.1 (h.allowed r k.0).1)

-- sums over the marks are sums over the visits

zero_marks : (g : Geometry) (f : Mark → ℕ) → f Unmarked ≡ 0 → f Fixed ≡ 0 → (a n : ℕ) → sum_by f (map (mark_of g []) (range_with_len a n)) ≡ 0
unfolding mark_of
zero_marks g f u x a zero = refl
zero_marks g f u x a (suc n) =
    let k : f (mark_of g [] a) ≡ 0 = either (is_fixed g a) in
    let d : sum_by f (map (mark_of g []) (range_with_len a (suc n))) ≡ f (mark_of g [] a) + sum_by f (map (mark_of g []) (range_with_len (a + 1) n)) =
    sum_by-cons f (mark_of g [] a) (map (mark_of g []) (range_with_len (a + 1) n)) in
    let r : sum_by f (map (mark_of g []) (range_with_len (a + 1) n)) ≡ 0 = zero_marks g f u x (a + 1) n in omega arith
  where
    either : (b : Bool) → f (cond b Fixed Unmarked) ≡ 0
    either true = x
    either false = u

fresh_mark : (g : Geometry) (U V : List Reference) (c : Reference) → AreVisits g (U ++ (c ∷ V)) → mark_of g U c.page ≡ Unmarked
unfolding mark_of
fresh_mark g U V c h = by_case (visit_of U c.page) refl ∙ refl
  where
    fixed : is_fixed g c.page ≡ false
    fixed = (h.allowed c (IsIn-right c U (c ∷ V) (inl refl))).1

    by_case : (o : Option Reference) → visit_of U c.page ≡ o → cond (is_fixed g c.page) Fixed (option_map_or visit_mark (visit_of U c.page) Unmarked) ≡ Unmarked
    by_case None e = ap (λ b. cond b Fixed (option_map_or visit_mark (visit_of U c.page) Unmarked)) fixed ∙ ap (λ o. option_map_or visit_mark o Unmarked) e
    by_case (Some r) e = absurd (let k = found_in U c.page r e in EachPair-across (λ t u. t.page ≡ u.page → ⊥) U (c ∷ V) h.once r c k.0 (inl refl) k.1)

visit_sum : (g : Geometry) (f : Mark → ℕ) → f Unmarked ≡ 0 → (U V : List Reference) (c : Reference) → AreVisits g (U ++ (c ∷ V))
    → sum_by f (marks_of g (U ++ (c ∷ []))) ≡ sum_by f (marks_of g U) + f (visit_mark c)
unfolding marks_of
visit_sum g f u U V c h =
    let a = (h.allowed c (IsIn-right c U (c ∷ V) (inl refl))).0 in
    let l : 1 ≤ c.page = grind (arith, nat_tests) in
    let m : c.page ≤ g.pages = grind (arith, nat_tests) in
    let e : 1 + (c.page - 1) ≡ c.page = omega arith in
    let i : c.page - 1 < g.pages = omega arith in
    let n : mark_of g U c.page ≡ Unmarked = fresh_mark g U V c h in
    let at : get_or (map (mark_of g U) (range_with_len 1 g.pages)) (c.page - 1) Unmarked ≡ Unmarked =
    get_or-map-range_with_len (mark_of g U) 1 g.pages (c.page - 1) c.page Unmarked i e ∙ n in
    let z : f (get_or (map (mark_of g U) (range_with_len 1 g.pages)) (c.page - 1) Unmarked) ≡ 0 = ap f at ∙ u in
    let len : length (map (mark_of g U) (range_with_len 1 g.pages)) ≡ g.pages = length-map-range_with_len (mark_of g U) 1 g.pages in
    let s : sum_by f (set (map (mark_of g U) (range_with_len 1 g.pages)) (c.page - 1) (visit_mark c))
    + f (get_or (map (mark_of g U) (range_with_len 1 g.pages)) (c.page - 1) Unmarked)
    ≡ sum_by f (map (mark_of g U) (range_with_len 1 g.pages)) + f (visit_mark c) =
    sum_by-set f (map (mark_of g U) (range_with_len 1 g.pages)) (c.page - 1) (visit_mark c) Unmarked (omega arith) in
    let t : sum_by f (set (map (mark_of g U) (range_with_len 1 g.pages)) (c.page - 1) (visit_mark c)) ≡ sum_by f (marks_of g (U ++ (c ∷ []))) =
    ap (sum_by f) (marks_of-visit g U c l m n) in
    sym t ∙ (let r : sum_by f (set (map (mark_of g U) (range_with_len 1 g.pages)) (c.page - 1) (visit_mark c))
    ≡ sum_by f (map (mark_of g U) (range_with_len 1 g.pages)) + f (visit_mark c) = omega arith in r)

sum_from : (g : Geometry) (f : Mark → ℕ) → f Unmarked ≡ 0 → (U V : List Reference) → AreVisits g (U ++ V)
    → sum_by f (marks_of g (U ++ V)) ≡ sum_by f (marks_of g U) + sum_by (λ r. f (visit_mark r)) V
sum_from g f u U [] h =
    let e : sum_by f (marks_of g (U ++ [])) ≡ sum_by f (marks_of g U) = ap (λ W. sum_by f (marks_of g W)) (append-nil U) in omega arith
sum_from g f u U (c ∷ V) h =
    let e : (U ++ (c ∷ [])) ++ V ≡ U ++ (c ∷ V) = append_assoc U (c ∷ []) V in
    let r : sum_by f (marks_of g ((U ++ (c ∷ [])) ++ V)) ≡ sum_by f (marks_of g (U ++ (c ∷ []))) + sum_by (λ r. f (visit_mark r)) V =
    sum_from g f u (U ++ (c ∷ [])) V (subst (λ W. AreVisits g W) (sym e) h) in
    let s : sum_by f (marks_of g (U ++ (c ∷ []))) ≡ sum_by f (marks_of g U) + f (visit_mark c) = visit_sum g f u U V c h in
    let t : sum_by f (marks_of g ((U ++ (c ∷ [])) ++ V)) ≡ sum_by f (marks_of g (U ++ (c ∷ V))) = ap (λ W. sum_by f (marks_of g W)) e in
    let d : sum_by (λ r. f (visit_mark r)) (c ∷ V) ≡ f (visit_mark c) + sum_by (λ r. f (visit_mark r)) V =
    sum_by-cons (λ r. f (visit_mark r)) c V in omega arith

pub sum_marks : (g : Geometry) (f : Mark → ℕ) (V : List Reference) → f Unmarked ≡ 0 → f Fixed ≡ 0 → AreVisits g V → sum_by f (marks_of g V)
    ≡ sum_by (λ r. f (visit_mark r)) V
unfolding marks_of
sum_marks g f V u x h =
    let r = sum_from g f u [] V h in
    let z : sum_by f (map (mark_of g []) (range_with_len 1 g.pages)) ≡ 0 = zero_marks g f u x 1 g.pages in omega arith

-- as many pages are on the freelist as have such marks
pub free_pages-by_marks : (g : Geometry) (V : List Reference) → AreVisits g V → count_by is_free_mark (marks_of g V) ≡ free_pages V
free_pages-by_marks g V h = sum_marks g (λ m. cond (is_free_mark m) 1 0) V refl refl h ∙ same V
  where
    by_role : (role : Role) (from : ℕ) → ◌≡◌ {A = ℕ} (cond (is_free_mark (role_mark role from)) 1 0) (cond (is_on_freelist role) 1 0)
    by_role (root kind) from = refl
    by_role (child kind) from = refl
    by_role (first_overflow left) from = refl
    by_role (later_overflow left) from = refl
    by_role trunk from = refl
    by_role free_leaf from = refl

    same : (W : List Reference) → sum_by (λ r. cond (is_free_mark (visit_mark r)) 1 0) W ≡ free_pages W
    same [] = refl
    same (r ∷ W) =
        let a : ◌≡◌ {A = ℕ} (cond (is_free_mark (visit_mark r)) 1 0) (cond (is_on_freelist (role_of r)) 1 0) = by_role (role_of r) (from_of r) in
        let b : sum_by (λ r. cond (is_free_mark (visit_mark r)) 1 0) W ≡ free_pages W = same W in
        let d : sum_by (λ r. cond (is_free_mark (visit_mark r)) 1 0) (r ∷ W) ≡ cond (is_free_mark (visit_mark r)) 1 0
        + sum_by (λ r. cond (is_free_mark (visit_mark r)) 1 0) W = sum_by-cons (λ r. cond (is_free_mark (visit_mark r)) 1 0) r W in
        let e : free_pages (r ∷ W) ≡ cond (is_on_freelist (role_of r)) 1 0 + free_pages W =
        sum_by-cons (λ r. cond (is_on_freelist (role_of r)) 1 0) r W in omega arith

-- the visits of a survey are such visits
pub survey_visits : (file : List ℕ) (V : List Reference) → Survey file V → AreVisits (geometry file) V
survey_visits file V s = record { allowed = allowed file V s; once = each_once file V s }

-- Pages by their marks: those with a mark of some kind are those that are visited in some roles. So the greatest root is
-- known by marks alone.

-- greatest numbers

start_most : (a : ℕ) (xs : List ℕ) → a ≤ fold max a xs
start_most a [] = omega arith
start_most a (x ∷ xs) = let k : max a x ≤ fold max (max a x) xs = start_most (max a x) xs in omega arith

in_most : (a : ℕ) (xs : List ℕ) (y : ℕ) → IsIn y xs → y ≤ fold max a xs
in_most a [] y h = absurd h
in_most a (x ∷ xs) y (inl e) = let k : max a x ≤ fold max (max a x) xs = start_most (max a x) xs in omega arith
in_most a (x ∷ xs) y (inr i) = in_most (max a x) xs y i

most_least : (a b : ℕ) (xs : List ℕ) → a ≤ b → ((y : ℕ) → IsIn y xs → y ≤ b) → fold max a xs ≤ b
most_least a b [] l h = l
most_least a b (x ∷ xs) l h = let k : x ≤ b = h x (inl refl) in most_least (max a x) b xs (omega arith) (λ y i. h y (inr i))

same_most : (a : ℕ) (xs ys : List ℕ) → ((y : ℕ) → IsIn y xs → IsIn y ys) → ((y : ℕ) → IsIn y ys → IsIn y xs) → fold max a xs ≡ fold max a ys
same_most a xs ys f g =
    let k : fold max a xs ≤ fold max a ys = most_least a (fold max a ys) xs (start_most a ys) (λ y i. in_most a ys y (f y i)) in
    let l : fold max a ys ≤ fold max a xs = most_least a (fold max a xs) ys (start_most a xs) (λ y i. in_most a xs y (g y i)) in omega arith

-- visits by their marks

visit_here : (V : List Reference) (r : Reference) → HasEachPageOnce V → IsIn r V → visit_of V r.page ≡ Some r
visit_here [] r h i = absurd i
visit_here (u ∷ V) r h (inl e) = ap (λ b. cond b (Some u) (visit_of V r.page)) (eq-eqb u.page r.page (ap (λ r. r.page) (sym e))) ∙ ap Some (sym e)
visit_here (u ∷ V) r h (inr i) = ap (λ b. cond b (Some u) (visit_of V r.page)) (ne_eqb u.page r.page (λ e. h.0 r i e)) ∙ visit_here V r h.1 i

-- the mark of a visited page is that of its visit
pub visited-mark : (g : Geometry) (V : List Reference) (r : Reference) → AreVisits g V → IsIn r V → mark_of g V r.page ≡ visit_mark r
unfolding mark_of
visited-mark g V r h i =
    ap (λ b. cond b Fixed (option_map_or visit_mark (visit_of V r.page) Unmarked)) (h.allowed r i).1
    ∙ ap (λ o. option_map_or visit_mark o Unmarked) (visit_here V r h.once i)

-- a test of marks that holds where a page is visited in some roles
pub record IsTestOf (test : Mark → Bool) (roles : Role → Bool) : Type 0 where
  pub unmarked : test Unmarked ≡ false
  pub fixed : test Fixed ≡ false
  pub visited : (role : Role) (from : ℕ) → test (role_mark role from) ≡ roles role

pub root_test : IsTestOf is_root_mark is_root
root_test = record { unmarked = refl; fixed = refl; visited = by_role }
  where
    by_role : (role : Role) (from : ℕ) → is_root_mark (role_mark role from) ≡ is_root role
    by_role (root kind) from = refl
    by_role (child kind) from = refl
    by_role (first_overflow left) from = refl
    by_role (later_overflow left) from = refl
    by_role trunk from = refl
    by_role free_leaf from = refl

pub other_test : IsTestOf is_other_mark (λ role. not (is_root role))
other_test = record { unmarked = refl; fixed = refl; visited = by_role }
  where
    by_role : (role : Role) (from : ℕ) → is_other_mark (role_mark role from) ≡ not (is_root role)
    by_role (root kind) from = refl
    by_role (child kind) from = refl
    by_role (first_overflow left) from = refl
    by_role (later_overflow left) from = refl
    by_role trunk from = refl
    by_role free_leaf from = refl

-- the pages that are visited in some roles
abbrev pub visited_pages : (Role → Bool) → List Reference → List ℕ
visited_pages roles V = map (λ r. r.page) (filter (λ r. roles (role_of r)) V)

module _ (test : Mark → Bool) (roles : Role → Bool) (is_test : IsTestOf test roles) (g : Geometry) (V : List Reference) where
  -- a page whose mark passes the test is visited in one of the roles
  pub visit-of_marked : (p : ℕ) → test (mark_of g V p) ≡ true → (r : Reference) × IsIn r V × (r.page ≡ p) × (roles (role_of r) ≡ true)
  unfolding mark_of
  visit-of_marked p h = by_case (is_fixed g p) (visit_of V p) refl h
    where
      by_case : (b : Bool) (o : Option Reference) → visit_of V p ≡ o → test (cond b Fixed (option_map_or visit_mark o Unmarked)) ≡ true
          → (r : Reference) × IsIn r V × (r.page ≡ p) × (roles (role_of r) ≡ true)
      by_case true o e f = absurd (both_ways (test Fixed) is_test.fixed f)
      by_case false None e f = absurd (both_ways (test Unmarked) is_test.unmarked f)
      by_case false (Some r) e f = let k = found_in V p r e in (r, k.0, k.1, sym (is_test.visited (role_of r) (from_of r)) ∙ f)

  module _ (h : AreVisits g V) where
    pub marked-visit_of : (r : Reference) → IsIn r V → roles (role_of r) ≡ true → test (mark_of g V r.page) ≡ true
    marked-visit_of r i e = ap test (visited-mark g V r h i) ∙ is_test.visited (role_of r) (from_of r) ∙ e

    -- so these are the same pages
    pub visited_is_marked : (p : ℕ) → IsIn p (visited_pages roles V) → IsIn p (marked_pages test (marks_of g V))
    visited_is_marked p i =
        let k = IsIn-from_map (λ r. r.page) (filter (λ r. roles (role_of r)) V) p i in
        let l = filter-from (λ r. roles (role_of r)) V k.0 k.1 in
        let a = (h.allowed k.0 l.0).0 in
        let e : p ≡ k.0.page = k.2 in
        let m : 1 ≤ k.0.page = grind (arith, nat_tests) in
        let n : k.0.page ≤ g.pages = grind (arith, nat_tests) in
        let len : length (marks_of g V) ≡ g.pages = marks_of-length g V in
        filter-has (is_marked test (marks_of g V)) (range_with_len 1 (length (marks_of g V))) p
        (IsIn-range 1 (length (marks_of g V)) p (omega arith) (omega arith))
        (ap (is_marked test (marks_of g V)) e ∙ ap (λ o. option_map_or test o false) (page_mark-in g V k.0.page m n) ∙ marked-visit_of k.0 l.0 l.1)

    pub marked_is_visited : (p : ℕ) → IsIn p (marked_pages test (marks_of g V)) → IsIn p (visited_pages roles V)
    marked_is_visited p i =
        let l = filter-from (is_marked test (marks_of g V)) (range_with_len 1 (length (marks_of g V))) p i in
        elim (cases_Bool (is_page g p)) [
          | inl e ↦ (let m : 1 ≤ p = grind (arith, nat_tests) in let n : p ≤ g.pages = grind (arith, nat_tests) in
              let k = visit-of_marked p (sym (ap (λ o. option_map_or test o false) (page_mark-in g V p m n)) ∙ l.1) in
              subst (λ q. IsIn q (visited_pages roles V)) k.2
              (IsIn-map (λ r. r.page) (filter (λ r. roles (role_of r)) V) k.0 (filter-has (λ r. roles (role_of r)) V k.0 k.1 k.3)))
          | inr e ↦ absurd (let k : false ≡ true = sym (ap (λ o. option_map_or test o false) (page_mark-out g V p e)) ∙ l.1 in cc)
        ]

pub greatest_root-by_marks : (g : Geometry) (V : List Reference) → AreVisits g V → greatest_root_reached V ≡ greatest_root_marked (marks_of g V)
greatest_root-by_marks g V h = same_most 1 (visited_pages is_root V) (marked_pages is_root_mark (marks_of g V))
    (visited_is_marked is_root_mark is_root root_test g V h) (marked_is_visited is_root_mark is_root root_test g V h)
