-- The marks of pages, visit by visit.
use Rattle.std.proofs.Common.{◌≡◌, ◌≢◌, ℕ, zero, suc, ◌+◌, ◌-◌, ◌<◌, ◌≤◌, Bool, true, false, cond, not, ◌||◌, inl, inr, List, [], ◌∷◌, ◌++◌, length, map, set}
use Rattle.std.proofs.Common.{Option, Some, None, refl, sym, ap, ◌∙◌, arith, ◌*◌, ◌/◌, ◌%◌, take, drop, get_or}
use Rattle.std.specs.Prelude.{slice_get, is_some, nat_le, ◌==◌}
use Rattle.std.specs.List.{range_with_len}
use Rattle.std.specs.Option.{option_or, option_map_or}
use Rattle.std.proofs.lemmas.Bool.{cases_Bool, eq-eqb, ne_eqb}
use Rattle.std.proofs.lemmas.Bool.Decides.{nat_tests}
use Rattle.std.proofs.lemmas.List.Folds.{find-append}
use Rattle.std.proofs.lemmas.List.FromFn.{length-map-range_with_len, map-range_with_len_more}
use Rattle.dbsurvey.specs.Address.{IsIn, IsBefore}
use Rattle.dbsurvey.specs.Traverse.{owns, is_followed}
use Rattle.dbformat.specs.File.{geometry}
use Rattle.dbformat.specs.FixedPages.{is_page, is_fixed}
use Rattle.dbformat.specs.Tests.{first_true}
use Rattle.dbformat.specs.Reference.{Role, root, child, first_overflow, later_overflow, trunk, free_leaf, Reference, role_of, from_of}
use Rattle.dbformat.specs.Survey.{rules_of, refused, is_too_deep, is_taken}
use Rattle.dbformat.specs.EndFaults.{visit_of, page_numbers}
use Rattle.dbformat.specs.declared.Geometry.{Geometry}
use Rattle.dbformat.specs.declared.FaultCode.{FaultCode}
use Rattle.dbformat.specs.declared.FaultCode.TheVariants.{R01, R02, R03, T04}
use Rattle.dbformat.proofs.Theory.{refused_by_marks}
use Rattle.dbmarks.specs.declared.marks.Mark.{Mark}
use Rattle.dbmarks.specs.declared.marks.Mark.TheVariants.{Unmarked, Fixed}
use Rattle.dbmarks.specs.Marking.{role_mark, visit_mark, mark_of, marks_of, AreMarksOf, page_mark, mark_of_kind, unpacked, refusal_by}
use Rattle.std.proofs.Math.Seq.{take-suc-set}
use Rattle.std.proofs.lemmas.List.{map-append}

-- lists by numbers

get_made : (f : ℕ → Mark) (a n i : ℕ) → i < n → slice_get (map f (range_with_len a n)) i ≡ Some (f (a + i))
get_made f a zero i l = absurd (omega arith)
get_made f a (suc n) zero l = let e : a ≡ a + 0 = omega arith in ap (λ k. Some (f k)) e
get_made f a (suc n) (suc i) l = let e : a + 1 + i ≡ a + suc i = omega arith in get_made f (a + 1) n i (omega arith) ∙ ap (λ k. Some (f k)) e

get_past : (f : ℕ → Mark) (a n i : ℕ) → n ≤ i → slice_get (map f (range_with_len a n)) i ≡ None
get_past f a zero i l = refl
get_past f a (suc n) zero l = absurd (omega arith)
get_past f a (suc n) (suc i) l = get_past f (a + 1) n i (omega arith)

same_made : (f h : ℕ → Mark) (a n : ℕ) → ((p : ℕ) → a ≤ p → h p ≡ f p) → map f (range_with_len a n) ≡ map h (range_with_len a n)
same_made f h a zero e = refl
same_made f h a (suc n) e =
    let k : h a ≡ f a = e a (omega arith) in
    let r : map f (range_with_len (a + 1) n) ≡ map h (range_with_len (a + 1) n) = same_made f h (a + 1) n (λ p l. e p (omega arith)) in cc

set_made : (f h : ℕ → Mark) (a n i : ℕ) (m : Mark) → i < n → h (a + i) ≡ m → ((p : ℕ) → p ≢ a + i → h p ≡ f p)
    → set (map f (range_with_len a n)) i m ≡ map h (range_with_len a n)
set_made f h a zero i m l e d = absurd (omega arith)
set_made f h a (suc n) zero m l e d =
    let z : a + 0 ≡ a = omega arith in
    let k : h a ≡ m = ap h (sym z) ∙ e in
    let r : map f (range_with_len (a + 1) n) ≡ map h (range_with_len (a + 1) n) = same_made f h (a + 1) n (λ p q. d p (λ x. omega arith)) in cc
set_made f h a (suc n) (suc i) m l e d =
    let z : a + 1 + i ≡ a + suc i = omega arith in
    let k : h a ≡ f a = d a (λ x. omega arith) in
    let r : set (map f (range_with_len (a + 1) n)) i m ≡ map h (range_with_len (a + 1) n) =
    set_made f h (a + 1) n i m (omega arith) (ap h z ∙ e) (λ p q. d p (λ x. q (x ∙ sym z))) in cc

-- the mark of a page

at_page : (marks : List Mark) (p : ℕ) → 1 ≤ p → page_mark marks p ≡ slice_get marks (p - 1)
at_page marks p l = let e : (p == 0) ≡ false = grind (arith, nat_tests) in ap (λ b. cond b None (slice_get marks (p - 1))) e

at_zero : (marks : List Mark) (p : ℕ) → p ≡ 0 → page_mark marks p ≡ None
at_zero marks p l = let e : (p == 0) ≡ true = grind (arith, nat_tests) in ap (λ b. cond b None (slice_get marks (p - 1))) e

pub page_mark-in : (g : Geometry) (W : List Reference) (p : ℕ) → 1 ≤ p → p ≤ g.pages → page_mark (marks_of g W) p ≡ Some (mark_of g W p)
unfolding marks_of
page_mark-in g W p l m =
    let e : 1 + (p - 1) ≡ p = omega arith in
    at_page (map (mark_of g W) (page_numbers g)) p l ∙ get_made (mark_of g W) 1 g.pages (p - 1) (omega arith) ∙ ap (λ k. Some (mark_of g W k)) e

pub page_mark-out : (g : Geometry) (W : List Reference) (p : ℕ) → is_page g p ≡ false → page_mark (marks_of g W) p ≡ None
unfolding marks_of
page_mark-out g W p h = elim (cases_Bool (nat_le 1 p)) [
  | inl e ↦ (let l : 1 ≤ p = grind (arith, nat_tests) in let m : g.pages ≤ p - 1 = grind (arith, nat_tests) in
      at_page (map (mark_of g W) (page_numbers g)) p l ∙ get_past (mark_of g W) 1 g.pages (p - 1) m)
  | inr e ↦ (let z : p ≡ 0 = grind (arith, nat_tests) in at_zero (map (mark_of g W) (page_numbers g)) p z)
]

pub marks_of-length : (g : Geometry) (W : List Reference) → length (marks_of g W) ≡ g.pages
unfolding marks_of
marks_of-length g W = length-map-range_with_len (mark_of g W) 1 g.pages

-- a reference is refused by the mark of its page

role_refusal : (role : Role) (from : ℕ) (deep : Bool) → cond deep (Some T04) (Some R03) ≡ refusal_by (Some (role_mark role from)) deep
role_refusal (root kind) from deep = refl
role_refusal (child kind) from deep = refl
role_refusal (first_overflow left) from deep = refl
role_refusal (later_overflow left) from deep = refl
role_refusal trunk from deep = refl
role_refusal free_leaf from deep = refl

tests_refusal : (here fixed deep : Bool) (visit : Option Reference)
    → first_true ((not here, R01) ∷ (fixed, R02) ∷ (deep, T04) ∷ (is_some visit, R03) ∷ [])
    ≡ refusal_by (cond here (Some (cond fixed Fixed (option_map_or visit_mark visit Unmarked))) None) deep
tests_refusal false fixed deep visit = refl
tests_refusal true true deep visit = refl
tests_refusal true false true None = refl
tests_refusal true false false None = refl
tests_refusal true false true (Some r) = role_refusal (role_of r) (from_of r) true
tests_refusal true false false (Some r) = role_refusal (role_of r) (from_of r) false

pub owned_visit : (W : List Reference) (p : ℕ) → owns W p ≡ is_some (visit_of W p)
owned_visit [] p = refl
owned_visit (u ∷ W) p = by_case (u.page == p) (owned_visit W p)
  where
    by_case : (b : Bool) → owns W p ≡ is_some (visit_of W p) → (b || owns W p) ≡ is_some (cond b (Some u) (visit_of W p))
    by_case true h = refl
    by_case false h = h

page_mark-is : (g : Geometry) (W : List Reference) (p : ℕ) → page_mark (marks_of g W) p
    ≡ cond (is_page g p) (Some (cond (is_fixed g p) Fixed (option_map_or visit_mark (visit_of W p) Unmarked))) None
unfolding mark_of
page_mark-is g W p = elim (cases_Bool (is_page g p)) [
  | inl e ↦ (let l : 1 ≤ p = page_low (nat_le 1 p) (nat_le p g.pages) e in let m : p ≤ g.pages = page_high e in
      page_mark-in g W p l m ∙ sym (ap (λ b. cond b (Some (cond (is_fixed g p) Fixed (option_map_or visit_mark (visit_of W p) Unmarked))) None) e))
  | inr e ↦ page_mark-out g W p e ∙ sym (ap (λ b. cond b (Some (cond (is_fixed g p) Fixed (option_map_or visit_mark (visit_of W p) Unmarked))) None) e)
]
  where
    page_low : (a b : Bool) → is_page g p ≡ true → 1 ≤ p
    page_low a b e = grind (arith, nat_tests)

    page_high : is_page g p ≡ true → p ≤ g.pages
    page_high e = grind (arith, nat_tests)

-- where W comes before it, the mark of its page and its depth say why a reference is refused
pub refused-by_mark : (file : List ℕ) (W : List Reference) (c : Reference) (marks : List Mark) → ((u : Reference) → IsIn u W → IsBefore u.address c.address)
    → AreMarksOf file W marks
    → refused file W c ≡ refusal_by (page_mark marks c.page) (is_too_deep c)
unfolding refused
refused-by_mark file W c marks before m =
    let g : Geometry = geometry file in
    let taken : is_taken W c.address c.page ≡ is_some (visit_of W c.page) = (refused_by_marks file W c before).0 ∙ owned_visit W c.page in
    ap (λ b. first_true ((not (is_page g c.page), R01) ∷ (is_fixed g c.page, R02) ∷ (is_too_deep c, T04) ∷ (b, R03) ∷ [])) taken
    ∙ tests_refusal (is_page g c.page) (is_fixed g c.page) (is_too_deep c) (visit_of W c.page)
    ∙ ap (λ o. refusal_by o (is_too_deep c)) (sym (page_mark-is g W c.page) ∙ ap (λ l. page_mark l c.page) (sym m))

-- one that no test refuses is followed, and one that some test refuses is not
pub followed-unrefused : (file : List ℕ) (W : List Reference) (c : Reference) → ((u : Reference) → IsIn u W → IsBefore u.address c.address) → refused file W c
    ≡ None → is_followed (rules_of file) W c ≡ true
followed-unrefused file W c before h = (refused_by_marks file W c before).1.1 h

pub followed-refused : (file : List ℕ) (W : List Reference) (c : Reference) (code : FaultCode) → ((u : Reference) → IsIn u W → IsBefore u.address c.address)
    → refused file W c ≡ Some code → is_followed (rules_of file) W c ≡ false
followed-refused file W c code before h = elim (cases_Bool (is_followed (rules_of file) W c)) [
  | inl e ↦ (let k : refused file W c ≡ None = (refused_by_marks file W c before).1.0 e in cc)
  | inr e ↦ e
]

-- a visit more

pub unvisited : (g : Geometry) (W : List Reference) (p : ℕ) → mark_of g W p ≡ Unmarked → (is_fixed g p ≡ false) × (visit_of W p ≡ None)
unfolding mark_of
unvisited g W p h = by_case (is_fixed g p) (visit_of W p) h
  where
    by_role : (role : Role) (from : ℕ) → role_mark role from ≡ Unmarked → ⊥
    by_role (root kind) from e = cc
    by_role (child kind) from e = cc
    by_role (first_overflow left) from e = cc
    by_role (later_overflow left) from e = cc
    by_role trunk from e = cc
    by_role free_leaf from e = cc

    by_case : (b : Bool) (o : Option Reference) → cond b Fixed (option_map_or visit_mark o Unmarked) ≡ Unmarked → (b ≡ false) × (o ≡ None)
    by_case true o e = cc
    by_case false None e = (refl, refl)
    by_case false (Some r) e = absurd (by_role (role_of r) (from_of r) e)

mark_here : (g : Geometry) (W : List Reference) (c : Reference) → mark_of g W c.page ≡ Unmarked → mark_of g (W ++ c ∷ []) c.page ≡ visit_mark c
unfolding mark_of
mark_here g W c h =
    let k = unvisited g W c.page h in
    let own : (c.page == c.page) ≡ true = eq-eqb c.page c.page refl in
    let found : visit_of (W ++ c ∷ []) c.page ≡ Some c =
    find-append (λ r. r.page == c.page) W (c ∷ []) ∙ ap (λ o. option_or o (visit_of (c ∷ []) c.page)) k.1 ∙ ap (λ b. cond b (Some c) None) own in
    ap (λ b. cond b Fixed (option_map_or visit_mark (visit_of (W ++ c ∷ []) c.page) Unmarked)) k.0 ∙ ap (λ o. option_map_or visit_mark o Unmarked) found

mark_there : (g : Geometry) (W : List Reference) (c : Reference) (p : ℕ) → p ≢ c.page → mark_of g (W ++ c ∷ []) p ≡ mark_of g W p
unfolding mark_of
mark_there g W c p h =
    let other : (c.page == p) ≡ false = ne_eqb c.page p (λ e. h (sym e)) in
    let found : visit_of (W ++ c ∷ []) p ≡ visit_of W p =
    find-append (λ r. r.page == p) W (c ∷ []) ∙ ap (λ b. option_or (visit_of W p) (cond b (Some c) None)) other ∙ or_none (visit_of W p) in
    ap (λ o. cond (is_fixed g p) Fixed (option_map_or visit_mark o Unmarked)) found
  where
    or_none : (o : Option Reference) → option_or o None ≡ o
    or_none None = refl
    or_none (Some r) = refl

-- the marks after a visit are the old ones, with the visit's at its page
pub marks_of-visit : (g : Geometry) (W : List Reference) (c : Reference) → 1 ≤ c.page → c.page ≤ g.pages → mark_of g W c.page ≡ Unmarked
    → set (marks_of g W) (c.page - 1) (visit_mark c) ≡ marks_of g (W ++ c ∷ [])
unfolding marks_of
marks_of-visit g W c l m h =
    let e : 1 + (c.page - 1) ≡ c.page = omega arith in
    set_made (mark_of g W) (mark_of g (W ++ c ∷ [])) 1 g.pages (c.page - 1) (visit_mark c) (omega arith)
    (ap (mark_of g (W ++ c ∷ [])) e ∙ mark_here g W c h) (λ p d. mark_there g W c p (λ x. d (x ∙ sym e)))

pub marked-visit : (file : List ℕ) (W : List Reference) (c : Reference) (marks : List Mark) → AreMarksOf file W marks → page_mark marks c.page ≡ Some Unmarked
    → AreMarksOf file (W ++ c ∷ []) (set marks (c.page - 1) (visit_mark c))
marked-visit file W c marks m h =
    let g : Geometry = geometry file in
    let k : page_mark (marks_of g W) c.page ≡ Some Unmarked = ap (λ l. page_mark l c.page) (sym m) ∙ h in
    elim (cases_Bool (is_page g c.page)) [
      | inl e ↦ (let l : 1 ≤ c.page = low e in let n : c.page ≤ g.pages = high e in
          let u : mark_of g W c.page ≡ Unmarked = same (sym (page_mark-in g W c.page l n) ∙ k) in
          ap (λ l. set l (c.page - 1) (visit_mark c)) m ∙ marks_of-visit g W c l n u)
      | inr e ↦ (let z : page_mark (marks_of g W) c.page ≡ None = page_mark-out g W c.page e in cc)
    ]
  where
    low : is_page (geometry file) c.page ≡ true → 1 ≤ c.page
    low e = grind (arith, nat_tests)

    high : is_page (geometry file) c.page ≡ true → c.page ≤ (geometry file).pages
    high e = grind (arith, nat_tests)

    same : {x y : Mark} → Some x ≡ Some y → x ≡ y
    same e = cc

-- Marks as words, one after another.

-- a word is its kind and its page
pub unpacked_is : (kind from : ℕ) → kind < 8 → unpacked (from * 8 + kind) ≡ mark_of_kind kind from
unfolding unpacked
unpacked_is kind from h =
    let r : (from * 8 + kind) % 8 ≡ kind = omega arith in
    let q : (from * 8 + kind) / 8 ≡ from = omega arith in
    ap (λ k. mark_of_kind k ((from * 8 + kind) / 8)) r ∙ ap (λ f. mark_of_kind kind f) q

-- one word more is changed
pub map_step : (f : Mark → Mark) (M : List Mark) (words : List ℕ) (i w d : ℕ) → i < length words → map unpacked words ≡ map f (take i M) ++ drop i M
    → unpacked w ≡ f (unpacked (get_or words i d)) → map unpacked (set words i w) ≡ map f (take (suc i) M) ++ drop (suc i) M
map_step f M [] i w d l h e = absurd (omega arith)
map_step f [] (v ∷ words) zero w d l h e = cc
map_step f [] (v ∷ words) (suc i) w d l h e = cc
map_step f (m ∷ M) (v ∷ words) zero w d l h e =
    let a : unpacked v ≡ m = cc in
    let b : map unpacked words ≡ M = cc in
    let k : unpacked w ≡ f m = e ∙ ap f a in cc
map_step f (m ∷ M) (v ∷ words) (suc i) w d l h e =
    let a : unpacked v ≡ f m = cc in
    let b : map unpacked words ≡ map f (take i M) ++ drop i M = cc in
    let k : map unpacked (set words i w) ≡ map f (take (suc i) M) ++ drop (suc i) M = map_step f M words i w d (omega arith) b e in cc

-- one word more is made
pub made_step : (f : ℕ → Mark) (words : List ℕ) (i w : ℕ) → i < length words → map unpacked (take i words) ≡ map f (range_with_len 1 i)
    → unpacked w ≡ f (i + 1) → map unpacked (take (i + 1) (set words i w)) ≡ map f (range_with_len 1 (i + 1))
made_step f words i w l h e =
    let n : i + 1 ≡ suc i = omega arith in
    let j : 1 + i ≡ i + 1 = omega arith in
    ap (λ k. map unpacked (take k (set words i w))) n
    ∙ ap (map unpacked) (take-suc-set words i w l)
    ∙ map-append unpacked (take i words) (w ∷ [])
    ∙ ap (λ L. L ++ (unpacked w ∷ [])) h
    ∙ ap (λ m. map f (range_with_len 1 i) ++ (m ∷ [])) e
    ∙ sym (map-range_with_len_more f 1 i (i + 1) j)
