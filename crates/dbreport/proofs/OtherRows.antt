-- The rows of the other pages are those that the marks give.
use Rattle.dbreport.proofs.Common.{arith, ◌≡◌, ℕ, zero, suc, ◌+◌, Bool, true, false, cond, List, [], ◌∷◌, ◌++◌, map, Option, Some, None, refl, ap, subst, ◌∙◌}
use Rattle.dbreport.proofs.Common.{flat_map, filter_map, option_map, if◌then◌else◌, geometry, form_line, other_line, Role, Reference, role_of, OtherPage}
use Rattle.dbreport.proofs.Common.{FormRow, other_rows, Survey, Geometry, other_text, cons_option, range_with_len, option_map_or, flat_map-same, fixed_use}
use Rattle.dbreport.proofs.Common.{is_fixed, other_row, other_page, other_visited, other_unvisited}
use Rattle.dbformat.specs.EndFaults.{visit_of, page_numbers}
use Rattle.dbmarks.specs.EndMarks.{AreVisits}
use Rattle.dbmarks.specs.Marking.{role_mark, visit_mark, mark_of, marks_of}
use Rattle.dbmarks.specs.declared.marks.Mark.{Mark}
use Rattle.dbmarks.specs.declared.marks.Mark.TheVariants.{Unmarked, Fixed}
use Rattle.dbmarks.proofs.EndMarking.{found_in, survey_visits}
use Rattle.dbreport.specs.OtherMarks.{marked_other, marked_line}

-- ---- one page

-- a visited page is what its role says
by_role : (g : Geometry) (p : ℕ) (role : Role) (from : ℕ) → marked_other g p (role_mark role from) ≡ other_visited role
by_role g p role from = grind arith

-- what a page is by its visit, if it has one
abbrev visited : Geometry → ℕ → Option Reference → Option OtherPage
visited g p None = Some (other_unvisited (fixed_use g p))
visited g p (Some r) = other_visited (role_of r)

by_visit : (g : Geometry) (p : ℕ) (b : Bool) (o : Option Reference) → ((r : Reference) → o ≡ Some r → b ≡ false)
    → marked_other g p (cond b Fixed (option_map_or visit_mark o Unmarked)) ≡ visited g p o
by_visit g p b o h = grind (arith, by_role)

-- a page's mark shows what other page it is
pub other_by_mark : (file : List ℕ) (V : List Reference) (p : ℕ) → AreVisits (geometry file) V → marked_other (geometry file) p (mark_of (geometry file) V p)
    ≡ other_page file V p
unfolding mark_of
other_by_mark file V p h = by_visit (geometry file) p (is_fixed (geometry file) p) (visit_of V p)
    (λ r e. let k = found_in V p r e in subst (λ q. is_fixed (geometry file) q ≡ false) k.1 (h.allowed r k.0).1)

-- ---- all pages

-- lines of rows, page by page
row_more : (line : FormRow → List ℕ) (p : ℕ) (o : Option OtherPage) (text : List ℕ) (rows : List FormRow) → text ≡ flat_map line rows
    → option_map_or (λ what. line (other_row p what)) o [] ++ text ≡ flat_map line (cons_option (option_map (other_row p) o) rows)
row_more line p o text rows h = grind arith

rows_text : (line : FormRow → List ℕ) (other : ℕ → Option OtherPage) (ps : List ℕ)
    → flat_map (λ p. option_map_or (λ what. line (other_row p what)) (other p) []) ps ≡ flat_map line (filter_map (λ p. option_map (other_row p) (other p)) ps)
rows_text line other [] = refl
rows_text line other (p ∷ ps) = row_more line p (other p) _ _ (rows_text line other ps)

-- what is written of the pages from page a on, by their marks
abbrev pub others_from : Bool → Geometry → ℕ → List Mark → List ℕ
others_from all g a [] = []
others_from all g a (mark ∷ marks) = other_text all g a mark ++ others_from all g (a + 1) marks

none_from : (g : Geometry) (a : ℕ) (marks : List Mark) → others_from false g a marks ≡ []
none_from g a [] = refl
none_from g a (mark ∷ marks) = none_from g (a + 1) marks

each_from : (g : Geometry) (f : ℕ → Mark) (a n : ℕ) → others_from true g a (map f (range_with_len a n))
    ≡ flat_map (λ p. marked_line g p (f p)) (range_with_len a n)
each_from g f a zero = refl
each_from g f a (suc n) = ap (λ l. marked_line g a (f a) ++ l) (each_from g f (a + 1) n)

-- by the marks of a file the lines are those of the rows
pub others_text : (all : Bool) (file : List ℕ) (V : List Reference) → Survey file V
    → others_from all (geometry file) 1 (marks_of (geometry file) V) ≡ flat_map (form_line file V) (if all then other_rows file V else [])
unfolding form_line marks_of
others_text false file V s = none_from (geometry file) 1 (marks_of (geometry file) V)
others_text true file V s =
    each_from (geometry file) (mark_of (geometry file) V) 1 (geometry file).pages
    ∙ flat_map-same (λ p. marked_line (geometry file) p (mark_of (geometry file) V p))
    (λ p. option_map_or (λ what. form_line file V (other_row p what)) (other_page file V p) []) (page_numbers (geometry file))
    (λ p i. ap (λ o. option_map_or (other_line (geometry file).page_size p) o []) (other_by_mark file V p (survey_visits file V s)))
    ∙ rows_text (form_line file V) (other_page file V) (page_numbers (geometry file))
