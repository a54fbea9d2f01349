-- The lines below a fault, by what is known of a file.
use Rattle.std.proofs.Common.{◌≡◌, ℕ, ℤ, Bool, true, false, cond, List, [], ◌++◌, Option, Some, None, refl, sym, ap, ◌∙◌}
use Rattle.std.specs.Prelude.{option_map}
use Rattle.std.specs.Option.{option_map_or}
use Rattle.dbformat.specs.EndFaults.{visit_of}
use Rattle.dbexplain.proofs.Common.{geometry, is_page, encoding, stated_pages, greatest_root, freelist_count, Reference, SchemaRow, Survey, Encoding, FaultCode}
use Rattle.dbexplain.proofs.Common.{Geometry, HeaderBytes, IsHeaderOf, tree_of_row, place_line}
use Rattle.dbformat.specs.FixedPages.{is_fixed}
use Rattle.dbformat.specs.Reference.{Role, root, child, first_overflow, later_overflow, trunk, free_leaf, role_of, from_of, entry_of}
use Rattle.dbformat.specs.declared.Fault.{Fault}
use Rattle.dbformat.specs.declared.FaultCode.TheVariants.{H01}
use Rattle.dbmarks.specs.Marking.{role_mark, marks_of, page_mark, AreMarksOf}
use Rattle.dbmarks.specs.EndMarks.{entry_value}
use Rattle.dbmarks.specs.declared.entry.MapEntry.{MapEntry}
use Rattle.dbmarks.specs.declared.marks.Mark.{Mark}
use Rattle.dbmarks.proofs.EndMarking.{found_in}
use Rattle.dbscan.specs.Roots.{AreListed}
use Rattle.dbformat.proofs.HeaderPrefix.{encoding_within}
use Rattle.dbscan.specs.Texts.{tree_text}
use Rattle.dbexplain.specs.Below.{own_line, both_lines, outside_lines, header_line, line_of_entry, entry_line, lines_below, value_page}
use Rattle.dbexplain.specs.Notes.{below_of, page_or_none, wanted_entry}
use Rattle.dbexplain.specs.declared.owners.Below.{Below}
use Rattle.dbexplain.specs.declared.owners.Below.TheVariants as below
use Rattle.dbscan.proofs.PageMarks.{mark_here, no_visit, unused}

-- kind by kind

module _ (file : List ℕ) (V : List Reference) (f : Fault) where
  -- what is written below a fault of this kind
  abbrev pub lines_by : Below → List ℕ
  lines_by below.Nothing = []
  lines_by below.StatedPages = header_line (stated_pages file)
  lines_by below.GreatestRoot = header_line (greatest_root file)
  lines_by below.FreelistCount = header_line (freelist_count file)
  lines_by below.Own = own_line file V f
  lines_by below.Outside = outside_lines file V f
  lines_by below.Both = both_lines file V f
  lines_by below.Entry = own_line file V f ++ entry_line (visit_of V f.page)

  by_code : (code : FaultCode) → lines_by (below_of code) ≡ lines_below file V f code
  by_code H01 = refl
  by_code _ = refl

  pub lines_of : (b : Below) → b ≡ below_of f.code → lines_by b ≡ lines_below file V f f.code
  lines_of b e = ap lines_by e ∙ by_code f.code

-- the entry that a page has

unused_entry : (b c : Bool) → wanted_entry (unused b c) ≡ None
unused_entry true c = refl
unused_entry false true = refl
unused_entry false false = refl

role_entry : (role : Role) (from : ℕ) → wanted_entry (Some (role_mark role from)) ≡ Some (entry_of role from)
role_entry (root kind) from = refl
role_entry (child kind) from = refl
role_entry (first_overflow left) from = refl
role_entry (later_overflow left) from = refl
role_entry trunk from = refl
role_entry free_leaf from = refl

pub entry_is : (file : List ℕ) (V : List Reference) → Survey file V → (p : ℕ)
    → option_map_or line_of_entry (wanted_entry (page_mark (marks_of (geometry file) V) p)) [] ≡ entry_line (visit_of V p)
entry_is file V s p = by_case (visit_of V p) refl
  where
    by_case : (o : Option Reference) → visit_of V p ≡ o → option_map_or line_of_entry (wanted_entry (page_mark (marks_of (geometry file) V) p)) []
        ≡ entry_line (visit_of V p)
    by_case None e =
        ap (λ m. option_map_or line_of_entry (wanted_entry m) []) (no_visit file V s p e)
        ∙ ap (λ o. option_map_or line_of_entry o []) (unused_entry (is_fixed (geometry file) p) (is_page (geometry file) p))
        ∙ sym (ap entry_line e)
    by_case (Some r) e =
        let k = found_in V p r e in
        ap (λ p. option_map_or line_of_entry (wanted_entry (page_mark (marks_of (geometry file) V) p)) []) (sym k.1)
        ∙ ap (λ m. option_map_or line_of_entry (wanted_entry m) []) (mark_here file V s r k.0)
        ∙ ap (λ o. option_map_or line_of_entry o []) (role_entry (role_of r) (from_of r))
        ∙ sym (ap entry_line e)

pub entry_said : (file : List ℕ) (V : List Reference) (marks : List Mark) (p : ℕ) (o : Option MapEntry) → Survey file V → AreMarksOf file V marks
    → option_map entry_value o ≡ wanted_entry (page_mark marks p) → option_map_or line_of_entry (option_map entry_value o) [] ≡ entry_line (visit_of V p)
entry_said file V marks p o s m e =
    ap (λ o. option_map_or line_of_entry o []) (e ∙ ap (λ marks. wanted_entry (page_mark marks p)) m) ∙ entry_is file V s p

-- what is put is what the file says

pub known_trees : (file : List ℕ) (V : List Reference) (h : HeaderBytes) (rows : List SchemaRow) (e : Encoding)
    → IsHeaderOf h file → AreListed file V rows → e ≡ encoding h.bytes → tree_of_row e rows ≡ tree_text file V
known_trees file V h rows e header listed texts =
    ap (λ e. tree_of_row e rows) (texts ∙ ap encoding header.begins ∙ encoding_within file) ∙ ap (tree_of_row (encoding file)) listed

-- the line of the page that a value is, if it is that of a page
pub value_line : (file : List ℕ) (V : List Reference) (v : ℤ) (g : Geometry) → g ≡ geometry file → place_line file V (page_or_none g v)
    ≡ place_line file V (value_page v)
value_line file V v g e = ap (λ g. place_line file V (page_or_none g v)) e ∙ by_case (is_page (geometry file) (value_page v)) refl
  where
    by_case : (b : Bool) → is_page (geometry file) (value_page v) ≡ b → place_line file V (page_or_none (geometry file) v) ≡ place_line file V (value_page v)
    by_case true e = ap (λ b. place_line file V (cond b (value_page v) 0)) e
    by_case false e = ap (λ b. place_line file V (cond b (value_page v) 0)) e ∙ rw e refl
