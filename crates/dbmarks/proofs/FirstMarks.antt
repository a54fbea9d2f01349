-- The marks of a run before any visit.
use Rattle.std.proofs.Common.{◌≡◌, ℕ, Bool, true, false, cond, List, [], ◌∷◌, map, refl, ap, ap₂, ◌∙◌}
use Rattle.dbformat.specs.EndFaults.{page_numbers}
use Rattle.dbformat.specs.FixedPages.{is_fixed}
use Rattle.dbformat.specs.declared.Geometry.{Geometry}
use Rattle.dbmarks.specs.Marking.{mark_of, marks_of, cleared, AreMarksFor}
use Rattle.dbmarks.specs.declared.marks.Mark.{Mark}
use Rattle.dbmarks.specs.declared.marks.Mark.TheVariants.{Unmarked, Fixed}

cleared_mark : (g : Geometry) (p : ℕ) → cleared (mark_of g [] p) ≡ mark_of g [] p
unfolding mark_of
cleared_mark g p = by_case (is_fixed g p)
  where
    by_case : (b : Bool) → cleared (cond b Fixed Unmarked) ≡ cond b Fixed Unmarked
    by_case true = refl
    by_case false = refl

cleared_marks : (g : Geometry) (ps : List ℕ) → map cleared (map (mark_of g []) ps) ≡ map (mark_of g []) ps
cleared_marks g [] = refl
cleared_marks g (p ∷ ps) = ap₂ (λ a b. a ∷ b) (cleared_mark g p) (cleared_marks g ps)

-- those before any visit are those of the file's pages
pub first_marks : (g : Geometry) → AreMarksFor g (marks_of g [])
unfolding marks_of
first_marks g = cleared_marks g (page_numbers g)

pub fresh_marks : (g : Geometry) (marks : List Mark) → marks ≡ marks_of g [] → AreMarksFor g marks
fresh_marks g marks e = ap (map cleared) e ∙ first_marks g
