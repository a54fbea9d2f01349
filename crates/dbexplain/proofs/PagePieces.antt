-- The lines below a fault by the pieces that are put.
use Rattle.std.proofs.Common.{◌≡◌, ℕ, ◌-◌, ◌*◌, true, cond, List, [], ◌∷◌, ◌++◌, Option, refl, sym, ap, ◌∙◌, append_assoc}
use Rattle.std.specs.Prelude.{codes, decimal}
use Rattle.std.specs.Option.{option_map_or}
use Rattle.dbexplain.proofs.Common.{is_page, fixed_use, line_feed, Geometry, indented}
use Rattle.dbformat.specs.declared.Fixed.{Fixed}
use Rattle.dbscan.specs.declared.place.Place.{Place}
use Rattle.dbscan.specs.declared.place.Place.TheVariants as place
use Rattle.dbscan.specs.Texts.{place_text}
use Rattle.dbexplain.specs.Below.{page_place_line}
use Rattle.dbscan.specs.Texts.{place_front, place_tree}
use Rattle.dbexplain.specs.Notes.{place_end, page_front}

-- the text of a start's tree, if there is one
abbrev tree_or_none : (ℕ → List ℕ) → Option ℕ → List ℕ
tree_or_none tree start = option_map_or tree start []

in_tree : (tree text number : List ℕ) → (codes "in " ++ tree ++ text ++ number) ++ line_feed ∷ [] ≡ codes "in " ++ (tree ++ (text ++ number ++ line_feed ∷ []))
in_tree tree text number = simp append_assoc

-- what a page is, and the end of its line
place_pieces : (fixed : Option Fixed) (tree : ℕ → List ℕ) (start : Option ℕ) (p : Place)
    → place_text fixed (tree_or_none tree start) p ++ line_feed ∷ [] ≡ place_front fixed p ++ (tree_or_none tree (place_tree p start) ++ place_end p)
place_pieces fixed tree start place.Root = append_assoc (codes "root of ") (tree_or_none tree start) (line_feed ∷ [])
place_pieces fixed tree start (place.ChildOf from) = in_tree (tree_or_none tree start) (codes ", child of page ") (decimal from)
place_pieces fixed tree start (place.OverflowOf from) = in_tree (tree_or_none tree start) (codes ", overflow page of page ") (decimal from)
place_pieces fixed tree start (place.OverflowAfter from) = in_tree (tree_or_none tree start) (codes ", overflow page after page ") (decimal from)
place_pieces fixed tree start place.Trunk = refl
place_pieces fixed tree start place.FreeLeaf = refl
place_pieces fixed tree start place.Fixed = refl
place_pieces fixed tree start place.Nowhere = refl

-- where a page is: what comes before its tree, the tree, and the rest
pub page_pieces : (g : Geometry) (tree : ℕ → List ℕ) (p : ℕ) (what : Place) (start : Option ℕ) → is_page g p ≡ true
    → page_front g p what ++ (option_map_or tree (place_tree what start) [] ++ place_end what) ≡ page_place_line g tree p what start
page_pieces g tree p what start h = sym (ap (λ b. cond b line []) h ∙ joined)
  where
    page : List ℕ
    page = decimal p

    at : List ℕ
    at = decimal ((p - 1) * g.page_size)

    rest : List ℕ
    rest = place_text (fixed_use g p) (tree_or_none tree start) what

    line : List ℕ
    line = indented (codes "page " ++ page ++ codes " at byte " ++ at ++ codes ": " ++ rest)

    front : List ℕ
    front = place_front (fixed_use g p) what

    end : List ℕ
    end = tree_or_none tree (place_tree what start) ++ place_end what

    before : (a b c d e x z : List ℕ) → a ++ (b ++ c ++ d ++ e ++ x) ++ z ≡ a ++ b ++ c ++ d ++ e ++ (x ++ z)
    before a b c d e x z = simp append_assoc

    after : (a b c d e x z : List ℕ) → a ++ b ++ c ++ d ++ e ++ (x ++ z) ≡ (a ++ b ++ c ++ d ++ e ++ x) ++ z
    after a b c d e x z = simp append_assoc

    joined : line ≡ page_front g p what ++ end
    joined = before (codes "    ") (codes "page " ++ page) (codes " at byte ") at (codes ": ") rest (line_feed ∷ [])
        ∙ ap (λ w. codes "    page " ++ page ++ codes " at byte " ++ at ++ codes ": " ++ w) (place_pieces (fixed_use g p) tree start what)
        ∙ after (codes "    page ") page (codes " at byte ") at (codes ": ") front end
