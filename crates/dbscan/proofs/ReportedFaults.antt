-- Faults that are reported, one after another.
use Rattle.dbscan.proofs.Common.{◌≡◌, ℕ, ◌+◌, ◌<◌, List, [], ◌∷◌, ◌++◌, length, take, get_or, Option, None, ap, ◌∙◌, Fault, Part, items_of, map-append}
use Rattle.dbscan.proofs.Common.{flat_map-append, take_more}

pub items_append : (p : Part) (xs ys : List (Option Fault)) → items_of p (xs ++ ys) ≡ items_of p xs ++ items_of p ys
items_append p xs ys = simp (flat_map-append, map-append)

pub items_more : (p : Part) (faults : List (Option Fault)) (i : ℕ) (o : Option Fault) → i < length faults → get_or faults i None ≡ o
    → items_of p (take (i + 1) faults) ≡ items_of p (take i faults) ++ items_of p (o ∷ [])
items_more p faults i o h e =
    ap (items_of p) (take_more faults i None h)
    ∙ items_append p (take i faults) (get_or faults i None ∷ [])
    ∙ ap (λ x. items_of p (take i faults) ++ items_of p (x ∷ [])) e
