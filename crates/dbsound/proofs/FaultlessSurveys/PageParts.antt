-- What is below a visited page of a tree: the page, then for each cell its chain and what is below its left child, and
-- what is below the right child.
use Rattle.std.proofs.Common.{◌≡◌, ℕ, Bool, true, false, cond, List, [], ◌∷◌, ◌++◌, Option, Some, None, refl, sym, ap, ◌∙◌, append-nil}
use Rattle.std.specs.Prelude.{flat_map, option_map, option_to_list}
use Rattle.std.proofs.lemmas.Grind.{flat_map-append}
use Rattle.dbsound.proofs.Common.{IsIn, Address, Link, named_at, overflow_step, child_step, View, is_interior, right_number, Cell, cells, count, overflow_size}
use Rattle.dbsound.proofs.Common.{Role, first_overflow, child, Way, Reference, link, cell_links, right_links, page_links, Survey, walk_faults, TreeKind, below}
use Rattle.dbsurvey.proofs.Lists.{flat_map-same, flat_map-flat_map}
use Rattle.dbsound.proofs.FaultlessSurveys.Followed.{by_its_links}
use Rattle.dbsound.proofs.FaultlessSurveys.TreePages.{IsTreePage}
use Rattle.dbsound.proofs.FaultlessSurveys.CellChains.{at_step, no_chain}

-- the part at a cell's left child, where it has one
abbrev pub left_part : List Reference → Address → ℕ → Option ℕ → List Reference
left_part V a i None = []
left_part V a i (Some left) = at_step V a (child_step i)

-- the part of a cell: its chain, and what is below its left child
abbrev pub cell_part : List Reference → Address → ℕ × Cell → List Reference
cell_part V a (i, c) = at_step V a (overflow_step i) ++ left_part V a i c.left

-- the part at the right child
abbrev pub right_part : List Reference → Address → View → List Reference
right_part V a v = cond (is_interior v.kind) (at_step V a (child_step (count v))) []

-- what is below named references is what is at their steps
pub below-links : (V : List Reference) (a : Address) (ls : List (Link Way)) → flat_map (λ d. below V d.address) (named_at a ls)
    ≡ flat_map (λ l. at_step V a l.step) ls
below-links V a [] = refl
below-links V a (l ∷ ls) = ap (λ x. at_step V a l.step ++ x) (below-links V a ls)

module _ (V : List Reference) (a : Address) (p : ℕ) where
  abbrev at_link : Link Way → List Reference
  at_link l = at_step V a l.step

  at_overflow : (step item : ℕ) (role : Role) (o : Option ℕ) → (o ≡ None → at_step V a step ≡ [])
      → flat_map at_link (option_to_list (option_map (link p step item role) o)) ≡ at_step V a step
  at_overflow step item role None h = sym (h refl)
  at_overflow step item role (Some first) h = append-nil (at_step V a step)

  at_left : (i : ℕ) (role : Role) (o : Option ℕ) → flat_map at_link (option_to_list (option_map (link p (child_step i) i role) o)) ≡ left_part V a i o
  at_left i role None = refl
  at_left i role (Some left) = append-nil (at_step V a (child_step i))

  at_cell : (kind : TreeKind) (x : ℕ × Cell) → (x.1.overflow ≡ None → at_step V a (overflow_step x.0) ≡ []) → flat_map at_link (cell_links p kind x)
      ≡ cell_part V a x
  at_cell kind (i, c) h = flat_map-append at_link (option_to_list (option_map (link p (overflow_step i) i (first_overflow (overflow_size c))) c.overflow))
      (option_to_list (option_map (link p (child_step i) i (child kind)) c.left))
      ∙ ap (λ l. l ++ flat_map at_link (option_to_list (option_map (link p (child_step i) i (child kind)) c.left)))
      (at_overflow (overflow_step i) i (first_overflow (overflow_size c)) c.overflow h)
      ∙ ap (λ l. at_step V a (overflow_step i) ++ l) (at_left i (child kind) c.left)

  at_right : (kind : TreeKind) (v : View) → flat_map at_link (right_links p kind v) ≡ right_part V a v
  at_right kind v = by_case (is_interior v.kind)
    where
      by_case : (b : Bool)
          → flat_map at_link (option_to_list (option_map (link p (child_step (count v)) (count v) (child kind))
          (cond b (Some (right_number v.number v.bytes)) None))) ≡ cond b (at_step V a (child_step (count v))) []
      by_case true = append-nil (at_step V a (child_step (count v)))
      by_case false = refl

module _ (file : List ℕ) (V : List Reference) (s : Survey file V) (none : walk_faults file V ≡ []) (r : Reference) (i : IsIn r V) (kind : TreeKind)
    (is_child : Bool) (v : View) (page : IsTreePage file V r kind is_child v) where
  pub below_page : below V r.address ≡ r ∷ (flat_map (cell_part V r.address) (cells v) ++ right_part V r.address v)
  below_page =
      by_its_links file V s none r i
      ∙ ap (λ ds. r ∷ flat_map (λ d. below V d.address) ds) page.links_are
      ∙ ap (λ l. r ∷ l) (below-links V r.address (page_links r.page kind (Some v))
      ∙ flat_map-append (at_link V r.address r.page) (flat_map (cell_links r.page kind) (cells v)) (right_links r.page kind v)
      ∙ ap (λ l. l ++ flat_map (at_link V r.address r.page) (right_links r.page kind v))
      (flat_map-flat_map (cell_links r.page kind) (at_link V r.address r.page) (cells v)
      ∙ flat_map-same (λ x. flat_map (at_link V r.address r.page) (cell_links r.page kind x)) (cell_part V r.address) (cells v)
      (λ x j. at_cell V r.address r.page kind x (no_chain file V s none r i kind is_child v page x j)))
      ∙ ap (λ l. flat_map (cell_part V r.address) (cells v) ++ l) (at_right V r.address r.page kind v))
