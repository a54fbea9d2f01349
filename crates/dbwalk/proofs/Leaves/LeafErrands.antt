-- What a cell of a leaf leads to: its overflow chain, and then its own event.
use Rattle.std.proofs.Common.{◌≡◌, ℕ, ◌+◌, ◌*◌, ◌%◌, ◌/◌, false, cond, inl, inr, List, [], ◌∷◌, ◌++◌, length, map, Option, Some, None, Result, Ok}
use Rattle.std.proofs.Common.{Err, refl, sym, ap, ap₂, subst, arith, ◌∙◌, option_map, option_and_then, option_to_list}
use Rattle.dbwalk.proofs.Common.{IsBefore, AreQuiet, IsPast, Errand, errand_key, errands_of, start_of, then_step, overflow_step, child_step}
use Rattle.dbwalk.proofs.Common.{is_child_step, cell_of_step, children_on, chain_on, child_path, chain_place, View, if_of_tree, is_interior}
use Rattle.dbwalk.proofs.Common.{undamaged, view, Cell, cell, count, overflow_size, go, report_cell, errands_in, cell_errands, errands_before}
use Rattle.dbwalk.proofs.Common.{page_bytes, usable_size, first_overflow, Way, Reference, link, role_of, tree_kind, tree_view, right_links, Event, own_visit}
use Rattle.dbwalk.proofs.Common.{story_of, CellFault, InteriorIndex, InteriorTable, LeafIndex, LeafTable, TreeKind, cell_rowid, IsOnChain, IsChainOf}
use Rattle.dbwalk.proofs.Common.{overflow_errands, AreBefore, IsVisitAt, option_map_or, result_ok, append-nil, nat_tests, child}
use Rattle.dbwalk.proofs.Common.{PageKind, Chain, Fits, at_offset, cell_fits}
use Rattle.dbformat.specs.Head.{right_number}
use Rattle.dbformat.proofs.Looping.{by_cell}
use Rattle.dbformat.specs.declared.HeadFault.{HeadFault}
use Rattle.dbwalk.proofs.Pages.PageReportings.{view_is}
use Rattle.dbwalk.proofs.Chaining.Overflows.{child_by, place_by, steps_then}

-- a leaf's cells have no left child

of_leaf : (kind : PageKind) (x : Cell) → is_interior kind ≡ false → Fits kind x → x.left ≡ None
of_leaf LeafTable x leaf f = f.0
of_leaf InteriorTable x leaf f = cc
of_leaf LeafIndex x leaf f = f.0
of_leaf InteriorIndex x leaf f = cc

leaf_left : (v : View) (i : ℕ) (x : Cell) → is_interior v.kind ≡ false → cell v i ≡ Ok x → x.left ≡ None
leaf_left v i x leaf e = let at = at_offset v i x e in of_leaf v.kind x leaf (cell_fits v.kind v at.0 x at.1)

-- the address of a cell's first overflow page

step_cell : (i : ℕ) → (3 * i) / 3 ≡ i
step_cell i = omega arith

no_child_step : (i : ℕ) → is_child_step (overflow_step i) ≡ false
no_child_step i = let rest : 3 * i % 3 ≡ 0 = omega arith in grind (arith, nat_tests)

pub chain_first : (steps : List ℕ) (i : ℕ) → chain_on steps ≡ None → (children_on (steps ++ (overflow_step i ∷ [])) ≡ children_on steps)
    × (chain_on (steps ++ (overflow_step i ∷ [])) ≡ Some (i, 0))
chain_first steps i h =
    let s = overflow_step i in
    let k = steps_then steps s in (
      k.0 ∙ ap (λ o. children_on steps ++ child_by o s) h ∙ ap (λ b. children_on steps ++ cond b (cell_of_step s ∷ []) []) (no_child_step i)
          ∙ append-nil (children_on steps),
      k.1 ∙ ap (λ o. place_by o s) h ∙ ap (λ b. cond b None (Some (cell_of_step s, 0))) (no_child_step i) ∙ ap (λ n. Some (n, 0)) (step_cell i),
    )

-- the errands of a cell: of its overflow page, and of the cell itself

abbrev pub own_errands : Reference → View → ℕ → Option Cell → List (Errand Way Event)
own_errands c v i None = []
own_errands c v i (Some x) = report_cell c v i x ∷ []

abbrev pub read_overflow : Option Cell → Option (ℕ × ℕ)
read_overflow o = option_and_then (λ c. option_map (λ p. (p, overflow_size c)) c.overflow) o

pub errands_split : (c : Reference) (kind : TreeKind) (v : View) (i : ℕ) (overflow : Option (ℕ × ℕ)) → is_interior v.kind ≡ false → overflow
    ≡ read_overflow (result_ok (cell v i))
    → cell_errands c kind v i ≡ overflow_errands c i overflow ++ own_errands c v i (result_ok (cell v i))
errands_split c kind v i overflow leaf e = by_cell (cell v i) refl ∙ ap (λ w. overflow_errands c i w ++ own_errands c v i (result_ok (cell v i))) (sym e)
  where
    by_overflow : (x : Cell) (o : Option ℕ) → map (go c) (option_to_list (option_map (link c.page (overflow_step i) i (first_overflow (overflow_size x))) o))
        ≡ overflow_errands c i (option_map (λ p. (p, overflow_size x)) o)
    by_overflow x o = grind arith

    by_cell : (r : Result Cell CellFault) → cell v i ≡ r → option_map_or (errands_in c kind v i) (result_ok r) []
        ≡ overflow_errands c i (read_overflow (result_ok r)) ++ own_errands c v i (result_ok r)
    by_cell (Err f) e = refl
    by_cell (Ok x) e =
        let A = map (go c) (option_to_list (option_map (link c.page (overflow_step i) i (first_overflow (overflow_size x))) x.overflow)) in
        ap (λ o. (A ++ map (go c) (option_to_list (option_map (link c.page (child_step i) i (child kind)) o))) ++ (report_cell c v i x ∷ []))
        (leaf_left v i x leaf e)
        ∙ ap (λ l. l ++ (report_cell c v i x ∷ [])) (append-nil A)
        ∙ ap (λ l. l ++ (report_cell c v i x ∷ [])) (by_overflow x x.overflow)

pub quiet_overflow : (c : Reference) (i : ℕ) (overflow : Option (ℕ × ℕ)) → AreQuiet own_visit (overflow_errands c i overflow)
quiet_overflow c i None e h = absurd h
quiet_overflow c i (Some o) e (inl h) = cc
quiet_overflow c i (Some o) e (inr h) = absurd h

-- the first reference of a chain
pub chain_start : (chain : Chain) (file : List ℕ) (kind : TreeKind) (k : ℕ) (children : List ℕ) (c : Reference) (p i first left : ℕ)
    → IsVisitAt kind k children c p
    → chain.usable ≡ usable_size file → chain.start ≡ k → chain.path.now ≡ children → chain.page ≡ p → chain.cell ≡ i → chain.first ≡ first
    → chain.left ≡ left → cell_rowid file p i ≡ chain.rowid
    → IsChainOf file chain (record {
      address = then_step c.address (overflow_step i);
      page = first;
      role = record { role = first_overflow left; from = c.page; item = i };
    })
chain_start chain file kind k children c p i first left at usables start path page item one rest rowid = record {
  usable = usables;
  page = sym one;
  role = ap first_overflow (sym rest);
  from = at.page ∙ sym page;
  item = sym item;
  rowid = ap₂ (cell_rowid file) page item ∙ rowid;
  place = by_address c.address at.start at.depth at.path at.chain;
}
  where
    by_address : (a : List ℕ) → start_of a ≡ k → length a ≡ length children + 1 → child_path a ≡ children → chain_place a ≡ None
        → IsOnChain chain 0 (record {
          address = then_step a (overflow_step i);
          page = first;
          role = record { role = first_overflow left; from = c.page; item = i };
        })
    by_address [] s d q n = absurd (omega (arith, d))
    by_address (x ∷ a) s d q n = let f = chain_first a i n in record
        { start = s ∙ sym start; path = f.0 ∙ q ∙ sym path; place = f.1 ∙ ap (λ j. Some (j, 0)) (sym item) }

-- the rowid of a cell of a page of a tree
pub rowid_in : (file : List ℕ) (kind : TreeKind) (p : ℕ) (v : View) (i : ℕ) → undamaged kind p (usable_size file) (page_bytes file p) ≡ Some v
    → cell_rowid file p i ≡ option_and_then (λ c. c.key) (result_ok (cell v i))
rowid_in file kind p v i h = by_view (view p (usable_size file) (page_bytes file p)) h
  where
    by_view : (w : Result View HeadFault) → if_of_tree kind w ≡ Some v
        → option_and_then (λ v. option_and_then (λ c. c.key) (result_ok (cell v i))) (result_ok w) ≡ option_and_then (λ c. c.key) (result_ok (cell v i))
    by_view w e = grind arith

-- what a program reads of a page of a tree
module _ (file : List ℕ) {kind : TreeKind} {k : ℕ} {children : List ℕ} {c : Reference} {p : ℕ} {v : View} (at : IsVisitAt kind k children c p)
    (viewed : tree_view file c ≡ Some v) where
  seen_here : undamaged kind p (usable_size file) (page_bytes file p) ≡ Some v
  seen_here = ap (λ q. undamaged kind q (usable_size file) (page_bytes file q)) (sym at.page) ∙ sym (view_is file c kind at.kind_is) ∙ viewed

  pub rowid_here : (i : ℕ) → cell_rowid file p i ≡ option_and_then (λ c. c.key) (result_ok (cell v i))
  rowid_here i = rowid_in file kind p v i seen_here

  -- its view is that of its bytes
  pub view_here : {usable : ℕ} {bytes : List ℕ} (o : Option View) → usable ≡ usable_size file → bytes ≡ page_bytes file p → undamaged kind p usable bytes ≡ o
      → o ≡ Some v
  view_here o usables are is = sym is ∙ ap₂ (undamaged kind p) usables are ∙ seen_here

-- visits that are all before the place of its chain are before all that it leads to
pub past_cell : (U : List Reference) (c : Reference) (i : ℕ) (overflow : Option (ℕ × ℕ)) → AreBefore U (then_step c.address (overflow_step i))
    → IsPast U (overflow_errands c i overflow)
past_cell U c i None before u f m j = absurd j
past_cell U c i (Some o) before u f m (inl e) = subst (λ f. IsBefore u.address (errand_key f)) (sym e) (before u m)
past_cell U c i (Some o) before u f m (inr j) = absurd j

-- a leaf leads only to its cells
pub leaf_errands_are : (file : List ℕ) (c : Reference) (kind : TreeKind) (v : View) → tree_kind (role_of c) ≡ Some kind → tree_view file c ≡ Some v
    → is_interior v.kind ≡ false → errands_of (story_of file) c ≡ errands_before c kind v (count v)
leaf_errands_are file c kind v tree viewed leaf = by_cell file c kind v tree viewed ∙ ap (λ ls. errands_before c kind v (count v) ++ map (go c) ls) (none leaf)
    ∙ append-nil (errands_before c kind v (count v))
  where
    none : is_interior v.kind ≡ false → right_links c.page kind v ≡ []
    none e = ap (λ b. option_to_list (option_map (link c.page (child_step (count v)) (count v) (child kind))
        (cond b (Some (right_number v.number v.bytes)) None))) e
