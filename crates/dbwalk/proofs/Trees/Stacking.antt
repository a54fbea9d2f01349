-- What is left of a walk with a stack, step by step.
use Rattle.std.proofs.Common.{◌≡◌, ℕ, suc, ◌<◌, ◌≤◌, inl, inr, List, [], ◌∷◌, Option, Some, None, refl, sym, ap, subst, arith, ◌∙◌, ◌-◌}
use Rattle.std.proofs.Common.{◌++◌, map, Result, Ok, Err, append_assoc, option_map, filter, flat_map, nat_le, option_to_list, option_and_then, ◌==◌}
use Rattle.dbwalk.proofs.Common.{IsIn, View, Cell, cell, cells, count, overflow_size, child_number, right_child, CellFault, step_of, Go, errands_of, then_step}
use Rattle.dbwalk.proofs.Common.{overflow_step, child_step, key_step, cell_of_step, first_overflow, Way, Reference, role_of, tree_kind, tree_view, link}
use Rattle.dbwalk.proofs.Common.{right_links, Event, at_key, story_of, go, report_cell, TreeKind, errands_from, child_at, top_visit, left_over, StackFrame}
use Rattle.dbwalk.proofs.Common.{unwrap_or, range_with_len, result_ok, cases_Bool, eqb-true, option_map_or, nat_tests, append-nil, IsIn-right}
use Rattle.dbwalk.proofs.Common.{IsIn-cases, child, is_story}
use Rattle.dbsurvey.specs.Story.{PageStep, Follow, Place, AreRising, errands_at}
use Rattle.dbsurvey.proofs.Order.{IsIn-left}
use Rattle.dbsurvey.proofs.Ordering.{IsIn-map, IsIn-from_map, IsIn-flat_map, IsIn-from_flat_map}
use Rattle.dbformat.specs.Reference.{cell_links}
use Rattle.dbformat.specs.Story.{cell_items, page_items}
use Rattle.dbformat.proofs.LookBack.{listed as is_listed}
use Rattle.dbformat.proofs.Looping.{tree_items}
use Rattle.dbwalk.specs.Walking.{child_page}
use Rattle.dbsurvey.proofs.Elements.{IsIn-range}
use Rattle.dbsurvey.proofs.Lists.{filter_map-has}
use Rattle.dbformat.proofs.CellParts.{from_ok}
use Rattle.dbformat.proofs.Cells.{cells-from}

-- The readable cells of a page.

cells_from : (v : View) (x : ℕ × Cell) → IsIn x (cells v) → (cell v x.0 ≡ Ok x.1) × (x.0 < count v)
cells_from v x h = let m = cells-from v x h in (from_ok v x.0 x.1 m.0, m.1)

pub cells_in : (v : View) (i : ℕ) (c : Cell) → i < count v → cell v i ≡ Ok c → IsIn {X = ℕ × Cell} (i, c) (cells v)
unfolding cells
cells_in v i c l e = filter_map-has (λ i. option_map (λ c. (i, c)) (result_ok (cell v i))) (range_with_len 0 (count v)) i (i, c)
    (IsIn-range 0 (count v) i (omega arith) (omega arith)) (ap (λ r. option_map (λ c. (i, c)) (result_ok r)) e)

-- What is left of a walk with a stack, step by step.

-- rising items from a step on

module _ {R E : Type 0} where
  abbrev from : ℕ → List (PageStep R E) → List (PageStep R E)
  from s items = filter (λ i. nat_le s (step_of i)) items

  from_all : (s : ℕ) (items : List (PageStep R E)) → ((i : PageStep R E) → IsIn i items → s ≤ step_of i) → from s items ≡ items
  from_all s [] h = refl
  from_all s (i ∷ items) h =
      let here = h i (inl refl) in let rest = from_all s items (λ j m. h j (inr m)) in grind (arith, nat_tests)

  from_end : (s : ℕ) (items : List (PageStep R E)) → ((i : PageStep R E) → IsIn i items → step_of i < s) → from s items ≡ []
  from_end s [] h = refl
  from_end s (i ∷ items) h =
      let here = h i (inl refl) in let rest = from_end s items (λ j m. h j (inr m)) in grind (arith, nat_tests)

  from_none : (s : ℕ) (items : List (PageStep R E)) → ((i : PageStep R E) → IsIn i items → step_of i ≡ s → ⊥) → from s items ≡ from (suc s) items
  from_none s [] h = refl
  from_none s (i ∷ items) h =
      let here = h i (inl refl) in let rest = from_none s items (λ j m. h j (inr m)) in grind (arith, nat_tests)

  from_item : (s : ℕ) (items : List (PageStep R E)) (x : PageStep R E) → AreRising items → IsIn x items → step_of x ≡ s → from s items ≡ x ∷ from (suc s) items
  from_item s [] x rise h e = absurd h
  from_item s (i ∷ items) x rise (inl f) e =
      let n : step_of i ≡ s = ap step_of (sym f) ∙ e in
      let all = from_all s items (λ j m. let k = rise.0 j m in omega arith) in
      let later = from_all (suc s) items (λ j m. let k = rise.0 j m in omega arith) in
      grind (arith, nat_tests)
  from_item s (i ∷ items) x rise (inr m) e =
      let k = rise.0 x m in let rest = from_item s items x rise.1 m e in grind (arith, nat_tests)

-- An undamaged page of a tree, step by step.
module _ (file : List ℕ) (r : Reference) (kind : TreeKind) (v : View) (role : tree_kind (role_of r) ≡ Some kind) (viewed : tree_view file r ≡ Some v) where
  items_are : (story_of file).items r ≡ page_items r kind (Some v)
  items_are = tree_items file r kind (Some v) role viewed

  rising : AreRising (page_items r kind (Some v))
  rising = subst (λ is. AreRising is) items_are ((is_story file).rising r)

  -- the number of a cell's left child, and that of the right child
  left_number : (n : ℕ) (x : Cell) → n < count v → cell v n ≡ Ok x → child_number v n ≡ x.left
  left_number n x l e = grind (arith, nat_tests)

  right_number : child_number v (count v) ≡ right_child v
  right_number = grind (arith, nat_tests)

  -- what is at a step with an item
  data IsItem (s : ℕ) : Type 0 where
    of_overflow : (n : ℕ) (x : Cell) (p : ℕ) → n < count v → cell v n ≡ Ok x → x.overflow ≡ Some p → s ≡ overflow_step n → IsItem s
    of_child : (n p : ℕ) → n ≤ count v → child_number v n ≡ Some p → s ≡ child_step n → IsItem s
    of_key : (n : ℕ) (x : Cell) → n < count v → cell v n ≡ Ok x → s ≡ key_step n → IsItem s

  listed : {X Y : Type 0} (f : X → Y) (o : Option X) (y : Y) → IsIn y (option_to_list (option_map f o)) → (x : X) × (o ≡ Some x) × (y ≡ f x)
  listed f None y h = absurd h
  listed f (Some x) y (inl e) = (x, refl, e)
  listed f (Some x) y (inr h) = absurd h

  item_from : (i : PageStep Way Event) → IsIn i (page_items r kind (Some v)) → IsItem (step_of i)
  item_from i h = elim (IsIn-cases i (flat_map (cell_items r kind v) (cells v)) (map Follow (right_links r.page kind v)) h) [
    | inl k ↦ (let m = IsIn-from_flat_map (cell_items r kind v) (cells v) i k in of_cell m.0.0 m.0.1 (cells_from v m.0 m.1) m.2)
    | inr k ↦ (let m = IsIn-from_map Follow (right_links r.page kind v) i k in
        let n = listed (link r.page (child_step (count v)) (count v) (child kind)) (right_child v) m.0 m.1 in
        of_child (count v) n.0 (omega arith) (right_number ∙ n.1) (ap step_of (m.2 ∙ ap Follow n.2)))
  ]
    where
      of_cell : (n : ℕ) (x : Cell) → (cell v n ≡ Ok x) × (n < count v) → IsIn i (cell_items r kind v (n, x)) → IsItem (step_of i)
      of_cell n x read k = elim (IsIn-cases i (map Follow (cell_links r.page kind (n, x))) (Place (key_step n) (at_key r v (n, x)) ∷ []) k) [
        | inl j ↦ (let m = IsIn-from_map Follow (cell_links r.page kind (n, x)) i j in
            elim (IsIn-cases m.0 (option_to_list (option_map (link r.page (overflow_step n) n (first_overflow (overflow_size x))) x.overflow))
            (option_to_list (option_map (link r.page (child_step n) n (child kind)) x.left)) m.1) [
              | inl q ↦ (let w = listed (link r.page (overflow_step n) n (first_overflow (overflow_size x))) x.overflow m.0 q in
                  of_overflow n x w.0 read.1 read.0 w.1 (ap step_of (m.2 ∙ ap Follow w.2)))
              | inr q ↦ (let w = listed (link r.page (child_step n) n (child kind)) x.left m.0 q in
                  of_child n w.0 (omega (arith, read.1)) (left_number n x read.1 read.0 ∙ w.1) (ap step_of (m.2 ∙ ap Follow w.2)))
            ])
        | inr j ↦ (elim j [ inl e ↦ of_key n x read.1 read.0 (ap step_of e) | inr z ↦ absurd z ])
      ]

  in_cell : (n : ℕ) (x : Cell) (i : PageStep Way Event) → n < count v → cell v n ≡ Ok x → IsIn i (cell_items r kind v (n, x))
      → IsIn i (page_items r kind (Some v))
  in_cell n x i l e h = IsIn-left i (flat_map (cell_items r kind v) (cells v)) (map Follow (right_links r.page kind v))
      (IsIn-flat_map (cell_items r kind v) (cells v) (n, x) i (cells_in v n x l e) h)

  next_item : (s : ℕ) (i : PageStep Way Event) → IsIn i (page_items r kind (Some v)) → step_of i ≡ s → errands_from file r s
      ≡ errands_at r.address (i ∷ from (suc s) (page_items r kind (Some v)))
  next_item s i h e = ap (λ is. errands_at r.address (from s is)) items_are
      ∙ ap (λ is. errands_at r.address is) (from_item s (page_items r kind (Some v)) i rising h e)

  no_item : (s : ℕ) → (IsItem s → ⊥) → errands_from file r s ≡ errands_from file r (suc s)
  no_item s h = ap (λ is. errands_at r.address (from s is)) items_are
      ∙ ap (λ is. errands_at r.address is) (from_none s (page_items r kind (Some v)) (λ i k e. h (subst IsItem e (item_from i k))))
      ∙ ap (λ is. errands_at r.address (from (suc s) is)) (sym items_are)

  behind : (s : ℕ) → errands_at r.address (from s (page_items r kind (Some v))) ≡ errands_from file r s
  behind s = ap (λ is. errands_at r.address (from s is)) (sym items_are)

  -- from the first step on there is all
  pub from_first : errands_from file r 0 ≡ errands_of (story_of file) r
  from_first = ap (λ is. errands_at r.address is) (from_all 0 ((story_of file).items r) (λ i h. omega arith))

  -- the overflow chain of a cell
  pub step_chain : (n : ℕ) (x : Cell) (p : ℕ) → n < count v → cell v n ≡ Ok x → x.overflow ≡ Some p
      → errands_from file r (overflow_step n) ≡ go r (link r.page (overflow_step n) n (first_overflow (overflow_size x)) p)
      ∷ errands_from file r (suc (overflow_step n))
  step_chain n x p l e f =
      let k = link r.page (overflow_step n) n (first_overflow (overflow_size x)) p in
      next_item (overflow_step n) (Follow k)
      (in_cell n x (Follow k) l e (IsIn-left (Follow k) (map Follow (cell_links r.page kind (n, x))) _ (IsIn-map Follow (cell_links r.page kind (n, x)) k
      (IsIn-left k (option_to_list (option_map (link r.page (overflow_step n) n (first_overflow (overflow_size x))) x.overflow)) _
      (is_listed (option_map (link r.page (overflow_step n) n (first_overflow (overflow_size x))) x.overflow) k
      (ap (option_map (link r.page (overflow_step n) n (first_overflow (overflow_size x)))) f)))))) refl
      ∙ ap (λ es. go r k ∷ es) (behind (suc (overflow_step n)))

  -- the place of a cell's key
  pub step_key : (n : ℕ) (x : Cell) → n < count v → cell v n ≡ Ok x → errands_from file r (key_step n) ≡ report_cell r v n x
      ∷ errands_from file r (suc (key_step n))
  step_key n x l e =
      next_item (key_step n) (Place (key_step n) (at_key r v (n, x)))
      (in_cell n x (Place (key_step n) (at_key r v (n, x))) l e
      (IsIn-right (Place (key_step n) (at_key r v (n, x))) (map Follow (cell_links r.page kind (n, x))) _ (inl refl))) refl
      ∙ ap (λ es. report_cell r v n x ∷ es) (behind (suc (key_step n)))

  -- a child
  child_item : (n p : ℕ) → n ≤ count v → child_number v n ≡ Some p
      → IsIn (Follow (link r.page (child_step n) n (child kind) p)) (page_items r kind (Some v))
  child_item n p l e = elim (cases_Bool (n == count v)) [
    | inl b ↦ (let m : n ≡ count v = eqb-true n (count v) b in
        let k = link r.page (child_step (count v)) (count v) (child kind) p in
        subst (λ n. IsIn (Follow (link r.page (child_step n) n (child kind) p)) (page_items r kind (Some v))) (sym m)
        (IsIn-right (Follow k) (flat_map (cell_items r kind v) (cells v)) (map Follow (right_links r.page kind v))
        (IsIn-map Follow (right_links r.page kind v) k (is_listed (option_map (link r.page (child_step (count v)) (count v) (child kind)) (right_child v)) k
        (ap (option_map (link r.page (child_step (count v)) (count v) (child kind))) (sym right_number ∙ ap (child_number v) (sym m) ∙ e))))))
    | inr b ↦ (let low : n < count v = grind (arith, nat_tests) in
        let x : (x : Cell) × (cell v n ≡ Ok x) × (x.left ≡ Some p) = readable_left n p (cell v n) refl (grind (arith, nat_tests)) in
        let k = link r.page (child_step n) n (child kind) p in
        in_cell n x.0 (Follow k) low x.1 (IsIn-left (Follow k) (map Follow (cell_links r.page kind (n, x.0))) _
        (IsIn-map Follow (cell_links r.page kind (n, x.0)) k
        (IsIn-right k (option_to_list (option_map (link r.page (overflow_step n) n (first_overflow (overflow_size x.0))) x.0.overflow)) _
        (is_listed (option_map (link r.page (child_step n) n (child kind)) x.0.left) k (ap (option_map (link r.page (child_step n) n (child kind))) x.2))))))
  ]
    where
      readable_left : (n p : ℕ) (c : Result Cell CellFault) → cell v n ≡ c → option_and_then (λ c. c.left) (result_ok c) ≡ Some p
          → (x : Cell) × (cell v n ≡ Ok x) × (x.left ≡ Some p)
      readable_left n p (Ok x) f e = (x, f, e)
      readable_left n p (Err b) f e = cc

  -- after the right child there is nothing
  pub step_end : (s : ℕ) → child_step (count v) < s → errands_from file r s ≡ []
  step_end s l = ap (λ is. errands_at r.address (from s is)) items_are
      ∙ ap (λ is. errands_at r.address is) (from_end s (page_items r kind (Some v)) (λ i h. low (item_from i h)))
    where
      low : {t : ℕ} → IsItem t → t < s
      low (of_overflow n x p m e f g) = omega arith
      low (of_child n p m e g) = omega arith
      low (of_key n x m e g) = omega arith

  -- no chain
  pub step_no_chain : (n : ℕ) → ((x : Cell) → n < count v → cell v n ≡ Ok x → x.overflow ≡ None) → errands_from file r (overflow_step n)
      ≡ errands_from file r (suc (overflow_step n))
  step_no_chain n none = no_item (overflow_step n) no_chain
    where
      no_chain : IsItem (overflow_step n) → ⊥
      no_chain (of_overflow m x p l e f g) = let k : m ≡ n = omega arith in
          let y : Some p ≡ None = sym f ∙ none x (omega arith) (ap (cell v) (sym k) ∙ e) in cc
      no_chain (of_child m p l e g) = omega arith
      no_chain (of_key m x l e g) = omega arith

  -- no key
  pub step_no_key : (n : ℕ) (e : CellFault) → cell v n ≡ Err e → errands_from file r (key_step n) ≡ errands_from file r (suc (key_step n))
  step_no_key n e bad = no_item (key_step n) no_key
    where
      no_key : IsItem (key_step n) → ⊥
      no_key (of_overflow m x p l f g q) = omega arith
      no_key (of_child m p l f q) = omega arith
      no_key (of_key m x l f q) = let k : m ≡ n = omega arith in let y : Ok x ≡ Err e = sym (ap (cell v) (sym k) ∙ f) ∙ bad in cc

  -- no child
  pub step_no_child : (n : ℕ) → child_number v n ≡ None → errands_from file r (child_step n) ≡ errands_from file r (suc (child_step n))
  step_no_child n none = no_item (child_step n) no_child
    where
      no_child : IsItem (child_step n) → ⊥
      no_child (of_overflow m x p l f g q) = omega arith
      no_child (of_child m p l f q) = let k : m ≡ n = omega arith in
          let y : Some p ≡ None = sym f ∙ ap (child_number v) k ∙ none in cc
      no_child (of_key m x l f q) = omega arith

-- frames

module _ (file : List ℕ) (kind : TreeKind) where
  pub left-push : (c : Reference) (fs : List StackFrame) (f : StackFrame) → left_over file kind c (fs ++ (f ∷ []))
      ≡ errands_from file (top_visit file kind c fs) f.next ++ left_over file kind c fs
  left-push c [] f = sym (append-nil (errands_from file c f.next))
  left-push c (g ∷ fs) f =
      ap (λ es. es ++ errands_from file c g.next) (left-push (child_at file kind c (g.next - 1)) fs f)
      ∙ append_assoc (errands_from file (top_visit file kind (child_at file kind c (g.next - 1)) fs) f.next)
      (left_over file kind (child_at file kind c (g.next - 1)) fs) (errands_from file c g.next)

  pub top-push : (c : Reference) (fs : List StackFrame) (f : StackFrame) → top_visit file kind c (fs ++ (f ∷ []))
      ≡ child_at file kind (top_visit file kind c fs) (f.next - 1)
  top-push c [] f = refl
  top-push c (g ∷ fs) f = top-push (child_at file kind c (g.next - 1)) fs f

  pub top_kind : (c : Reference) (fs : List StackFrame) → tree_kind (role_of c) ≡ Some kind → tree_kind (role_of (top_visit file kind c fs)) ≡ Some kind
  top_kind c [] e = e
  top_kind c (f ∷ fs) e = top_kind (child_at file kind c (f.next - 1)) fs refl

-- A child of an undamaged page.
module _ (file : List ℕ) (r : Reference) (kind : TreeKind) (v : View) (role : tree_kind (role_of r) ≡ Some kind) (viewed : tree_view file r ≡ Some v) where
  cell_is : (n : ℕ) → cell_of_step (child_step n) ≡ n
  cell_is n = omega arith

  child_is : (n p : ℕ) → child_number v n ≡ Some p → go r (link r.page (child_step n) n (child kind) p) ≡ Go (child_at file kind r (child_step n))
  child_is n p e =
      let page : p ≡ child_page file r (cell_of_step (child_step n)) =
      sym (ap (λ i. child_page file r i) (cell_is n) ∙ ap (λ o. option_map_or (λ v. unwrap_or (child_number v n) 0) o 0) viewed ∙ ap (λ o. unwrap_or o 0) e)
      in
      ap (λ q. Go (record { address = then_step r.address (child_step n); page = q; role = record { role = child kind; from = r.page; item = n } })) page
      ∙ ap (λ i. Go (record {
        address = then_step r.address (child_step n);
        page = child_page file r (cell_of_step (child_step n));
        role = record { role = child kind; from = r.page; item = i };
      })) (sym (cell_is n))

  -- a child that is there is the next errand
  pub step_child : (n p : ℕ) → n ≤ count v → child_number v n ≡ Some p
      → errands_from file r (child_step n) ≡ Go (child_at file kind r (child_step n)) ∷ errands_from file r (suc (child_step n))
  step_child n p l e =
      next_item file r kind v role viewed (child_step n) (Follow (link r.page (child_step n) n (child kind) p)) (child_item file r kind v role viewed n p l e)
      refl ∙ ap (λ es. go r (link r.page (child_step n) n (child kind) p) ∷ es) (behind file r kind v role viewed (suc (child_step n)))
      ∙ ap (λ g. g ∷ errands_from file r (suc (child_step n))) (child_is n p e)
