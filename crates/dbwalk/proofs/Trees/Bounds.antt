-- The key of the innermost cell whose left child leads to a page, by the frames above it.
use Rattle.std.proofs.Common.{◌≡◌, ℕ, ℤ, ◌-◌, Bool, false, cond, not, ◌&&◌, inl, inr, List, [], ◌∷◌, ◌++◌, length, map, drop, take, Option, Some, None}
use Rattle.std.proofs.Common.{refl, Result, sym, ap, ◌∙◌, append_assoc, arith, find, option_and_then}
use Rattle.dbwalk.proofs.Common.{IsIn, Address, IsBefore, Go, cell_of_step, start_of, then_step, child_number, page_bytes, View, if_of_tree}
use Rattle.dbwalk.proofs.Common.{undamaged, view, usable_size, Reference, role_of, tree_kind, tree_view, TreeKind, is_same, key_from, key_up_to}
use Rattle.dbwalk.proofs.Common.{left_key, root_of, IsNext, AreOpenFrames, child_at, top_visit, StackFrame, unwrap_or, option_map_or, option_or, result_ok}
use Rattle.dbwalk.proofs.Common.{append-nil}
use Rattle.std.proofs.lemmas.List.Folds.{find-append}
use Rattle.dbsurvey.specs.InOrder.{is_before}
use Rattle.dbsurvey.proofs.Order.{IsBefore-beginning}
use Rattle.dbsurvey.proofs.Ordering.{is_before-from, is_before-itself}
use Rattle.dbformat.specs.declared.HeadFault.{HeadFault}
use Rattle.dbtrace.specs.Causes.{bound_along, sound_page}
use Rattle.dbwalk.proofs.Pages.PageReportings.{view_is}

-- an undamaged page has a sound head
pub sound_in : (file : List ℕ) (kind : TreeKind) (p : ℕ) (v : View) → undamaged kind p (usable_size file) (page_bytes file p) ≡ Some v
    → sound_page file p ≡ Some v
sound_in file kind p v h = by_view (view p (usable_size file) (page_bytes file p)) h
  where
    by_view : (w : Result View HeadFault) → if_of_tree kind w ≡ Some v → result_ok w ≡ Some v
    by_view w e = grind arith

-- the root

-- it stays the root of its tree
pub root_stays : (V T : List Reference) (a : Address) (c : Reference) → root_of V a ≡ Some c → root_of (V ++ T) a ≡ Some c
root_stays V T a c e = find-append (λ u. is_same u.address (take 1 a)) V T ∙ ap (λ o. option_or o (find (λ u. is_same u.address (take 1 a)) T)) e

pub root_address : (a : Address) (k : ℕ) → length a ≡ 1 → start_of a ≡ k → a ≡ k ∷ []
root_address [] k l s = absurd (omega arith)
root_address (x ∷ []) k l s = ap (λ y. y ∷ []) s
root_address (x ∷ y ∷ a) k l s = absurd (omega arith)

-- an address of one step
one_step : (a : Address) → length a ≡ 1 → (take 1 a ≡ a) × (drop 1 a ≡ [])
one_step [] e = absurd (omega arith)
one_step (x ∷ []) e = (refl, refl)
one_step (x ∷ y ∷ a) e = absurd (omega arith)

-- a reference is the first at its address, where all visits are before it
pub first_here : (W : List Reference) (c : Reference) → ((u : Reference) → IsIn u W → IsBefore u.address c.address)
    → find (λ u. is_same u.address c.address) (W ++ (c ∷ [])) ≡ Some c
first_here [] c before = ap (λ b. cond (not b && not b) (Some c) None) (is_before-itself c.address)
first_here (u ∷ W) c before = ap (λ b. cond (not b && not (is_before c.address u.address)) (Some u) (find (λ u. is_same u.address c.address) (W ++ (c ∷ []))))
    (is_before-from u.address c.address (before u (inl refl))) ∙ first_here W c (λ v i. before v (inr i))

-- so is a root
pub root_first : (W : List Reference) (c : Reference) → length c.address ≡ 1 → IsNext W c → root_of (W ++ (c ∷ [])) c.address ≡ Some c
root_first W c one next = ap (λ a. find (λ u. is_same u.address a) (W ++ (c ∷ []))) (one_step c.address one).0
    ∙ first_here W c (λ u i. next u (Go c) i (inl refl))

-- no cell leads to it
pub no_key_from : (file : List ℕ) (root c : Reference) → length c.address ≡ 1 → key_from file root c ≡ None
no_key_from file root c one = ap (bound_along file None (sound_page file root.page)) (one_step c.address one).1

pub no_key_up_to : (file : List ℕ) (V : List Reference) (c : Reference) → length c.address ≡ 1 → key_up_to file V c ≡ None
no_key_up_to file V c one = by_root (root_of V c.address)
  where
    by_root : (o : Option Reference) → option_and_then (λ root. key_from file root c) o ≡ None
    by_root None = refl
    by_root (Some root) = no_key_from file root c one

-- the reference itself changes nothing: no cell leads to a root, and no other page is at the address of one
pub key_up_to_itself : (file : List ℕ) (V : List Reference) (c : Reference) → key_up_to file (V ++ (c ∷ [])) c ≡ key_up_to file V c
key_up_to_itself file V c = by_address c.address refl
  where
    along : Address → Option Reference → Option ℤ
    along a o = option_and_then (λ root. bound_along file None (sound_page file root.page) (drop 1 a)) o

    nothing : (a : Address) → drop 1 a ≡ [] → (o : Option Reference) → along a o ≡ None
    nothing a e o = grind arith

    short : (a : Address) → drop 1 a ≡ [] → c.address ≡ a → key_up_to file (V ++ (c ∷ [])) c ≡ key_up_to file V c
    short a none e =
        let d : drop 1 c.address ≡ [] = ap (drop 1) e ∙ none in
        nothing c.address d (root_of (V ++ (c ∷ [])) c.address) ∙ sym (nothing c.address d (root_of V c.address))

    by_address : (a : Address) → c.address ≡ a → key_up_to file (V ++ (c ∷ [])) c ≡ key_up_to file V c
    by_address [] e = short [] refl e
    by_address (x ∷ []) e = short (x ∷ []) refl e
    by_address (x ∷ y ∷ a) e = ap (option_and_then (λ root. key_from file root c))
        (find-append is_root V (c ∷ []) ∙ ap (λ b. option_or (find is_root V) (cond b (Some c) None)) other ∙ alone (find is_root V))
      where
        is_root : Reference → Bool
        is_root u = is_same u.address (take 1 c.address)

        other : is_root c ≡ false
        other = ap (λ a. is_same a (take 1 a)) e
            ∙ by_both (not (is_before (x ∷ y ∷ a) (x ∷ [])))
            (ap not (is_before-from (x ∷ []) (x ∷ y ∷ a) (IsBefore-beginning (x ∷ []) y a)))
          where
            by_both : (b : Bool) {d : Bool} → d ≡ false → (b && d) ≡ false
            by_both b f = grind arith

        alone : (o : Option Reference) → option_or o None ≡ o
        alone o = grind arith

-- the pages below it
module _ (file : List ℕ) (kind : TreeKind) where
  abbrev steps_of : List StackFrame → List ℕ
  steps_of fs = map (λ f. f.next - 1) fs

  top_address : (r : Reference) (fs : List StackFrame) → (top_visit file kind r fs).address ≡ r.address ++ steps_of fs
  top_address r [] = sym (append-nil r.address)
  top_address r (f ∷ fs) = top_address (child_at file kind r (f.next - 1)) fs ∙ append_assoc r.address ((f.next - 1) ∷ []) (steps_of fs)

  -- a step to a child of an undamaged page
  module _ (r : Reference) (v : View) (role : tree_kind (role_of r) ≡ Some kind) (viewed : tree_view file r ≡ Some v) (s : ℕ) (bound : Option ℤ)
      (steps : List ℕ) where
    pub along_child : bound_along file bound (sound_page file r.page) (s ∷ steps)
        ≡ bound_along file (option_or (left_key v (cell_of_step s)) bound) (sound_page file (child_at file kind r s).page) steps
    along_child =
        ap (λ o. bound_along file bound o (s ∷ steps)) (sound_in file kind r.page v (sym (view_is file r kind role) ∙ viewed))
        ∙ ap (λ p. bound_along file (option_or (left_key v (cell_of_step s)) bound) (sound_page file p) steps)
        (sym (ap (λ o. option_map_or (λ v. unwrap_or (child_number v (cell_of_step s)) 0) o 0) viewed))

  -- the last step of some
  along_last : (root r : Reference) (fs : List StackFrame) → tree_kind (role_of r) ≡ Some kind → AreOpenFrames file kind root r fs → (s : ℕ) (bound : Option ℤ)
      → bound_along file bound (sound_page file r.page) (steps_of fs ++ (s ∷ []))
      ≡ bound_along file (bound_along file bound (sound_page file r.page) (steps_of fs)) (sound_page file (top_visit file kind r fs).page) (s ∷ [])
  along_last root r [] role frames s bound = refl
  along_last root r (f ∷ fs) role frames s bound =
      let v = frames.0.view in
      let below = option_or (left_key v (cell_of_step (f.next - 1))) bound in
      let d = child_at file kind r (f.next - 1) in
      along_child r v role frames.0.viewed (f.next - 1) bound (steps_of fs ++ (s ∷ []))
      ∙ along_last root d fs refl frames.1 s below
      ∙ ap (λ b. bound_along file b (sound_page file (top_visit file kind d fs).page) (s ∷ []))
      (sym (along_child r v role frames.0.viewed (f.next - 1) bound (steps_of fs)))

  module _ (k : ℕ) (c : Reference) (at : c.address ≡ k ∷ []) (fs : List StackFrame) where
    -- the steps after the start
    pub steps_to_top : (s : ℕ) → then_step (top_visit file kind c fs).address s ≡ k ∷ (steps_of fs ++ (s ∷ []))
    steps_to_top s = ap (λ a. then_step a s) (top_address c fs ∙ ap (λ a. a ++ steps_of fs) at)

    pub top_steps : (top_visit file kind c fs).address ≡ k ∷ steps_of fs
    top_steps = top_address c fs ∙ ap (λ a. a ++ steps_of fs) at

    -- the child at a step of the last page
    pub child_key : (v : View) (s : ℕ) → tree_kind (role_of c) ≡ Some kind → tree_kind (role_of (top_visit file kind c fs)) ≡ Some kind
        → AreOpenFrames file kind c c fs → tree_view file (top_visit file kind c fs) ≡ Some v
        → key_from file c (child_at file kind (top_visit file kind c fs) s) ≡ option_or (left_key v (cell_of_step s)) (key_from file c
        (top_visit file kind c fs))
    child_key v s role top_role frames viewed =
        let top = top_visit file kind c fs in
        ap (λ a. bound_along file None (sound_page file c.page) (drop 1 a)) (steps_to_top s)
        ∙ along_last c c fs role frames s None
        ∙ ap (λ b. bound_along file b (sound_page file top.page) (s ∷ []))
        (sym (ap (λ a. bound_along file None (sound_page file c.page) (drop 1 a)) top_steps))
        ∙ along_child top v top_role viewed s (key_from file c top) []

    -- by the visits so far, and the child's own
    pub child_up_to : (V : List Reference) (s : ℕ) → root_of V c.address ≡ Some c
        → let d = child_at file kind (top_visit file kind c fs) s in key_up_to file (V ++ (d ∷ [])) d ≡ key_from file c d
    child_up_to V s root =
        let d = child_at file kind (top_visit file kind c fs) s in
        ap (option_and_then (λ root. key_from file root d))
        (ap (λ a. find (λ u. is_same u.address a) (V ++ (d ∷ []))) (ap (take 1) (steps_to_top s) ∙ sym (ap (take 1) at))
        ∙ root_stays V (d ∷ []) c.address c root)
