-- A visited interior page is a tree, where its children are.
use Rattle.std.proofs.Common.{◌≡◌, ℕ, suc, ◌+◌, ◌*◌, ◌≤◌, inl, inr, Bool, true, cond, List, [], ◌∷◌, ◌++◌, map, Option, Some, None, ℤ, refl, sym, ap, subst}
use Rattle.std.proofs.Common.{◌∙◌, arith, append_assoc, length-append}
use Rattle.std.specs.Prelude.{flat_map, option_map, option_to_list}
use Rattle.std.proofs.lemmas.List.{map-append}
use Rattle.std.proofs.lemmas.Grind.{flat_map-append}
use Rattle.dbsound.proofs.Common.{IsIn, Address, Link, children, overflow_step, child_step, key_step, depth, View, is_interior, right_number, Cell, cells}
use Rattle.dbsound.proofs.Common.{count, overflow_size, right_child, child, first_overflow, Way, Reference, role_of, from_of, link, cell_links, right_links}
use Rattle.dbsound.proofs.Common.{page_links, Survey, rules_of, walk_faults, Use, Tree, interior, Children, right_only, IsUpTo, role_in_tree, use_as, TreeKind}
use Rattle.dbsound.proofs.Common.{below, use_of, view_payloads, cell_payload, leaf_payloads}
use Rattle.dbsurvey.proofs.Order.{IsIn-left, IsIn-right}
use Rattle.dbsurvey.proofs.Ordering.{IsIn-flat_map}
use Rattle.dbformat.specs.Terms.{and_left}
use Rattle.dbformat.proofs.Cells.{RiseFrom, cells_rise, cells-from, is_of_kind}
use Rattle.dbsound.proofs.FaultlessSurveys.TreePages.{IsTreePage}
use Rattle.dbsound.proofs.FaultlessSurveys.CellChains.{at_step, payload_at}
use Rattle.dbsound.proofs.FaultlessSurveys.PageParts.{left_part, cell_part, below_page}
use Rattle.dbsound.proofs.FaultlessSurveys.Keys.{low-none, has_key, above_cell, up_to_cell}
use Rattle.dbsound.proofs.FaultlessSurveys.Leaves.{AreLow, AreHigh, HasTree, with_parts}
use Rattle.dbformat.proofs.CellParts.{second}
use Rattle.dbsurvey.proofs.Composing.{IsIn-named}
use Rattle.dbformat.proofs.Visited.{has_address}
use Rattle.dbformat.proofs.Places.{cell_key}

with_child_parts : {file : List ℕ} {p : ℕ} {kind : TreeKind} {height : ℕ} {low high : Option ℤ} {cs : List Cell} {right : ℕ} {uses uses' : List Use}
    {payloads payloads' : List (List ℕ)}
    → uses ≡ uses' → payloads ≡ payloads' → Children file p kind height low high cs right uses payloads
    → Children file p kind height low high cs right uses' payloads'
with_child_parts {file} {p} {kind} {height} {low} {high} {cs} {right} {uses} {uses'} {payloads} e f t =
    subst (Children file p kind height low high cs right uses') f (subst (λ us. Children file p kind height low high cs right us payloads) e t)

up_to_none : (o : Option ℤ) → IsUpTo o None
up_to_none None = tt
up_to_none (Some k) = tt

-- a cell's chain C, what is below its left child L, and the rest
three_uses : (C L F R : List Reference) → (map use_of C ++ map use_of L) ++ map use_of (F ++ R) ≡ map use_of (((C ++ L) ++ F) ++ R)
three_uses C L F R = ap (λ l. l ++ map use_of (F ++ R)) (sym (map-append use_of C L)) ∙ sym (map-append use_of (C ++ L) (F ++ R))
    ∙ ap (map use_of) (sym (append_assoc (C ++ L) F R))

three_payloads : (lp : Reference → List (List ℕ)) (C L F R : List Reference) → flat_map lp C ≡ []
    → flat_map lp L ++ flat_map lp (F ++ R) ≡ flat_map lp (((C ++ L) ++ F) ++ R)
three_payloads lp C L F R e =
    ap (λ l. (l ++ flat_map lp L) ++ flat_map lp (F ++ R)) (sym e)
    ∙ ap (λ l. l ++ flat_map lp (F ++ R)) (sym (flat_map-append lp C L))
    ∙ sym (flat_map-append lp (C ++ L) (F ++ R))
    ∙ ap (flat_map lp) (sym (append_assoc (C ++ L) F R))

right-from : (v : View) → is_interior v.kind ≡ true → right_child v ≡ Some (right_number v.number v.bytes)
right-from v e = rw e refl

module _ (file : List ℕ) (V : List Reference) (s : Survey file V) (faultless : walk_faults file V ≡ []) where
  -- keys below a child are keys at the page, at the child's step
  lows_at : (low : Option ℤ) (a : Address) (first step : ℕ) → first ≤ step → AreLow file V low a first → AreLow file V low (a ++ (step ∷ [])) 0
  lows_at low a first step h lows k is_key next b f at = lows k is_key step (next ∷ b) h (at ∙ append_assoc a (step ∷ []) (next ∷ b))

  highs_at : (high : Option ℤ) (a : Address) (step : ℕ) → AreHigh file V high a → AreHigh file V high (a ++ (step ∷ []))
  highs_at high a step highs k is_key next b at = highs k is_key step (next ∷ b) (at ∙ append_assoc a (step ∷ []) (next ∷ b))

  module _ (D : ℕ) (r : Reference) (i : IsIn r V) (kind : TreeKind) (is_child : Bool) (role_is : role_of r ≡ role_in_tree is_child kind) (v : View)
      (page : IsTreePage file V r kind is_child v) (inner : is_interior v.kind ≡ true)
      (sub : (q : Reference) → IsIn q (children (rules_of file) r) → role_of q ≡ child kind → (low high : Option ℤ) → AreLow file V low q.address 0
      → AreHigh file V high q.address → HasTree file V D kind true q low high) where
    -- the child at a step, from an item
    abbrev child_page : ℕ → ℕ → Reference
    child_page item p = record { address = r.address ++ (child_step item ∷ []); page = p; role = record { role = child kind; from = r.page; item = item } }

    abbrev child_link : ℕ → ℕ → Link Way
    child_link item p = link r.page (child_step item) item (child kind) p

    named : (item p : ℕ) → IsIn (child_link item p) (page_links r.page kind (Some v)) → IsIn (child_page item p) (children (rules_of file) r)
    named item p j = subst (IsIn (child_page item p)) (sym page.links_are) (IsIn-named r.address (page_links r.page kind (Some v)) (child_link item p) j)

    left_named : (x : ℕ × Cell) (left : ℕ) → IsIn x (cells v) → x.1.left ≡ Some left → IsIn (child_page x.0 left) (children (rules_of file) r)
    left_named x left j e = named x.0 left (IsIn-left (child_link x.0 left) (flat_map (cell_links r.page kind) (cells v)) (right_links r.page kind v)
        (IsIn-flat_map (cell_links r.page kind) (cells v) x (child_link x.0 left) j (in_cell x e)))
      where
        in_cell : (x : ℕ × Cell) → x.1.left ≡ Some left → IsIn (child_link x.0 left) (cell_links r.page kind x)
        in_cell (n, c) e = IsIn-right (child_link n left) (option_to_list
            (option_map (link r.page (overflow_step n) n (first_overflow (overflow_size c))) c.overflow))
            (option_to_list (option_map (link r.page (child_step n) n (child kind)) c.left)) (rw e (inl refl))

    abbrev right_page : ℕ
    right_page = right_number v.number v.bytes

    right_named : IsIn (child_page (count v) right_page) (children (rules_of file) r)
    right_named = named (count v) right_page (IsIn-right (child_link (count v) right_page) (flat_map (cell_links r.page kind) (cells v))
        (right_links r.page kind v)
        (subst (λ o. IsIn (child_link (count v) right_page) (option_to_list (option_map (link r.page (child_step (count v)) (count v) (child kind)) o)))
        (sym (right-from v inner)) (inl refl)))

    -- what is below the right child
    abbrev right_below : List Reference
    right_below = at_step V r.address (child_step (count v))

    below_interior : below V r.address ≡ r ∷ (flat_map (cell_part V r.address) (cells v) ++ right_below)
    below_interior = below_page file V s faultless r i kind is_child v page
        ∙ ap (λ b. r ∷ (flat_map (cell_part V r.address) (cells v) ++ cond b right_below [])) inner

    -- a child's tree has the height h of the others
    level : (h : ℕ) (item p : ℕ) (low high : Option ℤ) → suc D ≡ suc h + depth r.address → HasTree file V D kind true (child_page item p) low high
        → Tree file true r.page p kind h low high (map use_of (at_step V r.address (child_step item)))
        (flat_map (leaf_payloads file V) (at_step V r.address (child_step item)))
    level h item p low high high_is t =
        let long = length-append r.address (child_step item ∷ []) in
        let e : t.0 ≡ h = let k = t.1 in omega arith in
        subst (λ h. Tree file true r.page p kind h low high (map use_of (at_step V r.address (child_step item)))
        (flat_map (leaf_payloads file V) (at_step V r.address (child_step item)))) e t.2

    low_to_cell : (low : Option ℤ) (n : ℕ) (x : ℕ × Cell) → IsIn x (cells v) → n ≤ x.0 → AreLow file V low r.address (3 * n) → IsUpTo low x.1.key
    low_to_cell low n x j h lows = by_case x.1.key refl
      where
        by_case : (o : Option ℤ) → x.1.key ≡ o → IsUpTo low o
        by_case None e = up_to_none low
        by_case (Some value) e = (lows (cell_key r v x.0 value) (has_key file V s faultless r i (has_address file V s r i) v page.view_is x value j e)
            (key_step x.0) [] (omega arith) refl).from

    cell_to_high : (high : Option ℤ) (x : ℕ × Cell) → IsIn x (cells v) → AreHigh file V high r.address → IsUpTo x.1.key high
    cell_to_high high x j highs = by_case x.1.key refl
      where
        by_case : (o : Option ℤ) → x.1.key ≡ o → IsUpTo o high
        by_case None e = tt
        by_case (Some value) e = highs (cell_key r v x.0 value) (has_key file V s faultless r i (has_address file V s r i) v page.view_is x value j e)
            (key_step x.0) [] refl

    children_at : (h : ℕ) → suc D ≡ suc h + depth r.address → (low high : Option ℤ) (n : ℕ) (xs : List (ℕ × Cell))
        → ((x : ℕ × Cell) → IsIn x xs → IsIn x (cells v)) → RiseFrom n xs → n ≤ count v
        → AreLow file V low r.address (3 * n) → AreHigh file V high r.address
        → Children file r.page kind h low high (second xs) right_page (map use_of (flat_map (cell_part V r.address) xs ++ right_below))
        (flat_map (leaf_payloads file V) (flat_map (cell_part V r.address) xs ++ right_below))
    children_at h high_is low high n [] all rise few lows highs =
        right_only (level h (count v) right_page low high high_is (sub (child_page (count v) right_page) right_named refl low high
        (lows_at low r.address (3 * n) (child_step (count v)) (omega arith) lows) (highs_at high r.address (child_step (count v)) highs)))
    children_at h high_is low high n (x ∷ xs) all rise few lows highs =
        let j = all x (inl refl) in
        let a = r.address in
        let first = rise.0 in
        let less = (cells-from v x j).1 in
        let left = (is_of_kind v x j).interior inner in
        let same : at_step V a (child_step x.0) ≡ left_part V a x.0 x.1.left = sym (ap (left_part V a x.0) left.1) in
        let chain = payload_at file V s faultless r i kind is_child v page x j in
        let tree = level h x.0 left.0 low x.1.key high_is (sub (child_page x.0 left.0) (left_named x left.0 j left.1) refl low x.1.key
        (lows_at low a (3 * n) (child_step x.0) (omega arith) lows)
        (λ k is_key next b at. up_to_cell file V s faultless r i (has_address file V s r i) v page.view_is x j k is_key (child_step x.0) (next ∷ b)
        (at ∙ append_assoc a (child_step x.0 ∷ []) (next ∷ b)) inner (omega arith))) in
        let rest = children_at h high_is x.1.key high (suc x.0) xs (λ y k. all y (inr k)) rise.1 (omega arith)
        (λ k is_key step b f at. above_cell file V s faultless r i (has_address file V s r i) v page.view_is x j k is_key step b at (omega arith)) highs in
        with_child_parts
        (three_uses (at_step V a (overflow_step x.0)) (left_part V a x.0 x.1.left) (flat_map (cell_part V a) xs) right_below)
        (three_payloads (leaf_payloads file V) (at_step V a (overflow_step x.0)) (left_part V a x.0 x.1.left) (flat_map (cell_part V a) xs) right_below chain.1)
        (and_left chain.0 left.1 (low_to_cell low n x j first lows) (cell_to_high high x j highs)
        (with_parts (ap (map use_of) same) (ap (flat_map (leaf_payloads file V)) same) tree) rest)

    pub interior_at : (low high : Option ℤ) → AreLow file V low r.address 0 → AreHigh file V high r.address → HasTree file V D kind is_child r low high
    interior_at low high lows highs =
        let t = sub (child_page (count v) right_page) right_named refl None None (λ k is_key step b f at. low-none k) (λ k is_key step b at. tt) in
        let long = length-append r.address (child_step (count v) ∷ []) in
        let h_is : suc D ≡ suc t.0 + depth r.address = let k = t.1 in omega arith in (
          suc t.0,
          h_is,
          with_parts
              (ap (λ role. use_as role (from_of r) r.page ∷ map use_of (flat_map (cell_part V r.address) (cells v) ++ right_below)) (sym role_is)
              ∙ sym (ap (map use_of) below_interior))
              (sym (ap (flat_map (leaf_payloads file V)) below_interior
              ∙ ap (λ o. view_payloads file V r o ++ flat_map (leaf_payloads file V) (flat_map (cell_part V r.address) (cells v) ++ right_below)) page.view_is
              ∙ ap (λ b. cond b [] (map (cell_payload file V r) (cells v))
              ++ flat_map (leaf_payloads file V) (flat_map (cell_part V r.address) (cells v) ++ right_below)) inner))
              (interior v page.whole (right-from v inner) (children_at t.0 h_is low high 0 (cells v) (λ x j. j) (cells_rise v) (omega arith) lows highs)),
        )
