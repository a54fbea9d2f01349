-- The rows of the schema are those that the payloads of its tree spell.
use Rattle.std.proofs.Common.{arith, ◌≡◌, ◌≢◌, ℕ, ◌+◌, ◌*◌, ◌≤◌, inl, inr, Bool, true, false, cond, Option, Some, Result, List, [], ◌∷◌, ◌++◌, map, length}
use Rattle.std.proofs.Common.{refl, sym, ap, subst, append_assoc, ◌∙◌, ℤ}
use Rattle.std.specs.Prelude.{flat_map, nat_eq, ◌==◌}
use Rattle.std.specs.List.{enumerate_from, starts_with}
use Rattle.std.proofs.lemmas.List.{append-nil, map-append}
use Rattle.std.proofs.lemmas.Grind.{flat_map-append}
use Rattle.dbsound.proofs.Common.{Address, usable_size, encoding, start_of, overflow_step, child_step, View, is_interior, Cell, cells, SchemaRow, schema_row}
use Rattle.dbsound.proofs.Common.{Reference, tree_view, SchemaCell, payload, schema_cell, leaf_rows, rows_at, Use, Payload, Payloads, none, more, role_in_tree}
use Rattle.dbsound.proofs.Common.{Tree, leaf, interior, Children, right_only, cells_of, RowFault, TreeKind, below}
use Rattle.dbformat.specs.Terms.{and_left}
use Rattle.dbformat.specs.declared.TreeKind.TheVariants as tree
use Rattle.dbsurvey.proofs.Each.{Each, Each-left, Each-right}
use Rattle.dbsurvey.proofs.Lists.{flat_map-none}
use Rattle.dbsound.proofs.TermVisits.{visit_at, payload_visits, payloads_visits, tree_visits, children_visits}
use Rattle.dbsound.proofs.TermVisits.Under.{IsFrom, payload_under, payloads_from, tree_under, children_from, all_begin, none_begin_from, none_begin_under}
use Rattle.dbsurvey.proofs.Beginnings.{begins-longer, not_begins}
use Rattle.dbsound.proofs.TermRows.Held.{held_in, IsLong, payload_held, payload_long}
use Rattle.dbformat.proofs.CellSizes.{leaf_sized, IsSized}
use Rattle.dbformat.proofs.PageCells.{has_right, has_all_cells}
use Rattle.dbsound.proofs.TermVisits.Depths.{IsNoTree, no_view, own_view, payload_no_tree, payloads_no_tree}
use Rattle.dbsurvey.proofs.WholeParts.{below-append}

-- what a row of the schema is taken as
abbrev pub row_of : SchemaCell → Result SchemaRow RowFault
row_of c = c.row

-- what a payload spells
abbrev pub spelled : List ℕ → List ℕ → Result SchemaRow RowFault
spelled file bytes = schema_row bytes (length bytes) (encoding file)

-- from step n of address a on, V has just what U has
abbrev pub HasHere : Address → ℕ → List Reference → List Reference → Type 0
HasHere a n V U = (s : ℕ) (rest : Address) → n ≤ s → below V (a ++ (s ∷ rest)) ≡ below U (a ++ (s ∷ rest))

step_less : (i s : ℕ) → 3 * (i + 1) ≤ s → overflow_step i ≢ s
step_less i s h e = omega arith

child_less : (i s : ℕ) → 3 * (i + 1) ≤ s → child_step i ≢ s
child_less i s h e = omega arith

chain_child : (i : ℕ) → overflow_step i ≢ child_step i
chain_child i e = omega arith

module _ (file : List ℕ) (V : List Reference) where
  row_is : {p : ℕ} {c : Cell} {uses : List Use} {bytes : List ℕ} (t : Payload file p c uses bytes) (i : ℕ) (a : Address) (U : List Reference)
      → HasHere a (3 * i) V (payload_visits t i a ++ U) → Each (IsFrom a (3 * (i + 1))) U → IsSized c → Each (IsLong file) (payload_visits t i a)
      → schema_row (payload file V a i c) c.size (encoding file) ≡ spelled file bytes
  unfolding payload
  row_is {c} {bytes} t i a U here later sized long =
      let chained : below V (a ++ (overflow_step i ∷ [])) ≡ payload_visits t i a = here (overflow_step i) [] (omega arith)
      ∙ below-append (payload_visits t i a) U (a ++ (overflow_step i ∷ []))
      ∙ ap (λ l. below (payload_visits t i a) (a ++ (overflow_step i ∷ [])) ++ l) (none_begin_from a (3 * (i + 1)) (overflow_step i) [] U (omega arith) later)
      ∙ append-nil (below (payload_visits t i a) (a ++ (overflow_step i ∷ [])))
      ∙ all_begin (a ++ (overflow_step i ∷ [])) (payload_visits t i a) (payload_under t i a) in
      let held : c.local ++ held_in file (below V (a ++ (overflow_step i ∷ []))) ≡ bytes = ap (λ l. c.local ++ held_in file l) chained ∙ payload_held t i a in
      ap (λ l. schema_row l c.size (encoding file)) held ∙ ap (λ n. schema_row bytes n (encoding file)) (sym (payload_long t i a sized long))

  leaf_rows_are : {p : ℕ} {cs : List Cell} {uses : List Use} {payloads : List (List ℕ)} (t : Payloads file p cs uses payloads) (i : ℕ) (r : Reference)
      → HasHere r.address (3 * i) V (payloads_visits t i r.address) → Each IsSized cs → Each (IsLong file) (payloads_visits t i r.address)
      → map row_of (map (schema_cell file V r) (enumerate_from i cs)) ≡ map (spelled file) payloads
  leaf_rows_are none i r here sized long = refl
  leaf_rows_are (more {c} {cs} {payload = bytes} t ts) i r here sized long =
      let A = payload_visits t i r.address in
      let B = payloads_visits ts (i + 1) r.address in
      ap (λ x. x ∷ map row_of (map (schema_cell file V r) (enumerate_from (i + 1) cs)))
      (row_is t i r.address B here (payloads_from ts (i + 1) r.address) (sized c (inl refl)) (Each-left (IsLong file) A B long))
      ∙ ap (λ l. spelled file bytes ∷ l) (leaf_rows_are ts (i + 1) r
      (λ s rest l. here s rest (omega arith) ∙ below-append A B (r.address ++ (s ∷ rest))
      ∙ ap (λ l. l ++ below B (r.address ++ (s ∷ rest)))
      (none_begin_under r.address (overflow_step i) s rest A (step_less i s l) (payload_under t i r.address)))
      (λ d j. sized d (inr j)) (Each-right (IsLong file) A B long))

  no_rows : (r : Reference) → IsNoTree r → rows_at file V r ≡ []
  no_rows r n = by_start (start_of r.address == 0) (ap (leaf_rows file V r) (no_view file r n))
    where
      by_start : (b : Bool) → leaf_rows file V r (tree_view file r) ≡ [] → cond b (leaf_rows file V r (tree_view file r)) [] ≡ []
      by_start true e = e
      by_start false e = refl

  none_rows : (U : List Reference) → Each IsNoTree U → flat_map (rows_at file V) U ≡ []
  none_rows U h = flat_map-none (rows_at file V) U (λ r i. no_rows r (h r i))

  -- the rows at some visits, by the chains that V has
  abbrev pub rows_in : List Reference → List (Result SchemaRow RowFault)
  rows_in U = map row_of (flat_map (rows_at file V) U)

  rows_both : (X Y : List Reference) → rows_in (X ++ Y) ≡ rows_in X ++ rows_in Y
  rows_both X Y = ap (map row_of) (flat_map-append (rows_at file V) X Y) ∙ map-append row_of (flat_map (rows_at file V) X) (flat_map (rows_at file V) Y)

  leaf_rows_at : (r : Reference) (v : View) → start_of r.address ≡ 0 → tree_view file r ≡ Some v → is_interior v.kind ≡ false → (xs : List (ℕ × Cell))
      → cells v ≡ xs → rows_at file V r ≡ map (schema_cell file V r) xs
  leaf_rows_at r v s e l xs f = by_start (start_of r.address == 0) (ap (λ n. n == 0) s)
    where
      by_view : leaf_rows file V r (tree_view file r) ≡ map (schema_cell file V r) xs
      by_view = ap (leaf_rows file V r) e ∙ ap (λ b. cond b [] (map (schema_cell file V r) (cells v))) l ∙ ap (map (schema_cell file V r)) f

      by_start : (b : Bool) → b ≡ true → cond b (leaf_rows file V r (tree_view file r)) [] ≡ map (schema_cell file V r) xs
      by_start true e = by_view
      by_start false e = cc

  interior_rows_at : (r : Reference) (v : View) → tree_view file r ≡ Some v → is_interior v.kind ≡ true → rows_at file V r ≡ []
  interior_rows_at r v e l = by_start (start_of r.address == 0)
    where
      by_view : leaf_rows file V r (tree_view file r) ≡ []
      by_view = ap (leaf_rows file V r) e ∙ ap (λ b. cond b [] (map (schema_cell file V r) (cells v))) l

      by_start : (b : Bool) → cond b (leaf_rows file V r (tree_view file r)) [] ≡ []
      by_start true = by_view
      by_start false = refl

-- at a page's own address nothing begins that is below one of its steps
skip_own : (a : Address) (r : Reference) (s : ℕ) (rest : Address) (U : List Reference) → r.address ≡ a → below (r ∷ U) (a ++ (s ∷ rest))
    ≡ below U (a ++ (s ∷ rest))
skip_own a r s rest U e = ap (λ b. cond b (r ∷ below U (a ++ (s ∷ rest))) (below U (a ++ (s ∷ rest))))
    (subst (λ x. starts_with nat_eq x (a ++ (s ∷ rest)) ≡ false) (sym e) (not_begins a (a ++ (s ∷ rest)) (begins-longer a s rest)))

between : (a : Address) (s : ℕ) (rest : Address) (A B C : List Reference) → below A (a ++ (s ∷ rest)) ≡ [] → below C (a ++ (s ∷ rest)) ≡ []
    → below (A ++ B ++ C) (a ++ (s ∷ rest)) ≡ below B (a ++ (s ∷ rest))
between a s rest A B C e f = let b = a ++ (s ∷ rest) in
    below-append (A ++ B) C b ∙ ap (λ l. below (A ++ B) b ++ l) f ∙ append-nil (below (A ++ B) b) ∙ below-append A B b ∙ ap (λ l. l ++ below B b) e

behind : (a : Address) (s : ℕ) (rest : Address) (A B C : List Reference) → below A (a ++ (s ∷ rest)) ≡ [] → below B (a ++ (s ∷ rest)) ≡ []
    → below (A ++ B ++ C) (a ++ (s ∷ rest)) ≡ below C (a ++ (s ∷ rest))
behind a s rest A B C e f = let b = a ++ (s ∷ rest) in
    below-append (A ++ B) C b ∙ ap (λ l. l ++ below C b) (below-append A B b ∙ ap (λ l. l ++ below B b) e ∙ f)

mutual
  pub tree_rows : {file : List ℕ} {is_child : Bool} {from p : ℕ} {kind : TreeKind} {height : ℕ} {low high : Option ℤ} {uses : List Use}
      {payloads : List (List ℕ)}
      (t : Tree file is_child from p kind height low high uses payloads) (V : List Reference) (item : ℕ) (b : Address) → 480 ≤ usable_size file → kind
      ≡ tree.Table
      → HasHere (0 ∷ b) 0 V (tree_visits t item (0 ∷ b)) → Each (IsLong file) (tree_visits t item (0 ∷ b))
      → rows_in file V (tree_visits t item (0 ∷ b)) ≡ map (spelled file) payloads
  tree_rows {file} (leaf {is_child} {from} {p} {kind} v w l r ps) V item b wide e here long =
      let ref = visit_at (role_in_tree is_child kind) from item p (0 ∷ b) in
      let rest = payloads_visits ps 0 (0 ∷ b) in
      rows_both file V (ref ∷ []) rest
      ∙ ap (λ l. rows_in file V (ref ∷ []) ++ map row_of l) (none_rows file V rest (payloads_no_tree ps 0 (0 ∷ b)))
      ∙ append-nil (rows_in file V (ref ∷ []))
      ∙ ap (map row_of) (append-nil (rows_at file V ref)
      ∙ leaf_rows_at file V ref v refl (own_view file is_child kind from item p (0 ∷ b) v w.undamaged) l (enumerate_from 0 (cells_of v))
      (has_all_cells w).numbers)
      ∙ leaf_rows_are file V ps 0 ref (λ s more n. here s more (omega arith) ∙ skip_own (0 ∷ b) ref s more rest refl)
      (leaf_sized w e l wide (long ref (inl refl))) (λ u i. long u (inr i))
  tree_rows {file} (interior {is_child} {from} {p} {kind} v w r cs) V item b wide e here long =
      let ref = visit_at (role_in_tree is_child kind) from item p (0 ∷ b) in
      let rest = children_visits cs 0 (0 ∷ b) in
      rows_both file V (ref ∷ []) rest
      ∙ ap (λ l. map row_of l ++ rows_in file V rest) (append-nil (rows_at file V ref)
      ∙ interior_rows_at file V ref v (own_view file is_child kind from item p (0 ∷ b) v w.undamaged) (has_right v _ r))
      ∙ children_rows cs V 0 b wide e (λ s more n. here s more (omega arith) ∙ skip_own (0 ∷ b) ref s more rest refl) (λ u i. long u (inr i))

  children_rows : {file : List ℕ} {p : ℕ} {kind : TreeKind} {height : ℕ} {low high : Option ℤ} {cs : List Cell} {right : ℕ} {uses : List Use}
      {payloads : List (List ℕ)}
      (t : Children file p kind height low high cs right uses payloads) (V : List Reference) (i : ℕ) (b : Address) → 480 ≤ usable_size file → kind ≡ tree.Table
      → HasHere (0 ∷ b) (3 * i) V (children_visits t i (0 ∷ b)) → Each (IsLong file) (children_visits t i (0 ∷ b))
      → rows_in file V (children_visits t i (0 ∷ b)) ≡ map (spelled file) payloads
  children_rows {file} (right_only t) V i b wide e here long =
      tree_rows t V i (b ++ child_step i ∷ []) wide e (λ s more n.
      subst (λ x. below V x ≡ below (tree_visits t i (0 ∷ (b ++ child_step i ∷ []))) x) (sym (append_assoc (0 ∷ b) (child_step i ∷ []) (s ∷ more)))
      (here (child_step i) (s ∷ more) (omega arith))) long
  children_rows {file} (and_left {payloads = ours} {others} ps l lo hi t ts) V i b wide e here long =
      let a = 0 ∷ b in
      let A = payload_visits ps i a in
      let B = tree_visits t i (a ++ child_step i ∷ []) in
      let C = children_visits ts (i + 1) a in
      let only_b : (more : Address) → below V (a ++ (child_step i ∷ more)) ≡ below B (a ++ (child_step i ∷ more)) = λ more.
      here (child_step i) more (omega arith)
      ∙ between a (child_step i) more A B C (none_begin_under a (overflow_step i) (child_step i) more A (chain_child i) (payload_under ps i a))
      (none_begin_from a (3 * (i + 1)) (child_step i) more C (omega arith) (children_from ts (i + 1) a)) in
      rows_both file V (A ++ B) C
      ∙ ap (λ l. l ++ rows_in file V C) (rows_both file V A B
      ∙ ap (λ l. map row_of l ++ rows_in file V B) (none_rows file V A (payload_no_tree ps i a))
      ∙ tree_rows t V i (b ++ child_step i ∷ []) wide e (λ s more n.
      subst (λ x. below V x ≡ below B x) (sym (append_assoc a (child_step i ∷ []) (s ∷ more))) (only_b (s ∷ more)))
      (Each-right (IsLong file) A B (Each-left (IsLong file) (A ++ B) C long)))
      ∙ ap (λ l. map (spelled file) ours ++ l) (children_rows ts V (i + 1) b wide e
      (λ s more n. here s more (omega arith) ∙ behind a s more A B C
      (none_begin_under a (overflow_step i) s more A (step_less i s n) (payload_under ps i a))
      (none_begin_under a (child_step i) s more B (child_less i s n) (tree_under t i (a ++ child_step i ∷ []))))
      (Each-right (IsLong file) (A ++ B) C long))
      ∙ sym (map-append (spelled file) ours others)
