-- What a reporter receives at starts comes start by start, in their order.
use Rattle.dbscan.proofs.Common.{◌≡◌, ℕ, ◌+◌, ◌≤◌, ◌⊎◌, inl, inr, List, [], ◌∷◌, ◌++◌, length, map, sym, subst, arith, filter_map, IsIn, Go, freelist_start}
use Rattle.dbscan.proofs.Common.{Reference, schema, rooted_rows, SchemaRow, Finding, reported_fault, reported_row, reported_below, visited_below, Notice, found}
use Rattle.dbscan.proofs.Common.{ended, errands_left, root_reference, tree_notices, later_notices, start_notices, listed_rows, At, at_freelist, at_row}
use Rattle.dbscan.proofs.Common.{at_schema, schema_reference, enumerate_from, filter_map-append, IsIn-cases, EachPair, EachPair-append, rows_end, number_of}
use Rattle.dbscan.proofs.Common.{AreStarts, StartsRise}

abbrev numbers : List Notice → List ℕ
numbers notices = filter_map number_of notices

of_found : (at : At) (items : List Finding) → (k : ℕ) → IsIn k (numbers (map (found at) items)) → k ≡ at.number
of_found at [] k i = absurd i
of_found at (reported_row r ∷ items) k (inl e) = e
of_found at (reported_fault f why ∷ items) k (inl e) = e
of_found at (reported_row r ∷ items) k (inr i) = of_found at items k i
of_found at (reported_fault f why ∷ items) k (inr i) = of_found at items k i

found_rise : (at : At) (items : List Finding) → StartsRise (map (found at) items)
found_rise at [] = tt
found_rise at (reported_row r ∷ items) = ((λ k i. let e = of_found at items k i in omega (arith, e)), found_rise at items)
found_rise at (reported_fault f why ∷ items) = ((λ k i. let e = of_found at items k i in omega (arith, e)), found_rise at items)

of_tree : (at : At) (file : List ℕ) (W : List Reference) (c : Reference) (k : ℕ) → IsIn k (numbers (tree_notices at file W c)) → k ≡ at.number
of_tree at file W c k i =
    let items = reported_below file W (Go c ∷ []) in
    elim (IsIn-cases k (numbers (map (found at) items)) (at.number ∷ [])
    (subst (λ l. IsIn k l) (filter_map-append number_of (map (found at) items) (ended at ∷ [])) i)) [
      | inl j ↦ of_found at items k j
      | inr j ↦ (elim j [ inl e ↦ e | inr n ↦ absurd n ])
    ]

-- a tree, and what is reported at later starts
tree_rises : (at : At) (file : List ℕ) (W : List Reference) (c : Reference) (ns : List Notice) → StartsRise ns → ((k : ℕ) → IsIn k (numbers ns) → at.number ≤ k)
    → StartsRise (tree_notices at file W c ++ ns)
tree_rises at file W c ns rise later =
    let items = reported_below file W (Go c ∷ []) in
    subst (EachPair (λ j k. j ≤ k)) (sym (filter_map-append number_of (tree_notices at file W c) ns))
    (EachPair-append (λ j k. j ≤ k) (numbers (tree_notices at file W c)) (numbers ns)
    (subst (EachPair (λ j k. j ≤ k)) (sym (filter_map-append number_of (map (found at) items) (ended at ∷ [])))
    (EachPair-append (λ j k. j ≤ k) (numbers (map (found at) items)) (at.number ∷ []) (found_rise at items) ((λ k i. absurd i), tt)
    (λ j k i m. elim m [ inl e ↦ (let f = of_found at items j i in omega (arith, e, f)) | inr n ↦ absurd n ])))
    rise (λ j k i m. let e = of_tree at file W c j i in let l = later k m in omega (arith, e, l)))

-- a start of it is the tree's, or a later one
tree_or_later : (at : At) (file : List ℕ) (W : List Reference) (c : Reference) (ns : List Notice) (k : ℕ) → IsIn k (numbers (tree_notices at file W c ++ ns))
    → (k ≡ at.number) ⊎ IsIn k (numbers ns)
tree_or_later at file W c ns k i = elim (IsIn-cases k (numbers (tree_notices at file W c)) (numbers ns)
    (subst (λ l. IsIn k l) (filter_map-append number_of (tree_notices at file W c) ns) i)) [ inl m ↦ inl (of_tree at file W c k m) | inr m ↦ inr m ]

-- the rows from start k on, as far as rows have starts
later_rises : (file : List ℕ) (rows : List SchemaRow) (k : ℕ) (W : List Reference) → k + length rows ≤ freelist_start
    → StartsRise (later_notices file W (enumerate_from k rows))
    × ((j : ℕ) → IsIn j (numbers (later_notices file W (enumerate_from k rows))) → (k ≤ j) × (j ≤ freelist_start))
later_rises file [] k W few = (
  found_rise at_freelist (reported_below file W (errands_left file [])),
  λ j i. let e = of_found at_freelist (reported_below file W (errands_left file [])) j i in (omega (arith, e, few), omega (arith, e)),
)
later_rises file (row ∷ rows) k W few =
    let c = root_reference file k row in
    let U = W ++ visited_below file W (Go c ∷ []) in
    let ns = later_notices file U (enumerate_from (k + 1) rows) in
    let rest = later_rises file rows (k + 1) U (omega (arith, few)) in (
      tree_rises (at_row k row) file W c ns rest.0 (λ j i. let l = (rest.1 j i).0 in omega (arith, l)),
      λ j i. elim (tree_or_later (at_row k row) file W c ns j i) [
        | inl e ↦ (omega (arith, e), omega (arith, e, few))
        | inr m ↦ (let l = rest.1 j m in (omega (arith, l.0), l.1))
      ],
    )

module _ (file : List ℕ) (V : List Reference) where
  abbrev rows : List SchemaRow
  rows = listed_rows file V

  abbrev U : List Reference
  U = [] ++ visited_below file [] (Go schema_reference ∷ [])

  rest : StartsRise (later_notices file U (enumerate_from 1 rows))
      × ((j : ℕ) → IsIn j (numbers (later_notices file U (enumerate_from 1 rows))) → (1 ≤ j) × (j ≤ freelist_start))
  rest = later_rises file rows 1 U (rows_end (rooted_rows (schema file V)))

  pub starts_rise : StartsRise (start_notices file V)
  starts_rise = tree_rises at_schema file [] schema_reference (later_notices file U (enumerate_from 1 rows)) rest.0 (λ k i. omega arith)

  -- and each is a start
  pub are_starts : AreStarts (start_notices file V)
  are_starts k i = elim (tree_or_later at_schema file [] schema_reference (later_notices file U (enumerate_from 1 rows)) k i) [
    | inl e ↦ omega (arith, e)
    | inr m ↦ (rest.1 k m).1
  ]
