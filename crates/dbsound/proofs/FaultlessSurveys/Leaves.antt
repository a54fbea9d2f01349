-- A visited leaf is a tree of height 1.
use Rattle.std.proofs.Common.{◌≡◌, ℕ, suc, ◌+◌, ◌*◌, ◌≤◌, inl, inr, Bool, false, cond, List, [], ◌∷◌, ◌++◌, map, Option, Some, None, ℤ, refl, sym, ap, subst}
use Rattle.std.proofs.Common.{◌∙◌, arith, append-nil}
use Rattle.std.specs.Prelude.{flat_map, not}
use Rattle.std.specs.List.{cons_option}
use Rattle.dbsound.proofs.Common.{IsIn, Address, overflow_step, child_step, key_step, depth, View, is_interior, Cell, cells, count, Reference, role_of, from_of}
use Rattle.dbsound.proofs.Common.{Survey, Key, walk_faults, Use, Tree, leaf, Payloads, none, more, IsUpTo, RiseWithin, keys_of, role_in_tree, use_as, TreeKind}
use Rattle.dbsound.proofs.Common.{below, use_of, cell_payload, view_payloads, leaf_payloads}
use Rattle.dbsurvey.proofs.Lists.{flat_map-same, flat_map-flat_map, flat_map-none, map-flat_map}
use Rattle.dbformat.proofs.Cells.{RiseFrom, cells_rise, is_of_kind}
use Rattle.dbsound.proofs.FaultlessSurveys.TreePages.{IsTreePage}
use Rattle.dbsound.proofs.FaultlessSurveys.CellChains.{at_step, payload_at}
use Rattle.dbsound.proofs.FaultlessSurveys.PageParts.{left_part, cell_part, below_page}
use Rattle.dbsound.proofs.FaultlessSurveys.Keys.{IsKey, IsLow, has_key, above_cell}
use Rattle.dbformat.proofs.CellParts.{second}
use Rattle.dbformat.proofs.Visited.{has_address}
use Rattle.dbformat.proofs.Places.{cell_key}

-- the same tree, whose pages and payloads are said otherwise
pub with_parts : {file : List ℕ} {is_child : Bool} {from p : ℕ} {kind : TreeKind} {height : ℕ} {low high : Option ℤ} {uses uses' : List Use}
    {payloads payloads' : List (List ℕ)}
    → uses ≡ uses' → payloads ≡ payloads' → Tree file is_child from p kind height low high uses payloads
    → Tree file is_child from p kind height low high uses' payloads'
with_parts {file} {is_child} {from} {p} {kind} {height} {low} {high} {uses} {uses'} {payloads} e f t =
    subst (Tree file is_child from p kind height low high uses') f (subst (λ us. Tree file is_child from p kind height low high us payloads) e t)

module _ (file : List ℕ) (V : List Reference) where
  -- the keys at address a, from a step on, are above low, or not below it
  abbrev pub AreLow : Option ℤ → Address → ℕ → Type 0
  AreLow low a first = (k : Key) → IsKey file V k → (step : ℕ) (b : Address) → first ≤ step → k.place ≡ a ++ (step ∷ b) → IsLow low k

  -- those at address a are up to high
  abbrev pub AreHigh : Option ℤ → Address → Type 0
  AreHigh high a = (k : Key) → IsKey file V k → (step : ℕ) (b : Address) → k.place ≡ a ++ (step ∷ b) → IsUpTo (Some k.value) high

  -- a visited page begins a tree, whose leaves have depth D, and whose pages are those below it
  abbrev pub HasTree : ℕ → TreeKind → Bool → Reference → Option ℤ → Option ℤ → Type 0
  HasTree D kind is_child r low high = (height : ℕ) × (suc D ≡ height + depth r.address)
      × Tree file is_child (from_of r) r.page kind height low high (map use_of (below V r.address)) (flat_map (leaf_payloads file V) (below V r.address))

module _ (file : List ℕ) (V : List Reference) (s : Survey file V) (faultless : walk_faults file V ≡ []) where
  module _ (r : Reference) (i : IsIn r V) (kind : TreeKind) (is_child : Bool) (role_is : role_of r ≡ role_in_tree is_child kind) (v : View)
      (page : IsTreePage file V r kind is_child v) where
    -- the pages of a cell's chain
    abbrev pub chain_part : ℕ × Cell → List Reference
    chain_part x = at_step V r.address (overflow_step x.0)

    -- the chains of some cells
    chains : (xs : List (ℕ × Cell)) → ((x : ℕ × Cell) → IsIn x xs → IsIn x (cells v))
        → Payloads file r.page (second xs) (flat_map (λ x. map use_of (chain_part x)) xs) (map (cell_payload file V r) xs)
    chains [] h = none
    chains (x ∷ xs) h = more (payload_at file V s faultless r i kind is_child v page x (h x (inl refl))).0 (chains xs (λ y j. h y (inr j)))

    module _ (is_leaf : is_interior v.kind ≡ false) where
      below_leaf : below V r.address ≡ r ∷ flat_map chain_part (cells v)
      below_leaf =
          below_page file V s faultless r i kind is_child v page
          ∙ ap (λ b. r ∷ (flat_map (cell_part V r.address) (cells v) ++ cond b (at_step V r.address (child_step (count v))) [])) is_leaf
          ∙ ap (λ l. r ∷ l) (append-nil (flat_map (cell_part V r.address) (cells v))
          ∙ flat_map-same (cell_part V r.address) chain_part (cells v) (λ x j.
          ap (λ o. chain_part x ++ left_part V r.address x.0 o) ((is_of_kind v x j).leaf is_leaf) ∙ append-nil (chain_part x)))

      leaf_payloads_are : flat_map (leaf_payloads file V) (below V r.address) ≡ map (cell_payload file V r) (cells v)
      leaf_payloads_are =
          ap (flat_map (leaf_payloads file V)) below_leaf
          ∙ ap (λ o. view_payloads file V r o ++ flat_map (leaf_payloads file V) (flat_map chain_part (cells v))) page.view_is
          ∙ ap (λ b. cond b [] (map (cell_payload file V r) (cells v)) ++ flat_map (leaf_payloads file V) (flat_map chain_part (cells v))) is_leaf
          ∙ ap (λ l. map (cell_payload file V r) (cells v) ++ l) (flat_map-flat_map chain_part (leaf_payloads file V) (cells v)
          ∙ flat_map-none (λ x. flat_map (leaf_payloads file V) (chain_part x)) (cells v)
          (λ x j. (payload_at file V s faultless r i kind is_child v page x j).1))
          ∙ append-nil (map (cell_payload file V r) (cells v))

      leaf_uses_are : map use_of (below V r.address) ≡ use_of r ∷ flat_map (λ x. map use_of (chain_part x)) (cells v)
      leaf_uses_are = ap (map use_of) below_leaf ∙ ap (λ l. use_of r ∷ l) (map-flat_map chain_part use_of (cells v))

      -- the rowids rise
      keys_rise : (low high : Option ℤ) (n : ℕ) (xs : List (ℕ × Cell)) → ((x : ℕ × Cell) → IsIn x xs → IsIn x (cells v)) → RiseFrom n xs
          → AreLow file V low r.address (3 * n) → AreHigh file V high r.address → RiseWithin low high (keys_of (second xs))
      keys_rise low high n [] h rise lows highs = tt
      keys_rise low high n (x ∷ xs) h rise lows highs = by_case x.1.key refl
          (λ low' lows'. keys_rise low' high (suc x.0) xs (λ y j. h y (inr j)) rise.1 lows' highs)
        where
          by_case : (o : Option ℤ) → x.1.key ≡ o
              → ((low' : Option ℤ) → AreLow file V low' r.address (3 * suc x.0) → RiseWithin low' high (keys_of (second xs)))
              → RiseWithin low high (cons_option o (keys_of (second xs)))
          by_case None e rest = let m = rise.0 in rest low (λ k is_key step b f at. lows k is_key step b (omega arith) at)
          by_case (Some value) e rest =
              let m = rise.0 in
              let key = cell_key r v x.0 value in
              let is_key = has_key file V s faultless r i (has_address file V s r i) v page.view_is x value (h x (inl refl)) e in (
                (lows key is_key (key_step x.0) [] (omega arith) refl).above (ap not is_leaf),
                highs key is_key (key_step x.0) [] refl,
                rest (Some value) (λ k k_is step b f at. subst (λ o. IsLow o k) e
                    (above_cell file V s faultless r i (has_address file V s r i) v page.view_is x (h x (inl refl)) k k_is step b at (omega arith))),
              )

      pub leaf_at : (D : ℕ) (low high : Option ℤ) → depth r.address ≡ D → AreLow file V low r.address 0 → AreHigh file V high r.address
          → HasTree file V D kind is_child r low high
      leaf_at D low high deep lows highs = (
        1,
        omega arith,
        with_parts (sym (leaf_uses_are ∙ ap (λ role. use_as role (from_of r) r.page ∷ flat_map (λ x. map use_of (chain_part x)) (cells v)) role_is))
            (sym leaf_payloads_are)
            (leaf v page.whole is_leaf (keys_rise low high 0 (cells v) (λ x j. j) (cells_rise v) lows highs) (chains (cells v) (λ x j. j))),
      )
