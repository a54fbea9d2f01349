-- The keys of a tree in a survey without faults: none is out of order after one at an earlier place. So the keys after
-- a cell are above its key, and those before it are at most its key.
use Rattle.std.proofs.Common.{◌≡◌, ℕ, ◌<◌, inl, Bool, true, false, cond, List, [], ◌∷◌, ◌++◌, Option, Some, None, ℤ, refl, sym, ap, subst, ◌∙◌, arith}
use Rattle.std.specs.Prelude.{flat_map, int_lt, int_le, ◌&&◌, ◌==◌}
use Rattle.std.specs.List.{list_any}
use Rattle.std.proofs.lemmas.Bool.{and_from}
use Rattle.std.proofs.Common.{eq-eqb}
use Rattle.std.proofs.lemmas.Int.{ints}
use Rattle.dbsound.proofs.Common.{IsIn, Address, IsBefore, is_before, start_of, key_step, View, is_interior, Cell, cells, Reference, tree_view, Survey, Key}
use Rattle.dbsound.proofs.Common.{key_of, keys_of_view, keys_at, keys, is_out_of_order, key_faults, row_faults_at, walk_faults, IsAbove, IsUpTo}
use Rattle.dbsurvey.proofs.Order.{IsBefore-steps}
use Rattle.dbsurvey.proofs.Ordering.{is_before-from, IsIn-flat_map, IsIn-from_flat_map}
use Rattle.dbformat.specs.KeyFaults.{earlier_keys}
use Rattle.dbformat.proofs.NoFaults.{follows_all}
use Rattle.dbsurvey.proofs.Lists.{filter-has, both_empty, none_of, list_any-false}
use Rattle.dbformat.proofs.Places.{same_start, cell_key}
use Rattle.dbformat.proofs.TestsLemmas.{unreported}

in_view : (r : Reference) (o : Option View) (k : Key) → IsIn k (keys_of_view r o) → (v : View) × (o ≡ Some v) × (x : ℕ × Cell) × IsIn x (cells v)
    × IsIn k (key_of r v x)
in_view r None k i = absurd i
in_view r (Some v) k i = let x = IsIn-from_flat_map (key_of r v) (cells v) k i in (v, refl, x.0, x.1, x.2)

-- a key of a visited page
abbrev pub IsKey : List ℕ → List Reference → Key → Type 0
IsKey file V k = (t : Reference) × IsIn t V × IsIn k (keys_at file t)

module _ (file : List ℕ) (V : List Reference) (s : Survey file V) (none : walk_faults file V ≡ []) where
  no_key_fault : (key : Key) → IsKey file V key → key_faults file V key ≡ []
  no_key_fault key (t, i, j) =
      let v = in_view t (tree_view file t) key j in
      let e = (follows_all file V s none).1 t v.0 i v.1 v.2 v.3 in
      none_of (key_faults file V) (key_of t v.0 v.2) (both_empty (row_faults_at file V t v.0 v.2) (flat_map (key_faults file V) (key_of t v.0 v.2)) e).1 key v.4

  in_order : (key k : Key) → IsKey file V key → IsKey file V k → start_of k.place ≡ start_of key.place → IsBefore k.place key.place → is_out_of_order key k
      ≡ false
  unfolding key_faults keys
  in_order key k i j same before =
      list_any-false (is_out_of_order key) (earlier_keys file V key) (unreported (list_any (is_out_of_order key) (earlier_keys file V key)) _
      (no_key_fault key i))
      k
      (filter-has (λ k. (start_of k.place == start_of key.place) && is_before k.place key.place) (keys file V) k (IsIn-flat_map (keys_at file) V j.0 k j.1 j.2)
      (and_from (start_of k.place == start_of key.place) (is_before k.place key.place) (eq-eqb (start_of k.place) (start_of key.place) same)
      (is_before-from k.place key.place before)))

-- a key is above low where it is a rowid, and not below it where it is none
pub record IsLow (low : Option ℤ) (k : Key) : Type 0 where
  pub above : k.is_rowid ≡ true → IsAbove low k.value
  pub from : IsUpTo low (Some k.value)

pub low-none : (k : Key) → IsLow None k
low-none k = record { above = λ e. tt; from = tt }

low-from : (value : ℤ) (k k' : Key) → k'.value ≡ value → is_out_of_order k k' ≡ false → IsLow (Some value) k
low-from value k k' same e = by_case k.is_rowid refl e
  where
    by_case : (b : Bool) → k.is_rowid ≡ b → cond b (int_le k.value k'.value) (int_lt k.value k'.value) ≡ false → IsLow (Some value) k
    by_case true f e = record { above = λ g. grind (arith, ints); from = grind (arith, ints) }
    by_case false f e = record { above = λ g. cc; from = grind (arith, ints) }

module _ (file : List ℕ) (V : List Reference) (s : Survey file V) (none : walk_faults file V ≡ []) (r : Reference) (i : IsIn r V) (long : r.address ≡ [] → ⊥)
    (v : View) (view_is : tree_view file r ≡ Some v) where
  pub has_key : (x : ℕ × Cell) (value : ℤ) → IsIn x (cells v) → x.1.key ≡ Some value → IsKey file V (cell_key r v x.0 value)
  has_key x value j e = (
    r,
    i,
    subst (λ o. IsIn (cell_key r v x.0 value) (keys_of_view r o)) (sym view_is)
        (IsIn-flat_map (key_of r v) (cells v) x (cell_key r v x.0 value) j (in_cell x e)),
  )
    where
      in_cell : (x : ℕ × Cell) → x.1.key ≡ Some value → IsIn (cell_key r v x.0 value) (key_of r v x)
      in_cell (n, c) e = rw e (inl refl)

  module _ (x : ℕ × Cell) (j : IsIn x (cells v)) (k : Key) (is_key : IsKey file V k) (step : ℕ) (b : Address) (at : k.place ≡ r.address ++ (step ∷ b)) where
    -- keys after that of a cell are above it
    pub above_cell : key_step x.0 < step → IsLow x.1.key k
    above_cell h = by_case x.1.key refl
      where
        by_case : (o : Option ℤ) → x.1.key ≡ o → IsLow o k
        by_case None e = low-none k
        by_case (Some value) e = low-from value k (cell_key r v x.0 value) refl
            (in_order file V s none k (cell_key r v x.0 value) is_key (has_key x value j e)
            (same_start r.address long (key_step x.0 ∷ []) (step ∷ b) ∙ sym (ap start_of at))
            (subst (IsBefore (r.address ++ (key_step x.0 ∷ []))) (sym at) (IsBefore-steps r.address (key_step x.0) step [] b h)))

    -- keys before that of a cell of an interior page are up to it
    pub up_to_cell : is_interior v.kind ≡ true → step < key_step x.0 → IsUpTo (Some k.value) x.1.key
    up_to_cell interior h = by_case x.1.key refl
      where
        by_case : (o : Option ℤ) → x.1.key ≡ o → IsUpTo (Some k.value) o
        by_case None e = tt
        by_case (Some value) e =
            let f = in_order file V s none (cell_key r v x.0 value) k (has_key x value j e) is_key
            (ap start_of at ∙ same_start r.address long (step ∷ b) (key_step x.0 ∷ []))
            (subst (λ p. IsBefore p (r.address ++ (key_step x.0 ∷ []))) (sym at) (IsBefore-steps r.address step (key_step x.0) b [] h)) in
            let g : int_lt value k.value ≡ false = rw interior at f in
            grind (arith, ints)
