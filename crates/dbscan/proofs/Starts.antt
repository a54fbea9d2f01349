-- The starts of a run, one after another: what a walk at the next one leaves.
use Rattle.dbscan.proofs.Common.{◌≡◌, ◌≢◌, ℕ, ◌<◌, inl, inr, List, [], ◌∷◌, ◌++◌, length, Some, refl, sym, ap, subst, arith, slice_get, Address, IsIn}
use Rattle.dbscan.proofs.Common.{Errand, Go, encoding, root, Way, Reference, SchemaRow, Event, start_errands, Encoding, visited_below, Mark}
use Rattle.dbscan.proofs.Common.{root_reference, root_of, AreBelowStarts, IsAtStarts, IsRootAfter, slice_get_cases, IsBefore, IsIn-left, root_kind, Schema}
use Rattle.dbformat.specs.declared.RowKind.{RowKind}
use Rattle.dbtrace.specs.Starts.{IsOfEarlierStart}
use Rattle.dbwalk.specs.Roots.{kind_in}
use Rattle.dbscan.specs.Starts.{kind_by}

-- the kind of a row's root is what a walk takes it for
kind_same : (file : List ℕ) (encoding : Encoding) (k : ℕ) (r : SchemaRow) → kind_in file (root_of encoding k r) ≡ root_kind file r
kind_same file encoding k r = grind arith

-- the visits before a start are below earlier ones
early_of : (k : ℕ) (a : Address) → a ≢ [] → IsBefore a (k ∷ []) → IsOfEarlierStart k a
early_of k [] n h = n refl
early_of k (s ∷ a) n (inl l) = l
early_of k (s ∷ []) n (inr h) = absurd h.1
early_of k (s ∷ t ∷ a) n (inr h) = absurd h.1

pub row_there : {X : Type 0} (xs : List X) (i : ℕ) → i < length xs → (x : X) × (slice_get xs i ≡ Some x)
row_there xs i l = elim (slice_get_cases xs i).1 [ inl k ↦ (k.0, k.2) | inr k ↦ absurd (omega (arith, l, k.0)) ]

-- the next start is a root
pub root_next : (file : List ℕ) (V U : List Reference) (marks : List Mark) (encoding : Encoding) (k : ℕ) (r : SchemaRow) (es : List (Errand Way Event))
    → AreBelowStarts ([] ++ visited_below file [] (start_errands file V)) → IsAtStarts file V U (Go (root_reference file k r) ∷ es) marks
    → IsRootAfter file (root_of encoding k r) U (root_reference file k r) marks
root_next file V U marks encoding k r es below h = record {
  candidate = record {
    page = refl;
    way = ap (λ kind. record { role = root kind; from = 0; item = k }) (sym (kind_same file encoding k r));
    start = refl;
    depth = refl;
    path = refl;
    chain = refl;
  };
  early = λ u i. early_of k u.address (below u (subst (λ V. IsIn u V) h.visits (IsIn-left u U (visited_below file U (Go (root_reference file k r) ∷ es)) i)))
      (h.past u (Go (root_reference file k r)) i (inl refl));
  marked = h.marked;
}

-- a row of the list does not name the schema
pub no_schema_kind : (kind : RowKind) → kind_by kind ≡ Schema → ⊥
no_schema_kind kind e = grind arith
