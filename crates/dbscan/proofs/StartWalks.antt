-- The walks from all starts: over the schema's tree, over the trees of its rows, and along the freelist.
use Rattle.dbscan.proofs.Common.{arith, ◌≡◌, ℕ, Bool, List, [], Result, Ok, Err, refl, sym, ap, subst, ◌∙◌, geometry_of, Reference, Survey, Step}
use Rattle.dbscan.proofs.Common.{is_read_failed, failures_after, HeaderBytes, IsHeaderOf, SourceState, RunError, marks_of, AsksOver, DeskView, IsFresh, Notice}
use Rattle.dbscan.proofs.Common.{Listed, IsSchemaOf, AreReported, AreWalked, IsBetweenStarts, IsSchemaWalked, StopsReporting, enumerate_from, asks_weaker}
use Rattle.dbmarks.proofs.Readings.{asks_then}
use Rattle.dbscan.proofs.TreeWalks.{schema_reported, all_walked, later_stopped}

-- whether the schema has rows, if all was done
abbrev pub with_rows : Bool → Result (Unit {0}) RunError → Result Bool RunError
with_rows any (Ok u) = Ok any
with_rows any (Err e) = Err e

same_failures : (any : Bool) (r : Result (Unit {0}) RunError) → (n : ℕ) → failures_after is_read_failed r n ≡ failures_after is_read_failed (with_rows any r) n
same_failures any r n = grind arith

abbrev page_size_of : HeaderBytes → ℕ
page_size_of h = (geometry_of h.bytes h.file_len).page_size

module _ {S : Type 0} (receives : S → Notice → S → Type 0) (step : Step) where
  -- what the walks after that over the schema's tree ask for, and what is reported of them
  abbrev pub AsksLater : DeskView → DeskView → Result (Unit {0}) RunError → S → S → SourceState → SourceState → Type 0
  AsksLater d e r s u old new = AsksOver step d e (λ file. (V : List Reference) → Survey file V → (before : S)
      → IsBetweenStarts receives file V before (enumerate_from 1 d.roots.rows) d.marks s
      → AreReported receives file V r e.marks before u) r old new

  abbrev AsksRoots : DeskView → DeskView → Result (Unit {0}) RunError → S → S → SourceState → SourceState → Type 0
  AsksRoots d m r s t old now = AsksOver step d m (λ file. (V : List Reference) → Survey file V → (before : S)
      → IsBetweenStarts receives file V before (enumerate_from 1 d.roots.rows) d.marks s
      → StopsReporting receives file V before [] r m.marks t) r old now

  -- an error stopped the walks over the trees of the rows
  pub roots_stopped : (d m : DeskView) (e : RunError) (s t : S) {old now : SourceState} → AsksRoots d m (Err e) s t old now → AsksLater d m (Err e) s t old now
  roots_stopped d m e s t asks = asks_weaker _ _ (Err e) (λ n. refl) asks (λ log reads. reads)
      (λ file done is V s before h. record { marked = tt; reported = done is V s before h })

  -- what the walk along the freelist asks for, and what is reported of it
  abbrev pub AsksTrunks : DeskView → DeskView → Result (Unit {0}) RunError → S → S → SourceState → SourceState → Type 0
  AsksTrunks m e r t u now new = AsksOver step m e (λ file. (V : List Reference) → Survey file V → (before : S)
      → IsBetweenStarts receives file V before [] m.marks t → AreReported receives file V r e.marks before u) r now new

  -- where it is reported by another name of the reporter
  pub reporter_first : (m e : DeskView) (r : Result (Unit {0}) RunError) {t w u : S} {now new : SourceState} → w ≡ t → AsksTrunks m e r w u now new
      → AsksTrunks m e r t u now new
  reporter_first m e r {u = u} {now = now} {new = new} same asks = subst (λ x. AsksTrunks m e r x u now new) same asks

  -- or they were done, and then the freelist was walked along
  pub later_asks : (d m e : DeskView) (r : Result (Unit {0}) RunError) (s t u : S) {old now new : SourceState} → m.header ≡ d.header
      → AsksRoots d m (Ok tt) s t old now
      → AsksTrunks m e r t u now new → AsksLater d e r s u old new
  later_asks d m e r s t u same roots trunks = asks_then _ _ (ap page_size_of same) roots trunks
      (λ file done walked is V s before h.
      walked (subst (λ (h : HeaderBytes). IsHeaderOf h file) (sym same) is) V s before (done is V s before h))

  -- all of it
  pub starts_asks : (d m e : DeskView) (any : Bool) (r : Result (Unit {0}) RunError) (s t u : S) {old now new : SourceState} → IsFresh d
      → m.header ≡ d.header → e.roots ≡ m.roots
      → AsksOver step d m (λ file. IsSchemaWalked receives file (Ok any) m.marks m.roots.rows s t) (Ok any) old now
      → AsksLater m e r t u now new
      → AsksOver step d e (λ file. (V : List Reference) → Survey file V → AreWalked receives file V (with_rows any r) e.marks e.roots.rows s u)
      (with_rows any r) old new
  starts_asks d m e any r s t u fresh same kept schema later =
      asks_weaker _ _ (with_rows any r) (same_failures any r)
      (asks_then _ _ (ap page_size_of same) schema later
      (λ file walked after is V survey.
      let first = walked is in
      by_result r file V (subst (λ (l : Listed). IsSchemaOf file V l.rows any) (sym kept) (first.schema V survey))
      (after (subst (λ (h : HeaderBytes). IsHeaderOf h file) (sym same) is) V survey s
      (schema_reported receives file V survey s d.marks m.marks m.roots.rows any t (fresh.marks ∙ ap (λ g. marks_of g []) is.shape) first))))
      (λ log reads. reads) (λ file done. done)
    where
      by_result : (r : Result (Unit {0}) RunError) (file : List ℕ) (V : List Reference) → IsSchemaOf file V e.roots.rows any
          → AreReported receives file V r e.marks s u → AreWalked receives file V (with_rows any r) e.marks e.roots.rows s u
      by_result (Ok x) file V of reported = all_walked receives file V e.marks e.roots.rows s u any of reported
      by_result (Err x) file V of reported = later_stopped receives file V e.marks e.roots.rows s u x reported
