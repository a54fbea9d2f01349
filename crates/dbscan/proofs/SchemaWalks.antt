-- What the walk over the schema's tree has found: its rows in the list, and whether there are any.
use Rattle.dbscan.proofs.Common.{◌≡◌, ◌↔◌, ℕ, Bool, false, List, [], ◌∷◌, length, map, take, Result, Ok, Err, refl, sym, ap, subst, ◌∙◌, ◌||◌, OnOk}
use Rattle.dbscan.proofs.Common.{last_root_start, schema_start, Go, Follow, errands_at, schema_part, schema, rooted_rows, Reference, Survey, Encoding}
use Rattle.dbscan.proofs.Common.{HeaderBytes, IsHeaderOf, RunError, reported_below, AreMarksOf, Mark, Listed, TakesRow, is_schema_row, Notice, IsSchemaOf}
use Rattle.dbscan.proofs.Common.{at_schema, schema_reference, IsSchemaWalked, IsTreeWalked, IsWalkedOver, list_any, StartsEmpty, IsRootAfter, Notifier}
use Rattle.dbscan.proofs.Common.{by_starts, Root, Schema, encoding_within}
use Rattle.dbformat.specs.Header.{encoding as encoding_of}
use Rattle.dbscan.specs.Starts.{root_of_schema}
use Rattle.dbscan.proofs.RootsTaken.{roots_start_empty, schema_roots, starts_listed}
use Rattle.dbscan.proofs.SchemaReported.{schema_rows_reported}

-- its root is the schema's
pub schema_own : (code : Encoding) (named : Root) → named ≡ root_of_schema code → (named.kind ≡ Schema) ↔ (named.start ≡ schema_start)
schema_own code named is = (λ k. ap (λ (r : Root). r.start) is, λ k. ap (λ (r : Root). r.kind) is)

-- page 1 comes first
pub schema_first : (file : List ℕ) (encoding : Encoding) (marks : List Mark) → AreMarksOf file [] marks
    → IsRootAfter file (root_of_schema encoding) [] schema_reference marks
schema_first file encoding marks h = record {
  candidate = record { page = refl; way = refl; start = refl; depth = refl; path = refl; chain = refl };
  early = λ u i. absurd i;
  marked = h;
}

-- The walk over the schema's tree with a notifier to which nothing was reported before, and what it has found.
module _ {S : Type 0} (receives : S → Notice → S → Type 0) (file : List ℕ) (marks : List Mark) (w t : Notifier S) (old new : Listed)
    (start : w.start.now ≡ at_schema) (unseen : w.has_rows ≡ false) (empty : old.rows ≡ []) where
  by_result : (r : Result (Unit {0}) RunError) → IsWalkedOver {A = Unit {0}} receives TakesRow file [] schema_reference r marks w t old new
      → IsTreeWalked {A = Unit {0}} receives at_schema file [] schema_reference r marks w.reporter.now t.reporter.now
      × ((V : List Reference) → Survey file V → OnOk r (IsSchemaOf file V new.rows t.has_rows))
  by_result (Err e) d = (
    subst (λ at. IsTreeWalked {A = Unit {0}} receives at file [] schema_reference (Err e) marks w.reporter.now t.reporter.now) start
        d.tree,
    λ V s. tt,
  )
  by_result (Ok u) d =
      let items = reported_below file [] (Go schema_reference ∷ []) in
      let P = schema_part file in (
        subst (λ at. IsTreeWalked {A = Unit {0}} receives at file [] schema_reference (Ok u) marks w.reporter.now t.reporter.now) start d.tree,
        λ V s.
            let same : schema file V ≡ schema file P = (by_starts file V s).1 in
            let rows = schema_roots file P old new empty (d.given refl) ∙ ap (λ cs. take last_root_start (rooted_rows cs)) (sym same) in
            record {
              listed = rows;
              has_rows = d.has_rows ∙ ap (λ b. b || list_any is_schema_row items) unseen ∙ schema_rows_reported file V s;
              left = ap (λ ls. errands_at [] (map Follow ls)) (sym (starts_listed file V new.rows rows));
            },
      )

  -- by the header
  module _ (h : HeaderBytes) (is : IsHeaderOf h file) (code : Encoding) (coded : code ≡ encoding_of h.bytes) (named : Root) (root : named ≡ root_of_schema code)
      (first : List Mark) (fresh : AreMarksOf file [] first) where
    abbrev IsWalked : Result (Unit {0}) RunError → Type 0
    IsWalked r = named.encoding ≡ encoding_of file → (W : List Reference) (c : Reference) → IsRootAfter file named W c first → (held : Listed → ℕ)
        → (named.kind ≡ Schema → StartsEmpty TakesRow held old)
        → IsWalkedOver receives TakesRow file W c r marks w t old new

    from_schema : (r : Result (Unit {0}) RunError) → IsWalked r
        → IsTreeWalked receives at_schema file [] schema_reference r marks w.reporter.now t.reporter.now
        × ((V : List Reference) → Survey file V → OnOk r (IsSchemaOf file V new.rows t.has_rows))
    from_schema r walked =
        by_result r (walked (ap (λ (r : Root). r.encoding) root ∙ coded ∙ ap encoding_of is.begins ∙ encoding_within file) [] schema_reference
        (subst (λ r. IsRootAfter file r [] schema_reference first) (sym root) (schema_first file code first fresh)) (λ l. length l.rows)
        (λ k. roots_start_empty old empty))

    pub schema_stopped : (e : RunError) → IsWalked (Err e) → IsSchemaWalked receives file (Err e) marks new.rows w.reporter.now t.reporter.now
    schema_stopped e walked = let d = from_schema (Err e) walked in record { tree = record { marked = tt; reported = d.0.reported }; schema = λ V s. tt }

    pub schema_walked : (any : Bool) → any ≡ t.has_rows → IsWalked (Ok tt)
        → IsSchemaWalked receives file (Ok any) marks new.rows w.reporter.now t.reporter.now
    schema_walked any e walked =
        let d = from_schema (Ok tt) walked in
        record { tree = record { marked = d.0.marked; reported = d.0.reported }; schema = λ V s. subst (IsSchemaOf file V new.rows) (sym e) (d.1 V s) }
