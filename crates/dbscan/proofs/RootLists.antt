-- The rows of a list of roots, as its fields hold them, where a row is added.
use Rattle.dbscan.proofs.Common.{◌≡◌, ℕ, List, [], ◌∷◌, ◌++◌, length, map, Option, refl, ap, ap₂, ◌∙◌, arith, map-append, SchemaRow, Listed, kept_row}
use Rattle.dbscan.proofs.Common.{IsWithin, All, common_steps, All-head, All-tail, take-append-le, drop-append-le, name_in, entry_row, Grows}
use Rattle.dbscan.specs.declared.roots.Span.{Span}
use Rattle.dbscan.specs.declared.roots.RootRow.{RootRow}

-- a name stays the same if more bytes come after it
name_kept : (names more : List ℕ) (span : Option Span) → IsWithin (length names) span → name_in (names ++ more) span ≡ name_in names span
name_kept names more span h = grind (arith, common_steps, drop-append-le, take-append-le)

pub rows_kept : (names more : List ℕ) (es : List RootRow) → All (λ e. IsWithin (length names) e.name) es → map (entry_row (names ++ more)) es
    ≡ map (entry_row names) es
rows_kept names more [] h = refl
rows_kept names more (e ∷ es) h =
    let one : entry_row (names ++ more) e ≡ entry_row names e =
    ap (λ n. record { kind = e.kind; root = e.page; name = n }) (name_kept names more e.name (All-head (λ e. IsWithin (length names) e.name) e es h)) in
    ap₂ (λ x xs. x ∷ xs) one (rows_kept names more es (All-tail (λ e. IsWithin (length names) e.name) e es h))

-- the rows with one more
pub row_added : (names news : List ℕ) (es fs : List RootRow) (e : RootRow) (row : SchemaRow) (rows : List SchemaRow) (n : ℕ) → Grows names news
    → All (λ e. IsWithin (length names) e.name) es → fs ≡ es ++ e ∷ [] → entry_row news e ≡ kept_row row → map (entry_row names) es ≡ rows
    → ◌≡◌ {A = Listed} (record { rows = map (entry_row news) fs; refusals = n }) (record { rows = rows ++ kept_row row ∷ []; refusals = n })
row_added names news es fs e row rows n g w f k r =
    let first : map (entry_row news) es ≡ rows = ap (λ b. map (entry_row b) es) g.is ∙ rows_kept names g.added es w ∙ r in
    let all : map (entry_row news) fs ≡ rows ++ kept_row row ∷ [] =
    ap (map (entry_row news)) f ∙ map-append (entry_row news) es (e ∷ []) ∙ ap₂ (λ x y. x ++ y ∷ []) first k in
    ap (λ x. record { rows = x; refusals = n }) all
