-- The picture of the file that a desk is of.
use Rattle.std.proofs.Common.{◌≡◌, ℕ, zero, suc, ◌+◌, ◌≤◌, Bool, cond, List, count_by, refl, sym, ap, ap₂, ◌∙◌, arith}
use Rattle.std.specs.List.{range_with_len}
use Rattle.dbsurvey.proofs.Ranges.{count_push}
use Rattle.dbformat.specs.Header.{encoding}
use Rattle.dbformat.specs.Reference.{Reference}
use Rattle.dbformat.specs.SchemaRow.{SchemaRow}
use Rattle.dbformat.proofs.HeaderPrefix.{encoding_within}
use Rattle.dbsource.specs.HeaderBytes.{HeaderBytes}
use Rattle.dbsource.specs.Headers.{IsHeaderOf}
use Rattle.dbscan.specs.Texts.{tree_of_row, tree_text}
use Rattle.dbscan.specs.Roots.{AreListed}

-- the names of trees are those of the file
pub known_trees : (file : List ℕ) (V : List Reference) (h : HeaderBytes) (rows : List SchemaRow) → IsHeaderOf h file → AreListed file V rows
    → tree_of_row (encoding h.bytes) rows ≡ tree_text file V
known_trees file V h rows header listed =
    ap (λ e. tree_of_row e rows) (ap encoding header.begins ∙ encoding_within file) ∙ ap (tree_of_row (encoding file)) listed

-- ---- how many pages have each frame

pub same_count : (f g : ℕ → Bool) (m : ℕ) → ((p : ℕ) → 1 ≤ p → p ≤ m → f p ≡ g p) → count_by f (range_with_len 1 m) ≡ count_by g (range_with_len 1 m)
same_count f g zero h = refl
same_count f g (suc m) h =
    let before = same_count f g m (λ p l k. h p l (omega (arith, k))) in
    let here = h (m + 1) (omega arith) (omega arith) in
    let next : suc m ≡ m + 1 = omega arith in
    let at : 1 + m ≡ m + 1 = omega arith in
    ap (λ k. count_by f (range_with_len 1 k)) next ∙ count_push f 1 m (m + 1) at
    ∙ ap₂ (λ a (b : Bool). a + cond b 1 0) before here
    ∙ sym (ap (λ k. count_by g (range_with_len 1 k)) next ∙ count_push g 1 m (m + 1) at)
