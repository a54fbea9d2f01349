-- The lines of the statistics by the pieces that are put.
use Rattle.dbreport.proofs.Common.{◌≡◌, ℕ, ◌+◌, ◌-◌, ◌*◌, ◌<◌, List, [], ◌∷◌, ◌++◌, length, drop, get_or, add-one, drop-cons, refl, sym, ap, ◌∙◌, append_assoc}
use Rattle.dbreport.proofs.Common.{codes, decimal, flat_map, counted, other_line, page_line, tree_line, StatRow, OtherPage, child_text, page_end, tree_end}
use Rattle.dbreport.proofs.Common.{sums_of, join_with_byte, column, counts_text, offset_text}
use Rattle.dbformat.specs.Counts.{no_counts}
use Rattle.dbformat.specs.Lines.{chain_text, columns, counts_columns, line_feed, no_text, other_text, pagetype_text, path_text, tab}
use Rattle.dbreport.specs.declared.statistics.sums.Sums.{Sums}
use Rattle.dbreport.proofs.SumLemmas.{counted-mul}

-- columns after others, and the end of the line
abbrev ended : List (List ℕ) → List ℕ
ended [] = line_feed ∷ []
ended (x ∷ xs) = column x ++ ended xs

-- the first column, and the others
columns_first : (x : List ℕ) (xs : List (List ℕ)) → columns (x ∷ xs) ≡ x ++ ended xs
columns_first x [] = refl
columns_first x (y ∷ xs) = append_assoc x (tab ∷ join_with_byte tab (y ∷ xs)) (line_feed ∷ []) ∙ ap (λ w. x ++ (tab ∷ w)) (columns_first y xs)

-- some columns, and others after them
ended-append : (xs ys : List (List ℕ)) → ended (xs ++ ys) ≡ flat_map column xs ++ ended ys
ended-append [] ys = refl
ended-append (x ∷ xs) ys = ap (λ w. column x ++ w) (ended-append xs ys) ∙ sym (append_assoc (column x) (flat_map column xs) (ended ys))

-- parts of a line, one after another
page_parts : (kids chain a b counts g h z : List ℕ) → (kids ++ chain) ++ (a ++ (b ++ (counts ++ (g ++ (h ++ z))))) ≡ kids
    ++ (chain ++ a ++ b ++ counts ++ (g ++ h ++ z))
page_parts kids chain a b counts g h z = simp append_assoc

tree_parts : (a b c counts g h z : List ℕ) → a ++ (b ++ (c ++ (counts ++ (g ++ (h ++ z))))) ≡ a ++ b ++ c ++ counts ++ g ++ h ++ z
tree_parts a b c counts g h z = simp append_assoc

other_parts : (a p w counts g h z : List ℕ) → a ++ p ++ w ++ counts ++ (g ++ h ++ z) ≡ a ++ (p ++ (w ++ (counts ++ (g ++ (h ++ z)))))
other_parts a p w counts g h z = simp append_assoc

-- the row of a page: the name, a tab and a slash, the children, and the rest
pub page_pieces : (name : List ℕ) (size : ℕ) (row : StatRow)
    → page_line name size row ≡ name ++ (codes "\t/" ++ (flat_map child_text row.path ++ page_end size row))
unfolding path_text
page_pieces name size row =
    let kids = flat_map child_text row.path in
    let chain = chain_text row.chain in
    let page = column (decimal row.page) in
    let type = column (pagetype_text row.pagetype) in
    let offset = decimal ((row.page - 1) * size) in
    columns_first name (path_text row.path row.chain ∷ decimal row.page ∷ pagetype_text row.pagetype
    ∷ (counts_columns row.counts ++ offset ∷ decimal size ∷ []))
    ∙ ap (λ w. name ++ (tab ∷ 47 ∷ ((kids ++ chain) ++ (page ++ (type ++ w))))) (ended-append (counts_columns row.counts) (offset ∷ decimal size ∷ []))
    ∙ ap (λ w. name ++ (tab ∷ 47 ∷ w)) (page_parts kids chain page type (counts_text row.counts) (column offset) (column (decimal size)) (line_feed ∷ []))

-- the row of a tree: the name, and the rest by the sums
abbrev tree_columns : Sums → ℕ → List (List ℕ)
tree_columns sums bytes = no_text ∷ decimal sums.pages ∷ no_text ∷ (counts_columns sums.counts ++ no_text ∷ decimal bytes ∷ [])

pub tree_pieces : (name : List ℕ) (size : ℕ) (rows : List StatRow) (sums : Sums) → sums ≡ sums_of rows
    → tree_line name size rows ≡ name ++ tree_end size sums
tree_pieces name size rows sums e =
    let s = sums_of rows in
    let bytes = decimal (counted (s.pages * size)) in
    columns_first name (tree_columns s (counted (length rows * size)))
    ∙ ap (λ n. name ++ ended (tree_columns s n)) (sym (counted-mul (length rows) size))
    ∙ ap (λ w. name ++ (column no_text ++ (column (decimal s.pages) ++ (column no_text ++ w)))) (ended-append (counts_columns s.counts) (no_text ∷ bytes ∷ []))
    ∙ ap (λ w. name ++ w) (tree_parts (column no_text) (column (decimal s.pages)) (column no_text) (counts_text s.counts) (column no_text) (column bytes)
    (line_feed ∷ []))
    ∙ ap (λ (s : Sums). name ++ tree_end size s) (sym e)

-- what is left of a path, by its next child
pub next_child : (path : List ℕ) (i : ℕ) → i < length path
    → flat_map child_text (drop i path) ≡ child_text (get_or path i 0) ++ flat_map child_text (drop (i + 1) path)
next_child path i h = rw (add-one, drop-cons path i 0 h) refl

-- the row of another page, part by part
pub other_pieces : (size page : ℕ) (what : OtherPage)
    → codes "-\t-" ++ column (decimal page) ++ column (other_text what) ++ counts_text no_counts ++ offset_text page size ≡ other_line size page what
other_pieces size page what =
    let offset = decimal ((page - 1) * size) in
    let others = counts_columns no_counts ++ offset ∷ decimal size ∷ [] in
    other_parts (codes "-\t-") (column (decimal page)) (column (other_text what)) (counts_text no_counts) (column offset) (column (decimal size))
    (line_feed ∷ [])
    ∙ ap (λ w. codes "-\t-" ++ (column (decimal page) ++ (column (other_text what) ++ w)))
    (sym (ended-append (counts_columns no_counts) (offset ∷ decimal size ∷ [])))
    ∙ sym (columns_first no_text (no_text ∷ decimal page ∷ other_text what ∷ others))
