use Rattle.dbscan.proofs.Common.{◌≡◌, ◌≤◌, false, count_by, is_some, is_unmarked, range_with_len, option_map_or, named_page}
use Rattle.dbscan.proofs.looks.names_of.Given as goal

-- of the first pages that it names
abbrev pub invariant-loop-i : goal.invariant-loop-i
invariant-loop-i g l =
    (l.named.pages ≡ count_by (λ i. is_some (named_page l.view i)) (range_with_len 0 l.i))
    × (l.named.lost ≡ count_by (λ i. option_map_or (is_unmarked l.marks) (named_page l.view i) false) (range_with_len 0 l.i))
    × (l.named.pages ≤ l.i) × (l.named.lost ≤ l.i)
