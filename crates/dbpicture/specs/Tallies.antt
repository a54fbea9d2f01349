-- How many pages each start has, and which trees are the largest.
use Rattle.std.specs.Prelude.{ℕ, zero, suc, ◌+◌, Bool, List, [], ◌∷◌, ◌++◌, length, replicate, Option, Some, None, slice_set, slice_index_or}
use Rattle.std.specs.Prelude.{◌==◌, if◌then◌else◌}
use Rattle.std.specs.List.{fold, range_with_len}
use Rattle.dbformat.specs.File.{geometry}
use Rattle.dbformat.specs.Reference.{Reference}
use Rattle.dbformat.specs.Starts.{start_at}
use Rattle.dbscan.specs.Owners.{place_of}
use Rattle.dbscan.specs.declared.place.Place.{Place}
use Rattle.dbscan.specs.declared.place.Place.TheVariants as place
use Rattle.dbscan.specs.Roots.{listed_rows}
use Rattle.dbscan.specs.StartTable.{most_starts}
use Rattle.dbpicture.specs.Owners.{capped_pages, first_most, is_overflow, no_share, one_page, rank_of, share_sum}
use Rattle.dbpicture.specs.declared.owner_shares.Share.{Share}
use Rattle.dbpicture.specs.declared.tally.PageTally.TheInside.{Inside}

-- ---- the pages of each start

-- A tally as contracts see it: what each start has, and how many pages have a fixed use or are nobody's.
pub record PagesTallied : Type 0 where
  pub starts : List Share
  pub fixed : ℕ
  pub nobody : ℕ

-- what the fields hold
abbrev pub pages_tallied : {A : Type 0} → Inside A → PagesTallied
pages_tallied t = record { starts = t.starts; fixed = t.fixed; nobody = t.nobody }

-- what start k has, and how many pages
abbrev pub share_at : List Share → ℕ → Share
share_at starts k = slice_index_or starts k no_share

abbrev pub pages_at : List Share → ℕ → ℕ
pages_at starts k = (share_at starts k).pages

-- no page is counted
abbrev pub none_tallied : PagesTallied
none_tallied = record { starts = replicate most_starts no_share; fixed = 0; nobody = 0 }

-- one more page of a start
abbrev pub start_counted : ℕ → Bool → PagesTallied → PagesTallied
start_counted k over t = record t { starts = slice_set t.starts k (one_page over (share_at t.starts k)) }

-- one more page that is this and belongs to this start
abbrev pub page_counted : Place → Option ℕ → PagesTallied → PagesTallied
page_counted place.Fixed start t = record t { fixed = capped_pages (t.fixed + 1) }
page_counted at (Some k) t = start_counted k (is_overflow at) t
page_counted at None t = record t { nobody = capped_pages (t.nobody + 1) }

-- the tally of all pages of a file, each counted as what it is and where it belongs
abbrev pub tally_of : List ℕ → List Reference → PagesTallied
tally_of file V = fold (λ t p. page_counted (place_of file V p) (start_at V p) t) none_tallied (range_with_len 1 (geometry file).pages)

-- ---- the largest trees

-- how many pages a start has that is not among some, and else 0
abbrev pub left_pages : (ℕ → ℕ) → List ℕ → ℕ → ℕ
left_pages pages taken k = if rank_of taken (Some k) == 12 then pages k else 0

-- the one with the most pages of those below n that are not among some, the first of several
abbrev pub next_start : (ℕ → ℕ) → ℕ → List ℕ → ℕ
next_start pages n taken = first_most (left_pages pages taken) n

-- these and that one, if it has a page
abbrev pub one_tree_more : (ℕ → ℕ) → ℕ → List ℕ → List ℕ
one_tree_more pages n taken =
    if left_pages pages taken (next_start pages n taken) == 0 then taken else taken ++ next_start pages n taken ∷ []

-- the largest `count` trees of those with starts below n, by how many pages they have, and then by their starts
unfoldable pub largest_trees : (ℕ → ℕ) → ℕ → ℕ → List ℕ
largest_trees pages n zero = []
largest_trees pages n (suc count) = one_tree_more pages n (largest_trees pages n count)

-- those of a file: trees have the first starts, the schema's and one for each root page that it names
abbrev pub largest_of : List ℕ → List Reference → List ℕ
largest_of file V = largest_trees (pages_at (tally_of file V).starts) (length (listed_rows file V) + 1) 12

-- one tree more beside the largest, where start k has pages and is none of these
abbrev pub other_counted : List Share → List ℕ → ℕ → ℕ × Share → ℕ × Share
other_counted starts largest k s =
    if left_pages (pages_at starts) largest k == 0 then s else (capped_pages (s.0 + 1), share_sum s.1 (share_at starts k))

-- how many other trees there are, of those with starts below n, and what these have together
unfoldable pub others : List Share → List ℕ → ℕ → ℕ × Share
others starts largest zero = (0, no_share)
others starts largest (suc n) = other_counted starts largest n (others starts largest n)
