-- Whose the pages of a file are, as a picture keeps them apart: of one of the largest trees, of another tree, of the freelist, of fixed
-- use, or nobody's; and how many of some pages each owner has, and how many of these are overflow pages. Pages that are one byte throughout
-- count as those of an owner of their own.
use Rattle.std.specs.Prelude.{ℕ, ◌/◌, min, Bool, not, nat_lt, get_or, ◌==◌, true, false, List, Option, Some, None, position, zero, suc, ◌+◌, replicate}
use Rattle.std.specs.Prelude.{slice_set, ◌&&◌, if◌then◌else◌}
use Rattle.dbpicture.specs.declared.owner_shares.OwnerShares.{OwnerShares}
use Rattle.dbpicture.specs.declared.owner_shares.Share.{Share}
use Rattle.std.specs.Option.{option_map_or}
use Rattle.std.specs.List.{fold, list_any, range_with_len}
use Rattle.dbformat.specs.Reference.{Reference}
use Rattle.dbformat.specs.Survey.{Survey}
use Rattle.dbmarks.specs.Marking.{AreMarksOf}
use Rattle.dbmarks.specs.declared.marks.Mark.{Mark}
use Rattle.dbscan.specs.Trees.{AreTrees}
use Rattle.dbscan.specs.declared.place.Place.{Place}
use Rattle.dbscan.specs.declared.place.Place.TheVariants as place

-- no pages
abbrev pub no_share : Share
no_share = record { pages = 0; overflow = 0 }

-- the pages of the owner with a number
abbrev pub share_of : OwnerShares → ℕ → Share
share_of c number = get_or c.shares number no_share

-- whether that owner has one of the pages
abbrev pub has_pages : OwnerShares → ℕ → Bool
has_pages c number = not ((share_of c number).pages == 0)

-- whether most of some pages are overflow pages
abbrev pub is_shaded : Share → Bool
is_shaded s = nat_lt (s.pages / 2) s.overflow

-- whether a page that is this is an overflow page
abbrev pub is_overflow : Place → Bool
is_overflow (place.OverflowOf from) = true
is_overflow (place.OverflowAfter from) = true
is_overflow _ = false

-- the rank of start k among the largest trees; all others have rank 12
abbrev pub rank_of : List ℕ → Option ℕ → ℕ
rank_of largest None = 12
rank_of largest (Some k) = option_map_or (λ rank. min rank 12) (position (λ j. j == k) largest) 12

-- the number of the owner of a page that is this and belongs to this start: the twelve largest trees by their ranks, all others, the freelist, fixed
-- use, and nobody
abbrev pub owner_by : List ℕ → Place → Option ℕ → ℕ
owner_by largest place.Trunk start = 13
owner_by largest place.FreeLeaf start = 13
owner_by largest place.Fixed start = 14
owner_by largest place.Nowhere start = 15
owner_by largest _ start = rank_of largest start

-- the number of the owner that a page is shown for: pages that are one byte throughout have one of their own
abbrev pub shown_owner : Bool → ℕ → ℕ
shown_owner blank owner = if blank then 16 else owner

-- whether a page is shown in the shade of overflow pages
abbrev pub is_lighter : Bool → Place → Bool
is_lighter blank place = is_overflow place && not blank

-- whether a page is one of some
abbrev pub is_one_of : List ℕ → ℕ → Bool
is_one_of pages p = list_any (λ q. q == p) pages

-- ---- what is remembered of a file

-- What is remembered is of a file with survey V: the marks are those of its visits, and what is known of the trees of its pages is right.
pub record IsOf (marked : List Mark) (known : List ℕ) (file : List ℕ) (V : List Reference) : Type 0 where
  pub survey : Survey file V
  pub marks : AreMarksOf file V marked
  pub trees : AreTrees V known

-- a number of pages as it is counted: it stops at the greatest number of 32 bits, which no file reaches
abbrev pub capped_pages : ℕ → ℕ
capped_pages n = min n 4294967295

-- one page more
abbrev pub one_page : Bool → Share → Share
one_page over s = record { pages = capped_pages (s.pages + 1); overflow = capped_pages (s.overflow + (if over then 1 else 0)) }

-- those of two together
abbrev pub share_sum : Share → Share → Share
share_sum s t = record { pages = capped_pages (s.pages + t.pages); overflow = capped_pages (s.overflow + t.overflow) }

-- no owner has a page
abbrev pub no_shares : OwnerShares
no_shares = record { shares = replicate 17 no_share }

-- one page more of an owner
abbrev pub owner_counted : ℕ → Bool → OwnerShares → OwnerShares
owner_counted owner over c = record { shares = slice_set c.shares owner (one_page over (share_of c owner)) }

-- one more page, by the largest trees, by what it is, the start that it belongs to, and whether it is one byte throughout
abbrev pub page_shared : List ℕ → (ℕ → Place) → (ℕ → Option ℕ) → (ℕ → Bool) → OwnerShares → ℕ → OwnerShares
page_shared largest place start blank c p =
    owner_counted (shown_owner (blank p) (owner_by largest (place p) (start p))) (is_lighter (blank p) (place p)) c

-- what each owner has of `count` pages from one on
abbrev pub shares_by : List ℕ → (ℕ → Place) → (ℕ → Option ℕ) → (ℕ → Bool) → ℕ → ℕ → OwnerShares
shares_by largest place start blank first count = fold (page_shared largest place start blank) no_shares (range_with_len first count)

-- the first of the numbers below n that has the most
unfoldable pub first_most : (ℕ → ℕ) → ℕ → ℕ
first_most much zero = 0
first_most much (suc n) = if nat_lt (much (first_most much n)) (much n) then n else first_most much n
