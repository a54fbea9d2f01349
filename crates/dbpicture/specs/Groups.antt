-- The square of a group of pages, by its pages, how many of them each owner has, and its faults; and how it is divided in six bands where there
-- are several owners.
use Rattle.std.specs.Prelude.{ℕ, zero, suc, ◌+◌, ◌-◌, ◌*◌, Bool, true, false, not, nat_lt, List, slice_set, [], ◌∷◌, ◌++◌, get_or, replicate}
use Rattle.std.specs.Prelude.{slice_get, codes, decimal}
use Rattle.std.specs.Prelude.{◌==◌, ◌&&◌, if◌then◌else◌}
use Rattle.std.specs.Option.{option_map_or}
use Rattle.std.specs.List.{concat, flat_map, list_any, range_with_len, sum_by}
use Rattle.dbpicture.specs.Pieces.{shown_text}
use Rattle.dbpicture.specs.Owners.{capped_pages, first_most, has_pages, is_shaded, share_of}
use Rattle.dbpicture.specs.Marks.{extent, group_pages_text, shade_letter, stroke}
use Rattle.dbpicture.specs.Faults.{faults_text, frame_of}
use Rattle.dbpicture.specs.declared.bands.Bands.{Bands}
use Rattle.dbpicture.specs.declared.owner_shares.OwnerShares.{OwnerShares}
use Rattle.dbpicture.specs.declared.faults.Sign.TheVariants.{Faulty, Framed}
use Rattle.dbpicture.specs.declared.faults.Sign.{Sign}
use Rattle.dbpicture.specs.declared.grid.Width.{Width}
use Rattle.dbpicture.specs.declared.group.GroupSquare.{GroupSquare}

-- What an owner claims that has `pages` of a square's `all` pages and some bands: what its pages are worth beyond these bands, where a band is
-- worth a sixth of all pages. An owner without a band claims more than any that has one, and one without a page claims nothing.
abbrev pub claim : ℕ → ℕ → ℕ → ℕ
claim pages bands all = if pages == 0 then 0 else (if bands == 0 then pages * 6 + all * 6 else pages * 6 - bands * all)

abbrev pub claims : OwnerShares → ℕ → List ℕ → ℕ → ℕ
claims shares all heights owner = claim (share_of shares owner).pages (get_or heights owner 0) all

-- the owner that gets the next band: the one that claims most, of several the first
abbrev pub next_owner : OwnerShares → ℕ → List ℕ → ℕ
next_owner shares all heights = first_most (claims shares all heights) 17

-- one band more of an owner
abbrev pub one_band : ℕ → List ℕ → List ℕ
one_band owner heights = slice_set heights owner (capped_pages (get_or heights owner 0 + 1))

-- how many bands each owner has after the first n were given
unfoldable pub given : OwnerShares → ℕ → ℕ → List ℕ
given shares all zero = replicate 17 0
given shares all (suc n) = one_band (next_owner shares all (given shares all n)) (given shares all n)

-- the bands of a square
abbrev pub bands_of : OwnerShares → ℕ → Bands
bands_of shares all = record { heights = given shares all 6 }

-- what comes after a number of pages of the owner with a number
abbrev pub words : ℕ → List ℕ
words owner =
    if nat_lt owner 12 then codes " in " else (if owner == 12 then codes " in other trees" else (if owner == 13 then codes " in the freelist" else
    (if owner == 14 then codes " of fixed use" else (if owner == 15 then codes " in no tree" else codes " of one byte throughout"))))

-- the name of the tree of a rank, as it is shown in at most `width` columns, if there is such a tree
abbrev pub name_text : List (List ℕ) → ℕ → ℕ → List ℕ
name_text names rank width = option_map_or (λ name. shown_text name width) (slice_get names rank) []

-- what comes before a number of pages
abbrev pub owner_mark : Bool → List ℕ
owner_mark true = codes ": "
owner_mark false = codes ", "

-- how many pages an owner has, and who it is, if it has any; after a colon where it is the first, and else after a comma
abbrev pub owner_text : OwnerShares → List (List ℕ) → Bool → ℕ → List ℕ
owner_text c names is_first number =
    if has_pages c number
    then concat (owner_mark is_first ∷ decimal (share_of c number).pages ∷ words number ∷ []) ++ name_text names number 72
    else []

-- whether no owner before this one has a page
abbrev pub is_first : OwnerShares → ℕ → Bool
is_first c number = not (list_any (has_pages c) (range_with_len 0 number))

-- the same of all owners
abbrev pub owners_text : OwnerShares → List (List ℕ) → List ℕ
owners_text c names = flat_map (λ number. owner_text c names (is_first c number) number) (range_with_len 0 17)

-- the title after its first word
unfoldable pub title_text : GroupSquare → List (List ℕ) → (Sign → Bool) → List ℕ
title_text r names f =
    group_pages_text r.first r.last ++ (owners_text r.shares names ++ faults_text f)

-- the square of pages that all have the owner with this number
unfoldable pub plain_text : GroupSquare → Width → List (List ℕ) → (Sign → Bool) → ℕ → List ℕ
plain_text r width names f owner =
    concat (codes "<rect class=\"" ∷ shade_letter (is_shaded (share_of r.shares owner)) ∷ decimal owner ∷ codes "\" x=\"" ∷ decimal r.x
    ∷ extent width (frame_of f)
    ∷ stroke width (frame_of f) ∷ codes "><title>page" ∷ [])
    ++ (title_text r names f ++ codes "</title></rect>\n")

-- the band of an owner, of this height and from this line on, if it has one
abbrev pub band_text : GroupSquare → ℕ → ℕ → ℕ → List ℕ
band_text r number top height =
    if height == 0 then []
    else concat (codes "<rect class=\"" ∷ shade_letter (is_shaded (share_of r.shares number)) ∷ decimal number ∷ codes "\" x=\"" ∷ decimal r.x
    ∷ codes "\" y=\"" ∷ decimal top ∷ codes "\" width=\"6\" height=\"" ∷ decimal height ∷ codes "\"/>" ∷ [])

-- the bands, each below those before it
abbrev pub band_top : Bands → ℕ → ℕ
band_top bands number = capped_pages (sum_by (λ owner. get_or bands.heights owner 0) (range_with_len 0 number))

abbrev pub bands_text : GroupSquare → Bands → List ℕ
bands_text r bands = flat_map (λ number. band_text r number (band_top bands number) (get_or bands.heights number 0)) (range_with_len 0 17)

-- the frame of a square in bands that begins there, if it has one
abbrev pub band_frame : Bool → ℕ → List ℕ
band_frame is_framed x =
    if is_framed
    then concat (codes "<rect width=\"6\" height=\"6\" stroke=\"#BE0700\" stroke-width=\"2\" x=\"" ∷ decimal x ∷ codes "\" fill=\"none\"/>" ∷ [])
    else []

-- the square of pages of several owners, divided in bands: a weak frame lies below these, and a strong one above them
unfoldable pub mixed_text : GroupSquare → List (List ℕ) → (Sign → Bool) → Bands → List ℕ
mixed_text r names f bands =
    codes "<g><title>page" ++ (title_text r names f ++ (codes "</title>" ++ (band_frame (f Faulty && not (f Framed)) r.x
    ++ (bands_text r bands ++ (band_frame (f Framed) r.x ++ codes "</g>\n")))))

-- how many pages it has
abbrev pub group_pages : GroupSquare → ℕ
group_pages r = capped_pages (r.last - r.first + 1)

-- the owner of the first band: the one with the most pages
abbrev pub first_owner : GroupSquare → ℕ
first_owner r = next_owner r.shares (group_pages r) (replicate 17 0)

-- the square of a group of pages: in one fill where all of them have one owner, and else in bands
unfoldable pub group_text : GroupSquare → Width → List (List ℕ) → (Sign → Bool) → List ℕ
group_text r width names f =
    if (share_of r.shares (first_owner r)).pages == group_pages r then plain_text r width names f (first_owner r)
    else mixed_text r names f (bands_of r.shares (group_pages r))
