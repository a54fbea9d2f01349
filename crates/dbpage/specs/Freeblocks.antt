-- How far a walk of the freeblocks of a page has come.
use Rattle.std.specs.Prelude.{◌≡◌, ℕ, ◌≤◌, List, [], ◌∷◌, ◌++◌, length, take, Option, MatchOption}
use Rattle.dbformat.specs.Head.{View}
use Rattle.dbformat.specs.Coverage.{Span, freeblocks, freeblocks_from, offset_after}

-- a page and the good freeblocks of it that are still to come
pub record Left : Type 0 where
  pub page : View
  pub left : List Span

-- a step of the walk: the first that is left comes, or none is left; the page stays
abbrev pub Walks : Left → Option Span → Left → Type 0
Walks old came new = MatchOption came ((old.left ≡ []) × (new.left ≡ [])) (λ f. old.left ≡ f ∷ new.left) × (new.page ≡ old.page)

-- the walk has given `number` freeblocks, the last of which ended at end, and the next is at offset
pub record HasPassed (page : View) (number end offset : ℕ) : Type 0 where
  pub whole : take number (freeblocks page) ++ freeblocks_from page.usable page end offset ≡ freeblocks page
  pub behind : offset_after page (take number (freeblocks page)) ≡ offset
  pub few : number ≤ length (freeblocks page)
