-- What the statistics count: statements of a contract.
use Rattle.std.specs.Prelude.{◌≡◌, ℕ, true, List, None}
use Rattle.dbformat.specs.File.{refusal}
use Rattle.dbformat.specs.Lines.{AddsUpToAllPages}
use Rattle.dbformat.specs.Reference.{Reference}
use Rattle.dbformat.specs.Survey.{Survey}
use Rattle.dbformat.specs.Rows.{StatForm, CountsEachPageOnce, CountsNoPageTwice}

-- the rows of a form that shows all pages count each page of the file once
abbrev pub CountsPagesOnce : List ℕ → Type 0
CountsPagesOnce file = (V : List Reference) → Survey file V → (form : StatForm) → form.all ≡ true → CountsEachPageOnce form file V

-- and where the file is read their sizes add up to those of all pages
abbrev pub SizesAddUp : List ℕ → Type 0
SizesAddUp file = refusal file ≡ None → (V : List Reference) → Survey file V → (form : StatForm) → form.all ≡ true → AddsUpToAllPages form file V

-- in every form a page is counted once at most
abbrev pub CountsPagesOnceAtMost : List ℕ → Type 0
CountsPagesOnceAtMost file = (V : List Reference) → Survey file V → (form : StatForm) → CountsNoPageTwice form file V
