-- The bytes at the levels of a bench after a page was read, and the number of pages that are left without a mark.
use Rattle.std.proofs.Common.{◌≡◌, ℕ, suc, ◌-◌, ◌*◌, ◌<◌, ◌≤◌, false, cond, List, [], ◌∷◌, length, set, Some, Result, sym, ap}
use Rattle.std.proofs.Common.{subst, arith, ◌∙◌, slice_get, count_by, IfSome, OnOk}
use Rattle.dbwalk.proofs.Common.{Changes, Pages, SourceState, IsUse, page_mark, unmarked_pages, KeepsMarks, Mark, Unmarked, HasPageAt, option_map_or, nat_tests}
use Rattle.dbwalk.proofs.Common.{length-map, Geometry, Reads}
use Rattle.std.proofs.lemmas.Grind.{elements}
use Rattle.dbwalk.specs.Beside.{IsPageBuffer}
use Rattle.dbformat.specs.FixedPages.{IsInRange}
use Rattle.dbsource.specs.Answers.{IsRangeOf, Step, answer}
use Rattle.dbsource.specs.Sources.{HasLog}
use Rattle.dbsource.specs.declared.source.ReadFailed.{ReadFailed}
use Rattle.dbmarks.specs.Marking.{is_none, cleared}
use Rattle.dbmarks.proofs.Readings.{log_load, log_page}
use Rattle.dbwalk.specs.Found.{IsUsable}
use Rattle.dbsurvey.proofs.Lists.{count_more}

-- a page has all usable bytes
pub whole_page : {g h : Geometry} {n : ℕ} → g ≡ h → IsInRange g → n ≡ h.page_size → g.usable ≤ n
whole_page e range l = omega (arith, range.usable, ap (λ g. g.page_size) e)

pub usable_page : {g h : Geometry} {bytes : List ℕ} → g ≡ h → IsInRange g → length bytes ≡ h.page_size → IsUsable g.usable bytes
usable_page e range l = record { whole = whole_page e range l; least = range.usable.0; most = omega (arith, range.usable, range.page_size) }

-- a buffer of a bench
pub page_buffer : {g h : Geometry} {bytes : List ℕ} → g ≡ h → IsInRange g → length bytes ≡ h.page_size → IsPageBuffer g.usable bytes
page_buffer e range l =
    let same = ap (λ g. g.page_size) e in
    record { least = range.usable.0; within = whole_page e range l; most = omega (arith, range.page_size, same, l) }

get_set : {X : Type 0} (xs : List X) (i : ℕ) (x y : X) → slice_get (set xs i x) i ≡ Some y → y ≡ x
get_set xs i x y e = grind (arith, elements)

get_below : {X : Type 0} (xs : List X) (i j : ℕ) (x : X) → j < i → slice_get (set xs i x) j ≡ slice_get xs j
get_below xs i j x l = grind (arith, elements)

-- a page got its mark, and was then read, or the source failed
pub log_entered : {step : Step} {old new : SourceState} {size : ℕ} {marks marks' : List Mark} {p q : ℕ} {m : Mark} (r : Result (Unit {0}) ReadFailed)
    (bytes : List ℕ) → q ≡ p → (page_mark marks q ≡ Some Unmarked) × (marks' ≡ set marks (q - 1) m) → IsUse m → new.bytes ≡ old.bytes → length bytes ≡ size
    → step old.trail (answer r ((p - 1) * size) bytes) new.trail × OnOk r (IfSome old.bytes (λ file. IsRangeOf file ((p - 1) * size) bytes))
    → HasLog step (Reads size marks marks') (λ file. OnOk r (IsRangeOf file ((p - 1) * size) bytes)) old new
log_entered {size = size} {marks = marks} {marks' = marks'} {p = p} {m = m} r bytes is put used told whole read =
    let k = subst (λ q. (page_mark marks q ≡ Some Unmarked) × (marks' ≡ set marks (q - 1) m)) is put in
    log_page _ size marks marks' p m k.0 k.1 used (log_load size p bytes r told whole read) (λ file h. h)

-- a page was read to a level
module _ {old new : Pages} {level : ℕ} {P : List ℕ → Type 0} (read : Changes old level P new) (low : level < 20) where
  abbrev after : Pages
  after = record old { levels = set old.levels level read.bytes }

  changed : new ≡ after
  changed = let is = read.only in grind (arith, nat_tests)

  pub geometry_kept : new.geometry ≡ old.geometry
  geometry_kept = ap (λ (b : Pages). b.geometry) changed

  levels_are : new.levels ≡ set old.levels level read.bytes
  levels_are = ap (λ (b : Pages). b.levels) changed

  pub read_there : (page : List ℕ) → read.bytes ≡ page → HasPageAt new.levels level page
  read_there page e y h = get_set old.levels level read.bytes y (ap (λ ls. slice_get ls level) (sym levels_are) ∙ h) ∙ e

  pub below_kept : (n : ℕ) → n < level → slice_get new.levels n ≡ slice_get old.levels n
  below_kept n l = ap (λ ls. slice_get ls n) levels_are ∙ get_below old.levels level n read.bytes l

-- pages without a mark, where marks stay

fewer_by : (xs ys : List Mark) → length ys ≡ length xs → ((i : ℕ) → option_map_or is_none (slice_get xs i) false ≡ false → slice_get ys i ≡ slice_get xs i)
    → count_by is_none ys ≤ count_by is_none xs
fewer_by [] [] l h = omega arith
fewer_by [] (y ∷ ys) l h = absurd (omega arith)
fewer_by (x ∷ xs) [] l h = absurd (omega arith)
fewer_by (x ∷ xs) (y ∷ ys) l h =
    let rest : count_by is_none ys ≤ count_by is_none xs = fewer_by xs ys (omega arith) (λ i u. h (suc i) u) in
    let a = count_more is_none x xs in
    let b = count_more is_none y ys in
    let same = h 0 in
    let one : ◌≤◌ (cond (is_none y) 1 0) (cond (is_none x) 1 0) = grind arith in
    omega arith

pub keeps_fewer : (old new : List Mark) → KeepsMarks old new → unmarked_pages new ≤ unmarked_pages old
keeps_fewer old new k = fewer_by old new (sym (length-map new cleared) ∙ ap length k.fixed ∙ length-map old cleared)
    (λ i u. sym (at new i) ∙ k.marks (suc i) (ap (λ o. option_map_or is_none o false) (at old i) ∙ u) ∙ at old i)
  where
    at : (marks : List Mark) (i : ℕ) → page_mark marks (suc i) ≡ slice_get marks i
    at marks i = grind (arith, nat_tests)
