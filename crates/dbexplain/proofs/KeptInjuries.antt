-- The lines of injuries, one after another, by what is kept of them.
use Rattle.std.proofs.Common.{◌≡◌, ℕ, zero, suc, ◌<◌, Option, Some, None, List, [], ◌∷◌, ◌++◌, length, take, map, refl, sym, ap, ap₂, ◌∙◌, arith}
use Rattle.std.proofs.Common.{append_assoc}
use Rattle.std.specs.Prelude.{flat_map, fold}
use Rattle.std.specs.Option.{option_map_or}
use Rattle.dbexplain.proofs.Common.{fault_line, TracedFault, injuries, Held, injury_text, kept_injury_text, Reference}
use Rattle.dbinjuries.specs.Kept.{lone_injury, kept_of}
use Rattle.dbinjuries.specs.Listing as listing
use Rattle.dbinjuries.specs.Listing.{Entered, alone, changed_at, entered, home, joined, rank, turned, with_fault}
use Rattle.dbinjuries.specs.declared.injury.Injury.{Injury}
use Rattle.dbinjuries.specs.Lines.{cause_text}
use Rattle.dbinjuries.specs.Others.{others_text}
use Rattle.dbinjuries.proofs.Adding.{home_inside}
use Rattle.dbinjuries.proofs.Belonging.{line_is}
use Rattle.dbinjuries.proofs.Noting.{first_kept}
use Rattle.dbinjuries.specs.Lists.{Shows}
use Rattle.dbexplain.specs.Explained.{after_cause, found_text, front_text}
use Rattle.dbexplain.specs.Keeping.{lines_of}

-- what is written of an injury is written by what is kept of it
kept_text : (file : List ℕ) (V : List Reference) (e : listing.Injury) → kept_injury_text file V (kept_of e) ≡ injury_text file V e
kept_text file V e =
    let x = e.first in
    ap₂ (λ (x : TracedFault) last. front_text file V x.fault ++ (cause_text x.cause ++ (after_cause file V x.fault.page x.cause ++ last)))
    (first_kept e.others (lone_injury x)) (line_is e)
    ∙ ap (λ w. front_text file V x.fault ++ w) (sym (append_assoc (cause_text x.cause) (after_cause file V x.fault.page x.cause) (others_text e)))

pub kept_texts : (file : List ℕ) (V : List Reference) (kept : List Injury) (es : List listing.Injury) → kept ≡ map kept_of es
    → flat_map (kept_injury_text file V) kept ≡ flat_map (injury_text file V) es
kept_texts file V kept es is = ap (flat_map (kept_injury_text file V)) is ∙ each es
  where
    each : (es : List listing.Injury) → flat_map (kept_injury_text file V) (map kept_of es) ≡ flat_map (injury_text file V) es
    each [] = refl
    each (e ∷ es) = ap₂ (λ a b. a ++ b) (kept_text file V e) (each es)

-- those of what is kept are those of the injuries
pub same_lines : (es : List listing.Injury) → lines_of (map kept_of es) ≡ flat_map (λ (e : listing.Injury). fault_line e.first.fault) es
same_lines [] = refl
same_lines (e ∷ es) = ap₂ (λ (f : TracedFault) text. fault_line f.fault ++ text) (first_kept e.others (lone_injury e.first)) (same_lines es)

-- the lines of the first injuries, by what is kept of them
pub found_lines : (limit : ℕ) (es : List listing.Injury) (l : Held) → Shows limit es l → lines_of l.injuries.listed ≡ found_text limit es
found_lines limit es l shown = ap lines_of shown.listed ∙ same_lines (take limit es)

-- ---- where there is a fault there is an injury

-- an injury more, or one changed
not_empty : (es : List listing.Injury) (x : TracedFault) (o : Option ℕ) → ((i : ℕ) → o ≡ Some i → i < length es)
    → option_map_or (λ i. changed_at (joined x) i es) o (es ++ alone x ∷ []) ≡ [] → ⊥
not_empty [] x None q h = cc
not_empty [] x (Some i) q h = let l = q i refl in absurd (let no : ⊥ = omega arith in no)
not_empty (e ∷ es) x None q h = cc
not_empty (e ∷ es) x (Some zero) q h = cc
not_empty (e ∷ es) x (Some (suc i)) q h = cc

with_some : (xs : List TracedFault) (w : Entered) → (w.injuries ≡ [] → ⊥) → (fold with_fault w xs).injuries ≡ [] → ⊥
with_some [] w h = h
with_some (x ∷ xs) w h =
    let t = turned (rank x.part) w in with_some xs (with_fault w x) (not_empty t.injuries x (home t x) (home_inside t x))

pub some_listed : (xs : List TracedFault) → injuries xs ≡ [] → xs ≡ []
some_listed [] h = refl
some_listed (x ∷ xs) h =
    let t = turned (rank x.part) (record { injuries = []; begins = 0; part = 0 }) in
    absurd (with_some xs (entered t x) (not_empty t.injuries x (home t x) (home_inside t x)) h)
