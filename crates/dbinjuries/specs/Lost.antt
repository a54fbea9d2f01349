-- Lost pages: no visit names them, and they have no fixed use. Each has a fault, which goes back to what the page looks like.
use Rattle.std.specs.Prelude.{◌≡◌, ℕ, List, [], ◌∷◌, fold, pos, Result, MatchResult, if◌then◌else◌}
use Rattle.dbformat.specs.Faults.{fault}
use Rattle.dbformat.specs.File.{geometry}
use Rattle.dbformat.specs.Reference.{Reference}
use Rattle.dbformat.specs.declared.FaultCode.TheVariants.{N01}
use Rattle.dbtrace.specs.Causes.{lost_cause_at}
use Rattle.dbtrace.specs.declared.Part.TheVariants as part
use Rattle.dbtrace.specs.declared.TracedFault.{TracedFault}
use Rattle.dbinjuries.specs.Bits.{HasPageBit}
use Rattle.dbinjuries.specs.Listed.{is_lost_page, is_unreached}
use Rattle.dbinjuries.specs.Lists.{HasListed, Held, IsUnused, ListsAll, ListsFirst, added}
use Rattle.dbinjuries.specs.Zeros.{AreBlank, AreZeros}
use Rattle.dbscan.specs.Placed.{reported_faults}

-- the fault of a lost page
abbrev pub lost_page : List ℕ → List Reference → ℕ → TracedFault
lost_page file V p = record { part = part.End; fault = fault N01 p 0 (pos 0); cause = lost_cause_at (is_lost_page file V) file p }

-- that of page p, if p is lost
abbrev pub lost_at : List ℕ → List Reference → ℕ → List TracedFault
lost_at file V p = if is_unreached file V p then lost_page file V p ∷ [] else []

-- The fault of page p was listed, if p is lost; after a failed read it was not.
abbrev pub AddsLost : {A E : Type 0} → List ℕ → List Reference → ℕ → Result A E → Held → Held → Type 0
AddsLost file V p r old new = MatchResult r (λ _. new ≡ fold added old (lost_at file V p)) (λ _. new ≡ old)

-- the pages that are zeros are noted, and those of one byte throughout, where there was a bit for each page
pub record HasNoted (file : List ℕ) (V : List Reference) (first new : Held) : Type 0 where
  pub zeros : HasPageBit first.zeros (geometry file).pages → AreZeros file V new.zeros
  pub blank : first.usable ≡ (geometry file).usable → HasPageBit first.blank (geometry file).pages → AreBlank file V new.blank

-- The faults of all lost pages were listed, after all others were received; after a failed read the first of them.
abbrev pub HasLooked : {A E : Type 0} → List ℕ → List Reference → Result A E → Held → Held → Type 0
HasLooked file V r old new = (limit : ℕ) (first : Held) → IsUnused limit first → HasListed first (reported_faults file V) old
    → MatchResult r (λ _. ListsAll limit file V new × HasNoted file V first new) (λ _. ListsFirst limit file V new)
