-- What `explain` lists (own): the faults that lead, each with the faults that belong to it.
use Rattle.std.specs.Prelude.{ℕ, zero, suc, ◌+◌, ◌-◌, Bool, true, false, ◌&&◌, ◌||◌, List, [], ◌∷◌, ◌++◌, length, drop, map, fold, Option, Some}
use Rattle.std.specs.Prelude.{None, nat_le, ◌==◌, if◌then◌else◌}
use Rattle.std.specs.Option.{option_map_or}
use Rattle.dbformat.specs.Codes.{code_index}
use Rattle.dbformat.specs.declared.FaultCode.{FaultCode}
use Rattle.dbformat.specs.declared.FaultCode.TheVariants.{N01}
use Rattle.dbformat.specs.declared.Look.{Look}
use Rattle.dbformat.specs.declared.Look.TheVariants as look
use Rattle.dbformat.specs.declared.PageKind.{PageKind}
use Rattle.dbformat.specs.declared.PageKind.TheVariants.{InteriorIndex, InteriorTable, LeafIndex, LeafTable}
use Rattle.dbtrace.specs.declared.Cause.{Cause}
use Rattle.dbtrace.specs.declared.Cause.TheVariants as cause
use Rattle.dbtrace.specs.declared.Part.{Part}
use Rattle.dbtrace.specs.declared.Part.TheVariants as part
use Rattle.dbtrace.specs.declared.TracedFault.{TracedFault}

-- ---- faults that go back to the same

-- the number of a part in the order of a report
abbrev pub rank : Part → ℕ
rank part.Header = 0
rank (part.Start k) = k + 1
rank part.End = 4294967297

-- whether two kinds of pages of trees are the same
abbrev pub same_kind : PageKind → PageKind → Bool
same_kind LeafTable LeafTable = true
same_kind InteriorTable InteriorTable = true
same_kind LeafIndex LeafIndex = true
same_kind InteriorIndex InteriorIndex = true
same_kind _ _ = false

-- whether two pages look alike: both are blank with one byte, or pages of trees of one kind, or neither
abbrev pub same_look : Look → Look → Bool
same_look (look.Blank a) (look.Blank b) = a == b
same_look (look.Tree a) (look.Tree b) = same_kind a.kind b.kind
same_look (look.Other a) (look.Other b) = true
same_look _ _ = false

-- whether two causes are the same: the same cell or page, or pages that look alike
abbrev pub same_cause : Cause → Cause → Bool
same_cause (cause.Key a _) (cause.Key b _) = (a.page == b.page) && (a.item == b.item)
same_cause (cause.Leaf a _) (cause.Leaf b _) = a == b
same_cause (cause.Page a _) (cause.Page b _) = a == b
same_cause (cause.Look a _) (cause.Look b _) = same_look a b
same_cause _ _ = false

-- how many faults of a code lead in one part, at most
abbrev pub most : FaultCode → ℕ
most N01 = 6
most _ = 3

-- ---- the injuries

-- a fault that leads, and those that belong to it, in their order
pub record Injury : Type 0 where
  pub first : TracedFault
  pub others : List TracedFault

-- an injury of this fault alone
abbrev pub alone : TracedFault → Injury
alone x = record { first = x; others = [] }

-- one more belongs to an injury
abbrev pub joined : TracedFault → Injury → Injury
joined x e = record e { others = e.others ++ x ∷ [] }

-- whether two faults are of one code
abbrev pub is_beside : TracedFault → TracedFault → Bool
is_beside x y = code_index y.fault.code == code_index x.fault.code

-- whether a fault belongs to the one that is led by y, where n of its code may lead yet: it goes back to the same, or y is the last that may lead
abbrev pub is_home : TracedFault → ℕ → TracedFault → Bool
is_home x n y = is_beside x y && (nat_le n 1 || same_cause x.cause y.cause)

-- The number of the first injury that a fault belongs to, by the faults that lead them, from number i on.
abbrev pub home_from : TracedFault → ℕ → ℕ → List TracedFault → Option ℕ
home_from x n i [] = None
home_from x n i (y ∷ ys) = if is_home x n y then Some i else home_from x (if is_beside x y then n - 1 else n) (i + 1) ys

-- element i of a list, changed
abbrev pub changed_at : {X : Type 0} → (X → X) → ℕ → List X → List X
changed_at f i [] = []
changed_at f zero (x ∷ xs) = f x ∷ xs
changed_at f (suc i) (x ∷ xs) = x ∷ changed_at f i xs

-- the injuries of some faults, the number of the first that is of the part of the last fault, and that part
pub record Entered : Type 0 where
  pub injuries : List Injury
  pub begins : ℕ
  pub part : ℕ

-- the injuries from here on are of this part
abbrev pub turned : ℕ → Entered → Entered
turned part w = if w.part == part then w else record w { begins = length w.injuries; part = part }

-- the injury of this part that a fault belongs to, if there is one
abbrev pub home : Entered → TracedFault → Option ℕ
home w x = home_from x (most x.fault.code) w.begins (drop w.begins (map (λ (e : Injury). e.first) w.injuries))

-- one fault more of the last part: it belongs to an injury, or is one
abbrev pub entered : Entered → TracedFault → Entered
entered w x = record w { injuries = option_map_or (λ i. changed_at (joined x) i w.injuries) (home w x) (w.injuries ++ alone x ∷ []) }

-- one fault more
abbrev pub with_fault : Entered → TracedFault → Entered
with_fault w x = entered (turned (rank x.part) w) x

-- the injuries of some faults, of which those of one part come one after another
abbrev pub injuries : List TracedFault → List Injury
injuries xs = (fold with_fault (record { injuries = []; begins = 0; part = 0 }) xs).injuries

-- how many faults an injury speaks of
abbrev pub size : Injury → ℕ
size e = suc (length e.others)
