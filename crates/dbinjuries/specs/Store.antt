-- What is kept of the injuries of some faults.
use Rattle.std.specs.Prelude.{ℕ, ◌+◌, List, [], ◌∷◌, ◌++◌, length, drop, map, Option, Some, None, nat_lt, ◌==◌, if◌then◌else◌}
use Rattle.dbformat.specs.Lines.{counted}
use Rattle.dbinjuries.specs.Listing.{changed_at, home_from, most, rank}
use Rattle.dbinjuries.specs.Kept.{injury_added, lone_injury}
use Rattle.dbtrace.specs.declared.TracedFault.{TracedFault}
use Rattle.dbinjuries.specs.declared.injury.Injury.{Injury}

-- The injuries as contracts see them: the first ones, `limit` at most, and how many faults belong to the others; and the part of the last
-- fault, and where its injuries begin among the first ones.
pub record Stored : Type 0 where
  pub limit : ℕ
  pub listed : List Injury
  pub rest : ℕ
  pub part : ℕ
  pub begins : ℕ

-- The injury that a fault belongs to, by those that are kept. None where it is an injury itself, or belongs to one that is not kept.
abbrev pub home_kept : TracedFault → Stored → Option ℕ
home_kept x s = home_from x (most x.fault.code) s.begins (drop s.begins (map (λ (e : Injury). e.first) s.listed))

-- the injuries from here on are of this part
abbrev pub turned_to : ℕ → Stored → Stored
turned_to part s = if s.part == part then s else record s { part = part; begins = length s.listed }

-- a fault that belongs to an injury that is kept; one that is an injury, for which there is room; and one that is counted
abbrev pub put_kept : ℕ → TracedFault → Stored → Stored
put_kept i x s = record s { listed = changed_at (λ e. injury_added e x) i s.listed }

abbrev pub put_new : TracedFault → Stored → Stored
put_new x s = if nat_lt (length s.listed) s.limit then record s { listed = s.listed ++ lone_injury x ∷ [] } else record s { rest = counted (s.rest + 1) }

abbrev pub put_at : Option ℕ → TracedFault → Stored → Stored
put_at (Some i) x s = put_kept i x s
put_at None x s = put_new x s

-- a fault more of the last part
abbrev pub put_here : Stored → TracedFault → Stored
put_here s x = put_at (home_kept x s) x s

-- a fault more
abbrev pub put : Stored → TracedFault → Stored
put s x = put_here (turned_to (rank x.part) s) x
