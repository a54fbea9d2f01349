-- The start that a page is reached from, by the survey of the file.
use Rattle.std.specs.Prelude.{ℕ, Bool, ◌&&◌, List, find, option_map, Option, ◌==◌}
use Rattle.dbsurvey.specs.Survey.{Link}
use Rattle.dbformat.specs.Address.{start_of, depth}
use Rattle.dbformat.specs.EndFaults.{visit_of}
use Rattle.dbformat.specs.Reference.{Way, Reference}

-- the start that page p belongs to: that of its visit, if it has one
abbrev pub start_at : List Reference → ℕ → Option ℕ
start_at V p = option_map (λ r. start_of r.address) (visit_of V p)

-- whether a visit is that of start k
abbrev pub is_start : ℕ → Reference → Bool
is_start k r = (start_of r.address == k) && (depth r.address == 1)

-- the first start that names page p
abbrev pub first_start : List (Link Way) → ℕ → Option ℕ
first_start links p = option_map (λ l. l.step) (find (λ l. l.page == p) links)
