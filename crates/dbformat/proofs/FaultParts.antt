-- The faults of a file by their kinds: there is none where there is none of each kind.
use Rattle.std.proofs.Common.{◌≡◌, ℕ, List, [], ◌++◌, length, ap, ◌∙◌}
use Rattle.std.specs.Prelude.{flat_map}
use Rattle.dbsurvey.specs.Address.{IsIn}
use Rattle.dbformat.specs.HeaderFaults.{header_faults}
use Rattle.dbformat.specs.File.{geometry}
use Rattle.dbformat.specs.Reference.{Reference}
use Rattle.dbformat.specs.EndFaults.{sum_faults, use_fault, late_root_fault, page_end_faults, page_numbers, end_faults}
use Rattle.dbformat.specs.Report.{walk_faults, faults}
use Rattle.dbsurvey.proofs.Lists.{both_empty, none_of, flat_map-none}

module _ (file : List ℕ) (V : List Reference) where
  -- each page has its use
  abbrev pub AllUsed : Type 0
  AllUsed = (p : ℕ) → IsIn p (page_numbers (geometry file)) → use_fault file V p ≡ []

  -- no root page is late
  abbrev pub NoneLate : Type 0
  NoneLate = (p : ℕ) → IsIn p (page_numbers (geometry file)) → late_root_fault file V p ≡ []

  pub parts_none : faults file V ≡ [] → (header_faults file (length file) ≡ []) × (walk_faults file V ≡ []) × (sum_faults file V ≡ []) × AllUsed × NoneLate
  unfolding faults
  parts_none e =
      let a = both_empty (header_faults file (length file) ++ walk_faults file V) (end_faults file V) e in
      let b = both_empty (header_faults file (length file)) (walk_faults file V) a.0 in
      let c = both_empty (sum_faults file V) (flat_map (page_end_faults file V) (page_numbers (geometry file))) a.1 in
      let each = none_of (page_end_faults file V) (page_numbers (geometry file)) c.1 in (
        b.0,
        b.1,
        c.0,
        (λ p i. (both_empty (use_fault file V p) (late_root_fault file V p) (each p i)).0),
        (λ p i. (both_empty (use_fault file V p) (late_root_fault file V p) (each p i)).1),
      )

  pub none_by_parts : header_faults file (length file) ≡ [] → walk_faults file V ≡ [] → sum_faults file V ≡ [] → AllUsed → NoneLate → faults file V ≡ []
  unfolding faults
  none_by_parts header walk sums used late =
      ap (λ l. l ++ walk_faults file V ++ end_faults file V) header
      ∙ ap (λ l. l ++ end_faults file V) walk
      ∙ ap (λ l. l ++ flat_map (page_end_faults file V) (page_numbers (geometry file))) sums
      ∙ flat_map-none (page_end_faults file V) (page_numbers (geometry file)) (λ p i. ap (λ l. l ++ late_root_fault file V p) (used p i) ∙ late p i)
