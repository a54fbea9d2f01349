-- A survey without faults, start by start: it is what is below its starts, one after another, and what is below each is
-- all that the start leads to.
use Rattle.std.proofs.Common.{◌≡◌, ℕ, List, [], ◌∷◌, ◌++◌, ap, ◌∙◌}
use Rattle.std.specs.Prelude.{flat_map}
use Rattle.dbsound.proofs.Common.{IsIn, Address, under, Link, named_at, IsWhole, schema_start, Way, Reference, starts, Survey, rules_of, walk_faults, below}
use Rattle.dbsurvey.specs.Survey.{Rules}
use Rattle.dbsurvey.proofs.Composing.{named_at-from, named_at-apart, IsIn-named}
use Rattle.dbformat.proofs.Rising.{starts_rise}
use Rattle.dbsurvey.proofs.WholeParts.{whole_below, parts_whole}
use Rattle.dbformat.proofs.Theory.{are_rules}
use Rattle.dbsound.proofs.FaultlessSurveys.Followed.{all_of_starts, by_its_starts}
use Rattle.dbsound.proofs.FaultlessSurveys.PageParts.{below-links}

-- the first step of an address
abbrev pub BeginsAt : ℕ → Address → Type 0
BeginsAt k a = (b : Address) × (a ≡ k ∷ b)

-- what some links lead to begins at one of them
pub starts_at : (rules : Rules Way) (ls : List (Link Way)) {U : List Reference} → IsWhole rules (named_at [] ls) U → (t : Reference) → IsIn t U
    → (l : Link Way) × IsIn l ls × BeginsAt l.step t.address
starts_at rules ls w t i =
    let h = whole_below rules w t i in
    let k = named_at-from [] ls h.0 h.1 in
    (k.0, k.1, (h.2, h.3 ∙ ap (λ t. t.address ++ h.2) k.2))

-- the survey, start by start
pub by_sections : (file : List ℕ) (V : List Reference) → Survey file V → walk_faults file V ≡ []
    → (V ≡ flat_map (λ l. below V (l.step ∷ [])) (starts file V))
    × ((l : Link Way) → IsIn l (starts file V) → IsWhole (rules_of file) (named_at [] (l ∷ [])) (below V (l.step ∷ [])))
by_sections file V s none = (
  by_its_starts file V s none ∙ below-links V [] (starts file V),
  (λ l i. parts_whole (rules_of file) (are_rules file).rising (all_of_starts file V s none)
      (named_at-apart [] (starts file V) (starts_rise file (under schema_start V)))
      (record { address = l.step ∷ []; page = l.page; role = l.role }) (IsIn-named [] (starts file V) l i)),
)
