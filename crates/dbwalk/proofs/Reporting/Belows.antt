-- What is visited below some errands, one part after another.
use Rattle.std.proofs.Common.{◌≡◌, ℕ, inl, inr, List, [], ◌∷◌, ◌++◌, sym, ap, ◌∙◌, append_assoc}
use Rattle.dbwalk.proofs.Common.{Address, IsIn, Errand, Go, AreQuiet, geometry, Way, Reference, rules_of, Event}
use Rattle.dbwalk.proofs.Common.{own_visit, story_of, reported_at, reported_below, visited_below, are_rules}
use Rattle.dbsurvey.specs.Survey.{IsPart}
use Rattle.dbsurvey.specs.Traverse.{part_of}
use Rattle.dbsurvey.specs.Story.{goes}
use Rattle.dbsurvey.proofs.Composing.{part_below}
use Rattle.dbsurvey.proofs.Traversal.{traverse_part, free_at_most}
use Rattle.dbsurvey.proofs.Remaining.{rest_none, rest_join}
use Rattle.dbsurvey.proofs.ReadBack.{below_none}
use Rattle.dbsurvey.proofs.Reportings.{goes-append}

module _ (file : List ℕ) where
  abbrev pages : ℕ
  pages = (geometry file).pages

  -- what is visited

  pub visited_none : (W : List Reference) → visited_below file W [] ≡ []
  visited_none W = rest_none (rules_of file) pages (are_rules file) W

  pub visited_join : (W : List Reference) (es fs : List (Errand Way Event))
      → W ++ visited_below file W (es ++ fs) ≡ (W ++ visited_below file W es) ++ visited_below file (W ++ visited_below file W es) fs
  visited_join W es fs =
      ap (λ cs. W ++ part_of (rules_of file) pages W cs) (goes-append es fs)
      ∙ ap (λ V. W ++ V) (rest_join (rules_of file) pages (are_rules file) W (goes es) (goes fs))
      ∙ sym (append_assoc W (visited_below file W es) (visited_below file (W ++ visited_below file W es) fs))

  -- what is reported

  pub reported_none : (W : List Reference) → reported_below file W [] ≡ []
  reported_none W = below_none (rules_of file) (story_of file) pages (are_rules file) own_visit (reported_at file) W

pub quiet_go : (c : Reference) → AreQuiet own_visit (Go c ∷ [])
quiet_go c e (inl h) = cc
quiet_go c e (inr h) = absurd h

-- what is visited below a reference begins with its address
pub below_begins : (file : List ℕ) (U : List Reference) (d u : Reference) → IsIn u (visited_below file U (Go d ∷ [])) → (b : Address)
    × (u.address ≡ d.address ++ b)
below_begins file U d u i =
    let part : IsPart (rules_of file) U (d ∷ []) (part_of (rules_of file) (geometry file).pages U (d ∷ [])) =
    traverse_part (rules_of file) (geometry file).pages (are_rules file) (geometry file).pages U (d ∷ []) (free_at_most (geometry file).pages U)
    ((λ y j. absurd j), tt) in
    let m = part_below (rules_of file) U (d ∷ []) (part_of (rules_of file) (geometry file).pages U (d ∷ [])) part u i in
    elim m.1 [
      | inl e ↦ (m.2.0, m.2.1 ∙ ap (λ r. r.address ++ m.2.0) e)
      | inr n ↦ absurd n
    ]
