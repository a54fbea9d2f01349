-- A survey without faults is all that its starts lead to; so each reference of a visited page is visited, and fewer pages
-- are below it.
use Rattle.std.proofs.Common.{◌≡◌, ℕ, List, [], sym, subst, ◌<◌, length, ap, arith}
use Rattle.dbsound.proofs.Common.{named_at, children, IsWhole, geometry, Reference, schema_link, starts, Survey, rules_of, walk_faults, under, IsIn, below}
use Rattle.dbsurvey.specs.Traverse.{survey_of}
use Rattle.dbsurvey.specs.Whole.{IsNoneRefused}
use Rattle.dbsurvey.proofs.Composing.{named_at-apart}
use Rattle.dbsurvey.proofs.Traversal.{free_at_most, survey_is_survey_of}
use Rattle.dbsurvey.proofs.Unfolding.{part_whole}
use Rattle.dbformat.specs.Survey.{references}
use Rattle.dbformat.proofs.Rising.{starts_rise}
use Rattle.dbformat.proofs.Theory.{are_rules, named-all}
use Rattle.dbformat.proofs.NoFaults.{follows_all}
use Rattle.dbsound.specs.Surveys.{IsByItsStarts, IsByItsLinks}
use Rattle.dbsurvey.proofs.WholeParts.{by_candidates, by_links}
use Rattle.std.specs.Prelude.{flat_map}
use Rattle.dbsurvey.proofs.Order.{IsIn-right}
use Rattle.dbsurvey.proofs.Ordering.{IsIn-flat_map}
use Rattle.dbsurvey.proofs.Lists.{length-of_part}

module _ (file : List ℕ) (V : List Reference) (s : Survey file V) (none : walk_faults file V ≡ []) where
  none_refused : IsNoneRefused (rules_of file) (named_at [] (starts file V)) V
  none_refused d n = ((follows_all file V s none).0 d (named-all file V d n)).0

  pub all_of_starts : IsWhole (rules_of file) (named_at [] (starts file V)) V
  all_of_starts =
      let pages = (geometry file).pages in
      let cs = named_at [] (starts file V) in
      let rise = starts_rise file (under schema_link.step V) in
      let e : V ≡ survey_of (rules_of file) pages (starts file V) = survey_is_survey_of (rules_of file) pages (are_rules file) (starts file V) rise V s in
      subst (λ U. IsWhole (rules_of file) cs U) (sym e)
      (part_whole (rules_of file) pages (are_rules file) pages [] cs (free_at_most pages []) (named_at-apart [] (starts file V) rise)
      (subst (λ U. IsNoneRefused (rules_of file) cs U) e none_refused))

pub by_its_starts : (file : List ℕ) → IsByItsStarts file
by_its_starts file V s none = by_candidates (rules_of file) (are_rules file).rising (all_of_starts file V s none)
    (named_at-apart [] (starts file V) (starts_rise file (under schema_link.step V)))

pub by_its_links : (file : List ℕ) → IsByItsLinks file
by_its_links file V s none r i = by_links (rules_of file) (are_rules file).rising (all_of_starts file V s none)
    (named_at-apart [] (starts file V) (starts_rise file (under schema_link.step V))) r i

module _ (file : List ℕ) (V : List Reference) (s : Survey file V) (none : walk_faults file V ≡ []) where
  -- a reference of a visited page is visited
  pub child_visited : (r d : Reference) → IsIn r V → IsIn d (children (rules_of file) r) → IsIn d V
  child_visited r d i j = ((follows_all file V s none).0 d
      (IsIn-right d (named_at [] (starts file V)) (flat_map (references file) V) (IsIn-flat_map (references file) V r d i j))).0

  -- fewer pages are below it
  pub fewer_below : (r d : Reference) → IsIn r V → IsIn d (children (rules_of file) r) → length (below V d.address) < length (below V r.address)
  fewer_below r d i j =
      let e = ap length (by_its_links file V s none r i) in
      let k = length-of_part (λ d. below V d.address) (children (rules_of file) r) d j in
      omega arith
