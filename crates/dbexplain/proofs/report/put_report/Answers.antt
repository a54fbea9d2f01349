use Rattle.std.proofs.Common.{◌≡◌, ◌++◌, ℕ, List, rules, take, flat_map, sym, ap, ap₂, subst, ◌∙◌}
use Rattle.dbexplain.proofs.Common.{Reference, more_text, reported_faults, listed_injuries, injury_text, AreAllKept, summary}
use Rattle.dblines.proofs.Writing.{of_all, of_as, of_known, of_then, put_of}
use Rattle.dbexplain.specs.Keeping.{HasAll}
use Rattle.dbexplain.proofs.RangesKept.{all_closed}
use Rattle.dbexplain.proofs.Desks.{of_desk}
use Rattle.dbexplain.proofs.KeptInjuries.{kept_texts}
use Rattle.dbexplain.proofs.Reports.{report_text, rest_line}
use Rattle.dbexplain.proofs.report.put_report.Goals as goal

pub returns : goal.returns
returns g c =
    let k = c.args.kept.now in
    let n = k.listing.injuries.limit in
    let owners = λ (file : List ℕ) (V : List Reference) (h : HasAll c.args.desk.now k file V).
    of_desk _ c.args.desk.now file V c.header.ensures.value c.marks.ensures c.roots.ensures h.desk h.trees in
    let wrote = of_as (λ (file : List ℕ) (V : List Reference) (h : HasAll c.args.desk.now k file V).
    ap₂ (λ es m. es ++ (more_text m ++ summary file V (reported_faults file V)))
    (kept_texts file V _ _ (c.listed.ensures ∙ h.listing.listed)) c.rest.ensures
    ∙ ap (λ r. flat_map (injury_text file V) (take n (listed_injuries file V)) ++ (r ++ summary file V (reported_faults file V)))
    (rest_line n (listed_injuries file V) k.listing h.listing)
    ∙ report_text n file V h.some)
    (of_then (of_known owners c.put_injuries.ensures) (of_then (of_all c.put_rest.ensures) (of_known (λ file V h. record {
      owners = owners file V h;
      tally = h.tally;
      zeros = h.zeros;
      ranges = subst (AreAllKept (reported_faults file V)) (sym c.close.ensures) (all_closed (reported_faults file V) k.ranges h.ranges);
      indexes = h.indexes;
    }) c.put_summary.ensures))) in
    let same = wrote.wrote.same_out in
    let k : c.out-1.given.0 ≡ c.put_summary.new.writer.out.now = search (rules, same) in
    rw k (put_of c.new-writer.ensures.fresh c.new-writer.ensures.out c.end.ensures wrote)
