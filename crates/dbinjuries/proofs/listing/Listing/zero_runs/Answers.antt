use Rattle.std.proofs.Common.{◌≡◌, ℕ, ◌+◌, Bool, true, false, cond, List, [], ◌∷◌, ◌++◌, refl, sym, ap, ◌∙◌, arith}
use Rattle.std.specs.Prelude.{filter, fold}
use Rattle.std.specs.List.{range_with_len}
use Rattle.std.proofs.lemmas.List.Elements.{filter-append}
use Rattle.std.proofs.lemmas.List.Sums.{fold-append}
use Rattle.dbsurvey.proofs.Ranges.{range_push}
use Rattle.dbinjuries.specs.Bits.{has_bit}
use Rattle.dbinjuries.specs.Kept.{no_runs, run_added}
use Rattle.dbinjuries.specs.Lists.{Held}
use Rattle.dbinjuries.specs.declared.page_runs.PageRuns.{PageRuns}
use Rattle.dbinjuries.proofs.listing.Listing.zero_runs.Goals as goal
use Rattle.dbinjuries.proofs.listing.Listing.zero_runs.Goals.{then-has, else-has}

module _ (words : List ℕ) (i : ℕ) where
  abbrev pages_to : ℕ → List ℕ
  pages_to n = filter (has_bit words) (range_with_len 1 n)

  -- with one page more, where it has its bit
  next : (r : PageRuns) (b : Bool) → has_bit words (i + 1) ≡ b → r ≡ fold run_added no_runs (pages_to i) → cond b (run_added r (i + 1)) r
      ≡ fold run_added no_runs (pages_to (i + 1))
  next r b e is =
      let last : 1 + i ≡ i + 1 = omega arith in
      let more : pages_to (i + 1) ≡ pages_to i ++ cond b ((i + 1) ∷ []) [] =
      ap (filter (has_bit words)) (range_push 1 i) ∙ filter-append (has_bit words) (range_with_len 1 i) ((1 + i) ∷ [])
      ∙ ap (λ k. pages_to i ++ filter (has_bit words) (k ∷ [])) last ∙ ap (λ b. pages_to i ++ cond b ((i + 1) ∷ []) []) e in
      ap (λ r. cond b (run_added r (i + 1)) r) is ∙ by_case b
      ∙ sym (ap (fold run_added no_runs) more ∙ fold-append run_added no_runs (pages_to i) (cond b ((i + 1) ∷ []) []))
    where
      by_case : (b : Bool) → cond b (run_added (fold run_added no_runs (pages_to i)) (i + 1)) (fold run_added no_runs (pages_to i))
          ≡ fold run_added (fold run_added no_runs (pages_to i)) (cond b ((i + 1) ∷ []) [])
      by_case true = refl
      by_case false = refl

pub loop-index-preserved : goal.loop-index-preserved
loop-index-preserved g c =
    let words = c.args.self.now.zeros in
    let i = c.loop-index.index in
    let r = c.loop-index.runs in
    let bit = sym (c.has.ensures ∙ ap (λ (s : Held). has_bit s.zeros (i + 1)) c.self.view_is) in
    elim c.if-has.branch [
      | then-has w ↦ w.runs-is ∙ w.add.ensures ∙ next words i r true (bit ∙ w.if-has.true) c.loop-index.invariant
      | else-has w ↦ w.runs-is ∙ next words i r false (bit ∙ w.if-has.false) c.loop-index.invariant
    ]
