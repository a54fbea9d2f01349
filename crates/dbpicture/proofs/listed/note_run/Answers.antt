use Rattle.std.proofs.Common.{◌≡◌, ◌-◌, ◌+◌, ℕ, ◌++◌, [], ◌∷◌, List, sym, ap, subst, ◌∙◌, arith, append-nil, append_assoc}
use Rattle.std.specs.List.{range_with_len}
use Rattle.dbpicture.specs.Faults.{framed}
use Rattle.dbpicture.specs.Owners.{capped_pages}
use Rattle.dbpicture.specs.Keeping.{AreNoted}
use Rattle.dbpicture.specs.declared.faults.Sign.{Sign}
use Rattle.dbpicture.specs.declared.faults.Sign.TheVariants.{Framed}
use Rattle.std.proofs.lemmas.List.{map-append}
use Rattle.dbsurvey.proofs.Ranges.{range_push}
use Rattle.dbpicture.proofs.listed.note_run.Goals as goal

-- one page more
framed_more : (first n i : ℕ) {m : ℕ} → first + n ≡ i → n + 1 ≡ m → framed (range_with_len first n) ++ (i, Framed) ∷ [] ≡ framed (range_with_len first m)
framed_more first n i at next =
    ap (λ j. framed (range_with_len first n) ++ (j, Framed) ∷ []) (sym at)
    ∙ sym (ap framed (range_push first n) ∙ map-append (λ (p : ℕ). let s : ℕ × Sign = (p, Framed) in s) (range_with_len first n) ((first + n) ∷ []))
    ∙ ap (λ n. framed (range_with_len first n)) next

pub loop-page-init : goal.loop-page-init
loop-page-init g c = record {
  noted = λ count signs h.
      let none : 0 ≡ c.args.run.first - c.args.run.first = omega arith in
      subst (λ n. AreNoted count (signs ++ framed (range_with_len c.args.run.first n)) c.args.notes.now) none
      (subst (λ (l : List (ℕ × Sign)). AreNoted count l c.args.notes.now) (sym (append-nil signs)) h);
  most = omega arith;
}

pub loop-page-preserved : goal.loop-page-preserved
loop-page-preserved g c = record {
  noted = λ count signs h.
      let first = c.args.run.first in
      let page = c.loop-page.page in
      let so_far = framed (range_with_len first (page - first)) in
      subst (λ (l : List (ℕ × Sign)). AreNoted count l c.note.new.self)
      (append_assoc signs so_far ((page, Framed) ∷ [])
      ∙ ap (λ l. signs ++ l) (framed_more first (page - first) page {m = page + 1 - first} (omega (arith, c.loop-page.auto.page))
      (omega (arith, c.loop-page.auto.page))))
      (c.note.ensures count (signs ++ so_far) (c.loop-page.invariant.noted count signs h));
  most = omega arith;
}

pub returns : goal.returns
returns g c = λ count signs h.
    let end : c.loop-page.page - c.args.run.first ≡ capped_pages (c.args.run.last + 1) - c.args.run.first = omega arith in
    subst (λ n. AreNoted count (signs ++ framed (range_with_len c.args.run.first n)) c.loop-page.notes) end (c.loop-page.invariant.noted count signs h)
