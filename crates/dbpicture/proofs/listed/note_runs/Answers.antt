use Rattle.std.proofs.Common.{◌≡◌, ℕ, ◌++◌, [], ◌∷◌, List, take, sym, ap, subst, ◌∙◌, append-nil, append_assoc}
use Rattle.std.specs.Prelude.{flat_map}
use Rattle.std.proofs.lemmas.List.{map-append, take_all, take_more}
use Rattle.std.proofs.lemmas.Grind.{flat_map-append}
use Rattle.dbinjuries.specs.declared.page_runs.PageRun.{PageRun}
use Rattle.dbpicture.specs.Faults.{framed, run_pages}
use Rattle.dbpicture.specs.Keeping.{AreNoted}
use Rattle.dbpicture.specs.declared.faults.Sign.{Sign}
use Rattle.dbpicture.specs.declared.faults.Sign.TheVariants.{Framed}
use Rattle.dbpicture.proofs.listed.note_runs.Goals as goal

abbrev pages_to : List PageRun → List (ℕ × Sign)
pages_to rs = framed (flat_map run_pages rs)

pages_push : (xs : List PageRun) (r : PageRun) → pages_to xs ++ framed (run_pages r) ≡ pages_to (xs ++ r ∷ [])
pages_push xs r =
    sym (map-append (λ (p : ℕ). let s : ℕ × Sign = (p, Framed) in s) (flat_map run_pages xs) (run_pages r))
    ∙ ap framed (ap (λ l. flat_map run_pages xs ++ l) (sym (append-nil (run_pages r))) ∙ sym (flat_map-append run_pages xs (r ∷ [])))

pub loop-run-preserved : goal.loop-run-preserved
loop-run-preserved g c = λ count signs h.
    let rs = c.args.runs.now in
    let i = c.loop-run.run-index in
    subst (λ (l : List (ℕ × Sign)). AreNoted count l c.note_run.new.notes)
    (append_assoc signs (pages_to (take i rs)) _ ∙ ap (λ l. signs ++ l) (pages_push (take i rs) _ ∙ ap pages_to (sym (take_more rs i _ c.loop-run-test.true))))
    (c.note_run.ensures count (signs ++ pages_to (take i rs)) (c.loop-run.invariant count signs h))

pub returns : goal.returns
returns g c = λ count signs h.
    subst (λ (l : List PageRun). AreNoted count (signs ++ pages_to l) c.loop-run.notes)
    (take_all c.loop-run.run-index c.args.runs.now c.loop-run-test.false)
    (c.loop-run.invariant count signs h)
