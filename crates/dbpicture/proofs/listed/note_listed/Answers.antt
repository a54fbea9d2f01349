use Rattle.std.proofs.Common.{◌≡◌, ℕ, ◌++◌, [], ◌∷◌, List, take, sym, ap, subst, ◌∙◌, append-nil, append_assoc}
use Rattle.std.specs.Prelude.{flat_map}
use Rattle.std.proofs.lemmas.List.{take_all, take_more}
use Rattle.dbinjuries.specs.declared.injury.Injury.{Injury}
use Rattle.dbpicture.specs.Faults.{injury_signs}
use Rattle.dbpicture.specs.Keeping.{AreNoted}
use Rattle.dbpicture.specs.declared.faults.Sign.{Sign}
use Rattle.dbpicture.proofs.listed.note_listed.Goals as goal

abbrev signs_to : List Injury → List (ℕ × Sign)
signs_to es = flat_map injury_signs es

signs_push : (xs : List Injury) (e : Injury) → signs_to xs ++ injury_signs e ≡ signs_to (xs ++ e ∷ [])
signs_push [] e = sym (append-nil (injury_signs e))
signs_push (x ∷ xs) e = append_assoc (injury_signs x) (signs_to xs) (injury_signs e) ∙ ap (λ l. injury_signs x ++ l) (signs_push xs e)

pub loop-injury-preserved : goal.loop-injury-preserved
loop-injury-preserved g c = λ count signs h.
    let es = c.args.listed.now in
    let i = c.loop-injury.injury-index in
    subst (λ (l : List (ℕ × Sign)). AreNoted count l c.note_injury.new.notes)
    (append_assoc signs (signs_to (take i es)) _
    ∙ ap (λ l. signs ++ l) (signs_push (take i es) _ ∙ ap signs_to (sym (take_more es i _ c.loop-injury-test.true))))
    (c.note_injury.ensures count (signs ++ signs_to (take i es)) (c.loop-injury.invariant count signs h))

pub returns : goal.returns
returns g c = λ count signs h.
    subst (λ (l : List Injury). AreNoted count (signs ++ signs_to l) c.loop-injury.notes)
    (take_all c.loop-injury.injury-index c.args.listed.now c.loop-injury-test.false)
    (c.loop-injury.invariant count signs h)
