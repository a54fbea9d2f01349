use Rattle.std.proofs.Common.{rules, [], ◌∷◌, ◌++◌, refl, sym, ap, subst, ◌∙◌}
use Rattle.dbwalk.proofs.Common.{Moves, AreMarksOf, reported_fault}
use Rattle.dbmarks.specs.Marking.{followed}
use Rattle.dbwalk.proofs.Reporting.Enterings.{refusal_none, entered_yes, entered_no}
use Rattle.dbwalk.proofs.Reporting.Sinks.{err_is}
use Rattle.dbwalk.proofs.entering.enter.Goals as goal

pub returns-in-None-clause-entered : goal.returns-in-None-clause-entered
returns-in-None-clause-entered g c = λ file W d why is next m causes.
    let k = entered_yes file W d c.args.marks.now c.args.step is next m (sym c.follow.ensures.why ∙ c.in-None.is) in (
      k.0,
      subst (λ l. AreMarksOf file (W ++ (d ∷ [])) l)
          (sym (c.follow.ensures.marks ∙ ap (followed c.args.marks.now c.args.step.page c.args.step.mark) c.in-None.is)) k.1,
      refl,
    )

pub returns-in-Some-clause-entered : goal.returns-in-Some-clause-entered
returns-in-Some-clause-entered g c = λ file W d why is next m causes.
    let k = entered_no file W d c.args.marks.now c.args.step is next m c.in-Some.code why c.cause.result
    (causes c.cause.result c.cause.ensures) (sym c.follow.ensures.why ∙ c.in-Some.is) in (
      k.0,
      subst (λ l. AreMarksOf file W l) (sym (c.follow.ensures.marks ∙ ap (followed c.args.marks.now c.args.step.page c.args.step.mark) c.in-Some.is)) m,
      subst (λ l. Moves g.K.Sink.takes c.args.sink.now l c.fault.new.self) (sym k.1) (
        c.fault.new.self,
        subst (λ f. g.K.Sink.takes c.args.sink.now (reported_fault f c.cause.result) c.fault.new.self) c.new-fault.ensures
            c.fault.ensures.item,
        refl,
      ),
    )

pub returns-in-None-clause-page : goal.returns-in-None-clause-page
returns-in-None-clause-page g c = λ yes. c.follow.ensures.page c.in-None.is

pub returns-in-None-clause-shallow : goal.returns-in-None-clause-shallow
returns-in-None-clause-shallow g c = λ yes. (refusal_none _ _ (sym c.follow.ensures.why ∙ c.in-None.is)).1

pub returns-in-None-clause-marked : goal.returns-in-None-clause-marked
returns-in-None-clause-marked g c = search rules

pub returns-in_err-ask-clause-entered : goal.returns-in_err-ask-clause-entered
returns-in_err-ask-clause-entered g c = λ file W d why is next m causes.
    rw (err_is c.from_residual.ensures.1) (m, refl)
