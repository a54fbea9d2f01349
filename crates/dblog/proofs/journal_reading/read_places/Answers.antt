use Rattle.std.proofs.Common.{subst, refl, arith}
use Rattle.std.proofs.lemmas.Result.{err_from_is_err_and}
use Rattle.dblog.proofs.JournalRuns.{Walked, below_next, walked_all, walked_failed, walked_next, walked_start}
use Rattle.dblog.proofs.journal_reading.read_places.Goals as goal

pub loop-goes_on-init : goal.loop-goes_on-init
loop-goes_on-init g c =
    (refl, λ e. c.requires.within, walked_start c.args.shape c.args.first _ c.args.gathered.now c.requires.within c.requires.eighth)

pub read_next-requires-clause-within : goal.read_next-requires-clause-within
read_next-requires-clause-within g c = c.loop-goes_on.invariant.1 c.loop-goes_on-test.true

pub returns-in_err-goes_on : goal.returns-in_err-goes_on
returns-in_err-goes_on g c =
    let p = err_from_is_err_and c.from_residual.result c.from_residual.ensures.1 in
    let w = subst (λ b. Walked g.S.Source.step c.args.shape c.args.first c.loop-goes_on.place b (g.S.Source.held c.args.journal.now)
    (g.S.Source.held c.loop-goes_on.journal) c.args.gathered.now c.loop-goes_on.gathered) c.loop-goes_on-test.true c.loop-goes_on.invariant.2 in
    rw p.1 (rw p.2 (walked_failed c.args.shape c.args.first c.loop-goes_on.place _ _ _ _ c.args.gathered.now c.loop-goes_on.gathered _
    c.in_err-goes_on.field-0.0 w c.in_err-goes_on.ensures))

pub loop-goes_on-preserved : goal.loop-goes_on-preserved
loop-goes_on-preserved g c =
    let w = subst (λ b. Walked g.S.Source.step c.args.shape c.args.first c.loop-goes_on.place b (g.S.Source.held c.args.journal.now)
    (g.S.Source.held c.loop-goes_on.journal) c.args.gathered.now c.loop-goes_on.gathered) c.loop-goes_on-test.true c.loop-goes_on.invariant.2 in (
      omega (arith, c.read_next.auto.buffer, c.loop-goes_on.invariant.0),
      λ e. (below_next c.args.shape c.loop-goes_on.place _ _ _ c.loop-goes_on.gathered _ c.in_ok-goes_on.goes_on c.in_ok-goes_on.ensures e).0,
      walked_next c.args.shape c.args.first c.loop-goes_on.place _ _ _ _ c.args.gathered.now c.loop-goes_on.gathered _ c.in_ok-goes_on.goes_on w
          c.in_ok-goes_on.ensures,
    )

pub returns : goal.returns
returns g c =
    walked_all (tt {0}) c.args.shape c.args.first c.loop-goes_on.place _ _ c.args.gathered.now c.loop-goes_on.gathered
    (subst (λ b. Walked g.S.Source.step c.args.shape c.args.first c.loop-goes_on.place b (g.S.Source.held c.args.journal.now)
    (g.S.Source.held c.loop-goes_on.journal) c.args.gathered.now c.loop-goes_on.gathered) c.loop-goes_on-test.false c.loop-goes_on.invariant.2)
