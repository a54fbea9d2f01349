use Rattle.std.proofs.Common.{◌≡◌, List, ◌∷◌, [], inl, inr, Ok, Err, refl, sym, ap, ◌∙◌, arith}
use Rattle.std.specs.Prelude.{fold, pos}
use Rattle.std.proofs.lemmas.Grind.{common_steps}
use Rattle.std.proofs.lemmas.Result.{err_from_is_err_and}
use Rattle.dbformat.specs.Faults.{fault}
use Rattle.dbformat.specs.declared.FaultCode.TheVariants.{N01}
use Rattle.dbtrace.specs.Causes.{lost_cause_at}
use Rattle.dbtrace.specs.declared.Cause.{Cause}
use Rattle.dbtrace.specs.declared.Part.TheVariants as part
use Rattle.dbtrace.specs.declared.TracedFault.{TracedFault}
use Rattle.dbsource.proofs.Logs.{asks_weaker, has_none}
use Rattle.dbinjuries.specs.Listed.{is_lost_page}
use Rattle.dbinjuries.specs.Lists.{added}
use Rattle.dbinjuries.proofs.LostPages.{lost_here, not_lost, unmarked_lost, unmarked_nowhere}
use Rattle.dbinjuries.proofs.listing.Listing.look_at_page.Goals as goal

pub returns-then-not-is_lost-clause-asks : goal.returns-then-not-is_lost-clause-asks
returns-then-not-is_lost-clause-asks g c = record {
  log = has_none _ _ refl refl (inl refl) (λ file V d low high.
      let p = c.args.page in
      let none = not_lost file V p (sym (unmarked_nowhere file V c.args.desk.now.marks p d.marks low high) ∙ sym c.is_lost.ensures.mark ∙ c.if-not-is_lost.true)
      in
      ap (fold added c.args.self.now) (sym none));
  count = refl;
}

pub look_at-requires : goal.look_at-requires
look_at-requires g c = grind (arith, common_steps)

pub returns-in_err-cause-clause-asks : goal.returns-in_err-cause-clause-asks
returns-in_err-cause-clause-asks g c =
    let q = err_from_is_err_and c.from_residual.result c.from_residual.ensures.1 in
    let yes = sym c.is_lost.ensures.mark ∙ c.if-not-is_lost.false in
    rw q.1 (rw q.2 (asks_weaker _ _ (Err _) (λ n. refl) c.in_err-cause.ensures.asks (λ log l. inr (l, yes)) (λ file w V d low high. refl)))

pub returns-clause-asks : goal.returns-clause-asks
returns-clause-asks g c =
    let p = c.args.page in
    let yes = sym c.is_lost.ensures.mark ∙ c.if-not-is_lost.false in
    asks_weaker _ _ (Ok _) (λ n. refl) c.in_ok-cause.ensures.asks (λ log l. inr (l, yes)) (λ file w V d low high.
    let some = lost_here file V p (sym (unmarked_nowhere file V c.args.desk.now.marks p d.marks low high) ∙ yes) in
    let reported : Cause → List TracedFault = λ why. record { part = part.End; fault = fault N01 p 0 (pos 0); cause = why } ∷ [] in
    let why : c.in_ok-cause.cause ≡ lost_cause_at (is_lost_page file V) file p = w d.header
    ∙ ap (λ lost. lost_cause_at lost file p) (unmarked_lost file V c.args.desk.now.marks d.marks) in
    c.add.ensures ∙ ap (fold added c.args.self.now) (ap reported why ∙ sym some))
