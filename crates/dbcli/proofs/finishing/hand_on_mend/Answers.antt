use Rattle.std.proofs.Common.{◌≡◌, ◌∙◌, Ok, Err, inl, inr, refl, sym}
use Rattle.std.proofs.lemmas.Result.{err_from_is_err_and}
use Rattle.dbsource.specs.declared.error.RunError.TheVariants.{Refused}
use Rattle.dbcli.proofs.Handing.{handed_as_a_run}
use Rattle.dbcli.proofs.finishing.hand_on_mend.Goals as goal

pub returns-in-Ok : goal.returns-in-Ok
returns-in-Ok g c =
    let is = c.in-Ok.is in
    handed_as_a_run _ _ _ _ _ _ (λ why p. absurd (let k : Ok c.in-Ok.field-0 ≡ Err (Refused why) = sym is ∙ p in cc)) c.hand_on.ensures.handed

pub returns-in_err-flush-in-Refused : goal.returns-in_err-flush-in-Refused
returns-in_err-flush-in-Refused g c =
    let q = err_from_is_err_and c.from_residual.result c.from_residual.ensures.1 in
    let h = c.in_err-flush-in-Refused.ensures in
    rw q.1 (rw q.2 (rw c.in-Err.is (rw c.in-Refused.is (inr (refl, record { kept = h.kept; empty = tt; count = h.count }), refl))))

pub returns-in_ok-flush-in-Refused : goal.returns-in_ok-flush-in-Refused
returns-in_ok-flush-in-Refused g c =
    let h = c.in_ok-flush-in-Refused.ensures in
    rw c.in-Err.is (rw c.in-Refused.is (inl (refl, record { kept = h.kept; empty = h.empty; count = h.count }), refl))

pub returns-in_default : goal.returns-in_default
returns-in_default g c = rw c.in-Err.is (handed_as_a_run (Err c.in-Err.error) _ _ _ _ _
    (λ why p. c.in_default.not-Refused why (let k : Err c.in-Err.error ≡ Err (Refused why) = p in cc)) c.hand_on-in_default.ensures.handed)
