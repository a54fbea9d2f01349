use Rattle.dbscan.proofs.Common.{◌≡◌, [], ◌∷◌, refl, ap, subst, ◌∙◌, IfOk, page_range, Geometry, lost_cause_at, IsHeaderOf, Asks, is_unmarked, DeskView}
use Rattle.dbscan.proofs.Common.{shape_of, asks_weaker}
use Rattle.dbsource.specs.Failures.{is_any}
use Rattle.dbscan.proofs.desk.Desk.look_at.Goals as goal

pub returns-clause-asks : goal.returns-clause-asks
returns-clause-asks g c =
    let shape = c.self.invariant.shape in
    subst (λ (d : DeskView). Asks g.S.Source.step (λ log. log ≡ page_range (shape_of d).page_size c.args.page ∷ [])
    (λ file. IsHeaderOf d.header file → IfOk c.look_at.result (λ why. why ≡ lost_cause_at (is_unmarked d.marks) file c.args.page))
    is_any c.look_at.result (g.S.Source.held c.args.source.now) (g.S.Source.held c.look_at.new.source)) c.self.view_is
    (asks_weaker _ _ c.look_at.result (λ n. refl) c.look_at.ensures.asks
    (λ log l. l ∙ ap (λ (s : Geometry). page_range s.page_size c.args.page ∷ []) shape)
    (λ file w h. w (shape ∙ h.shape)))
