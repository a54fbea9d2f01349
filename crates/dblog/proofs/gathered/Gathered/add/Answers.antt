use Rattle.std.proofs.Common.{◌∙◌, ◌++◌, ◌+◌, [], ◌∷◌, ap, arith, sym, subst, inl, inr, refl}
use Rattle.dblog.specs.Entries.{Gathers}
use Rattle.dblog.proofs.Latest.{gathers_more}
use Rattle.dblog.proofs.gathered.Gathered.add.Goals as goal

pub returns-then-commits-clause-gathers : goal.returns-then-commits-clause-gathers
returns-then-commits-clause-gathers g c = λ pages long least h.
    let e = c.in_ok-push.ensures.items ∙ ap (λ x. c.self.inside.entries.items ++ x ∷ []) c.new.ensures in
    let before = c.make_room.ensures.gathers pages h in
    subst (λ es. Gathers es (pages ++ c.args.page ∷ []) (c.args.frame + 1)) (sym e)
    (gathers_more c.self.inside.entries.items pages c.args.page c.args.frame c.self.inside.committed (c.args.frame + 1) long
    (omega (arith, least, c.make_room.ensures.committed, ap (λ s. s.committed) c.self.view_is)) (inr refl)
    (subst (λ s. Gathers s.entries pages s.committed) (sym c.self.view_is) before))

pub returns-else-commits-clause-gathers : goal.returns-else-commits-clause-gathers
returns-else-commits-clause-gathers g c = λ pages long least h.
    let e = c.in_ok-push.ensures.items ∙ ap (λ x. c.self.inside.entries.items ++ x ∷ []) c.new.ensures in
    let before = c.make_room.ensures.gathers pages h in
    subst (λ es. Gathers es (pages ++ c.args.page ∷ []) c.self.inside.committed) (sym e)
    (gathers_more c.self.inside.entries.items pages c.args.page c.args.frame c.self.inside.committed c.self.inside.committed long
    (omega (arith, least, c.make_room.ensures.committed, ap (λ s. s.committed) c.self.view_is)) (inl refl)
    (subst (λ s. Gathers s.entries pages s.committed) (sym c.self.view_is) before))
