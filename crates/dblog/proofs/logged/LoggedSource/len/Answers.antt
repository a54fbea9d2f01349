use Rattle.std.proofs.Common.{◌≡◌, ◌∙◌, ◌<◌, ◌^◌, refl, sym, subst, length}
use Rattle.dbsource.specs.Sources.{AreBytes}
use Rattle.dblog.specs.Placed.{placed, placed_len}
use Rattle.dblog.proofs.Besides.{through_bytes, told_both, told_through_all}
use Rattle.dblog.proofs.Ranges.{through_length}
use Rattle.dblog.proofs.logged.LoggedSource.len.Goals as goal

pub returns-clause-length : goal.returns-clause-length
returns-clause-length g c = rw (← c.self.view_is) (record { placed = _; told = _; before = _; was = refl; length = c.byte_count.ensures })

pub returns-clause-number : goal.returns-clause-number
returns-clause-number g c = rw (← c.self.view_is) (told_through_all (λ bytes. c.byte_count.result ≡ length bytes)
    (placed c.self.inside.pages c.self.inside.base_len) (g.B.Source.held c.self.inside.base).bytes (g.L.Source.held c.self.inside.log).bytes
    (λ f h. c.byte_count.ensures ∙ sym (through_length (placed c.self.inside.pages c.self.inside.base_len) f h)))

pub returns-clause-bytes : goal.returns-clause-bytes
returns-clause-bytes g c =
    let p = placed c.self.inside.pages c.self.inside.base_len in
    let small : placed_len p < 2 ^ 64 = subst (λ n. n < 2 ^ 64) c.byte_count.ensures c.byte_count.type_inv in
    rw (← c.self.view_is) (told_both AreBytes AreBytes AreBytes p (g.B.Source.held c.self.inside.base).bytes (g.L.Source.held c.self.inside.log).bytes
    (λ f h x y. through_bytes p f h small x y) c.self.invariant.0 c.self.invariant.1)
