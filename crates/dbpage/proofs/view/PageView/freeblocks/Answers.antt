use Rattle.std.proofs.Common.{◌≡◌, ℕ, ap, subst}
use Rattle.dbformat.specs.Head.{View, first_freeblock}
use Rattle.dbformat.specs.Coverage.{freeblocks, freeblocks_from}
use Rattle.dbpage.specs.Freeblocks.{HasPassed}
use Rattle.dbpage.proofs.FreeblockLemmas.{place_start}
use Rattle.dbpage.proofs.view.PageView.freeblocks.Goals as goal

pub invariant_of-result : goal.invariant_of-result
invariant_of-result c =
    let first = ap (λ (v : View). first_freeblock v.number v.bytes) c.self.view_is in
    let same : first_freeblock c.args.self.now.number c.args.self.now.bytes ≡ c.from.result = cc in
    subst (λ (o : ℕ). HasPassed c.args.self.now 0 0 o) same (place_start c.args.self.now)

pub returns-clause-all : goal.returns-clause-all
returns-clause-all c =
    let first = ap (λ (v : View). first_freeblock v.number v.bytes) c.self.view_is in
    let same : first_freeblock c.args.self.now.number c.args.self.now.bytes ≡ c.from.result = cc in
    subst (λ (o : ℕ). freeblocks_from c.args.self.now.usable c.args.self.now 0 o ≡ freeblocks c.args.self.now) same (place_start c.args.self.now).whole
