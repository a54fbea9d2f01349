use Rattle.std.proofs.Common.{sym, subst}
use Rattle.dbcli.specs.Beside.{LooksAtHeader, both_words}
use Rattle.dbcli.specs.Tasks.{changed_words}
use Rattle.dbcli.proofs.beside.fits.Goals as goal

pub returns : goal.returns
returns g c =
    let words = changed_words (both_words g.B.Source g.L.Source) in
    let r = c.has_size-looked.result in
    let left = c.has_size-looked.new.source in (
      left,
      sym c.into_inner.ensures,
      subst (λ x. LooksAtHeader words c.args.both.placed.page_size r x left) c.new-patched.ensures
          (subst (λ n. LooksAtHeader words n r c.new-patched.result left) c.page_size-size.ensures c.has_size-looked.ensures),
    )
