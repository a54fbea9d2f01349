use Rattle.std.proofs.Common.{◌≡◌, ◌∙◌, ap, sym, subst}
use Rattle.dbsource.specs.Patched.{Over}
use Rattle.dbcli.proofs.Patching.{patched_words, runs_below}
use Rattle.dbcli.proofs.Watching.{runs_left}
use Rattle.dbcli.specs.Finishing.{RunsInside}
use Rattle.dbcli.specs.Tasks.{Does, DoesWith}
use Rattle.dbcli.proofs.beside.run_over.Goals as goal

pub returns : goal.returns
returns g c =
    let s = c.args.source in
    let changes = c.args.line.now.changes in
    let asked = c.args.line.now.task in
    let status = c.finish_line-status.result in
    let w = c.finish_line-status.new.source in
    let o = c.args.out.now in
    let o' = c.finish_line-status.new.out in
    let e = c.args.err.now in
    let e' = c.finish_line-status.new.err in
    let words = patched_words g.S.Source g.O.Out g.E.Out in
    let begun = c.new-watched.ensures in
    let ended = c.into_inner.ensures in
    let patched = c.new-patched.ensures in
    let from : c.new-watched.result.source ≡ (record { changes = changes; source = s }) = begun ∙ patched in
    let left : c.into_inner-2.result ≡ w.source.source = c.into_inner-2.ensures ∙ ap (λ (x : Over _). x.source) ended in
    subst (λ x. RunsInside g.S.Source g.O.Out g.E.Out changes (DoesWith g.S.Source g.O.Out g.E.Out changes asked status) status
    (s, o, e) (x, o', e')) (sym left)
    (runs_below g.S.Source g.O.Out g.E.Out changes asked status (record { changes = changes; source = s }) w.source o o' e e'
    (subst (λ x. RunsInside words g.O.Out g.E.Out changes (Does words g.O.Out g.E.Out asked status) status (x, o, e) (w.source, o', e')) from
    (runs_left words (λ a. a.source) g.O.Out g.E.Out changes asked status c.new-watched.result w o o' e e' c.finish_line-status.ensures)))
