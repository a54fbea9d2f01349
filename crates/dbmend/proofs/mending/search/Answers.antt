use Rattle.std.proofs.Common.{List, Ok, Err, subst}
use Rattle.dbsource.specs.Changes.{Change}
use Rattle.dbsource.specs.declared.error.RunError.{RunError}
use Rattle.dbsource.specs.declared.error.RunError.TheVariants.{Refused}
use Rattle.dbmend.specs.Deeds.{HasTried}
use Rattle.dbmend.proofs.Done.{read_or_memory}
use Rattle.dbmend.proofs.Searches.{mended_after, mended_unread}
use Rattle.dbmend.proofs.mending.search.Goals as goal

pub returns-in-Ok : goal.returns-in-Ok
returns-in-Ok g c = mended_after g.S.Source g.O.Out c.args.limit (Ok c.in-Ok.first.count) c.search_read.result c.args.source.now c.count_changed.new.source
    c.args.out.now (c.search_read.new.source, c.search_read.new.out)
    (subst (λ (x : List Change). HasTried g.S.Source x (Ok c.in-Ok.first.count) c.args.source.now c.count_changed.new.source) c.new.ensures
    c.in-Ok.ensures.tried)
    c.in-Ok.ensures.tried.reads c.search_read.ensures

pub returns-in-Refused : goal.returns-in-Refused
returns-in-Refused g c =
    let e = Refused c.in-Refused.refusal in
    let tried = subst (λ (x : RunError). HasTried g.S.Source c.new.result (Err x) c.args.source.now c.count_changed.new.source) c.in-Refused.is
    c.in-Err.ensures.tried in
    mended_after g.S.Source g.O.Out c.args.limit (Err e) c.search_refused.result c.args.source.now c.count_changed.new.source
    c.args.out.now (c.search_refused.new.source, c.search_refused.new.out)
    (subst (λ (x : List Change). HasTried g.S.Source x (Err e) c.args.source.now c.count_changed.new.source) c.new.ensures tried)
    tried.reads c.search_refused.ensures

pub returns-in_default : goal.returns-in_default
returns-in_default g c =
    let e = c.in-Err.error in
    mended_unread g.S.Source g.O.Out c.args.limit e c.args.source.now c.count_changed.new.source c.args.out.now
    (subst (λ (x : List Change). HasTried g.S.Source x (Err e) c.args.source.now c.count_changed.new.source) c.new.ensures c.in-Err.ensures.tried)
    (read_or_memory e c.in-Err.ensures.never c.in_default.not-Refused)
