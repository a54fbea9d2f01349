use Rattle.dbscan.proofs.Common.{ap, ◌∙◌, page_mark, place_by}
use Rattle.dbscan.proofs.PageMarks.{place_is}
use Rattle.dbscan.proofs.place.place_of.Goals as goal

pub returns-clause-visit : goal.returns-clause-visit
returns-clause-visit g c = λ file V s m.
    (c.by_mark.ensures ∙ ap place_by c.mark_of.ensures ∙ ap (λ marks. place_by (page_mark marks c.args.page)) m ∙ place_is file V s c.args.page)
