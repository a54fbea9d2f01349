use Rattle.dbscan.proofs.Common.{ap, ◌∙◌, slice_get, page_mark, start_by}
use Rattle.dbscan.proofs.PageMarks.{start_is}
use Rattle.dbscan.proofs.page_trees.PageTrees.start_of.Goals as goal

pub returns : goal.returns
returns g c = λ file V s m t.
    (c.by_mark.ensures ∙ ap (λ m. start_by m (slice_get c.args.self.now.known c.args.page)) (c.mark_of.ensures ∙ ap (λ marks. page_mark marks c.args.page) m)
    ∙ start_is file V s c.args.self.now.known t c.args.page)
