use Rattle.dbscan.proofs.Common.{rules, ◌≡◌, [], ◌++◌, ◌∷◌, length, vec_len, ap, ◌∙◌, subst, Listed, kept_row, IsWithin, All, schema_row_of}
use Rattle.dbscan.proofs.RootLists.{row_added}
use Rattle.dbscan.proofs.roots.RootList.add.Goals as goal

pub returns-clause-added : goal.returns-clause-added
returns-clause-added g c =
    let row = schema_row_of c.args.row.now in
    let len : vec_len c.self.inside.names ≡ length c.self.inside.names.items = c.self.inside.names.ok.0 in
    let within = subst (λ n. All (λ e. IsWithin n e.name) c.self.inside.entries.items) len c.self.invariant.within in
    row_added c.self.inside.names.items c.keep_name.new.names.items c.self.inside.entries.items c.push.new.items.items
    (record { page = c.args.row.now.root; kind = c.args.row.now.kind; name = c.in_ok-name.name }) row c.args.self.now.rows c.self.inside.refusals
    c.in_ok-name.ensures.more within (search rules)
    (ap (λ n. record { kind = c.args.row.now.kind; root = c.args.row.now.root; name = n }) c.in_ok-name.ensures.name)
    (ap (λ (l : Listed). l.rows) c.self.view_is)
    ∙ ap (λ (l : Listed). record { rows = c.args.self.now.rows ++ kept_row row ∷ []; refusals = l.refusals }) c.self.view_is
