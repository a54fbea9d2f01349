use Rattle.std.proofs.Common.{ap, sym, ◌∙◌}
use Rattle.dbformat.specs.declared.Geometry.{Geometry}
use Rattle.dblines.proofs.Writing.{of_all, of_as}
use Rattle.dbexplain.specs.Explained.{after_cause}
use Rattle.dbexplain.specs.Facts.{facts_text, run_text}
use Rattle.dbexplain.proofs.injury_lines.put_after_cause.Goals as goal

pub returns-in-Key : goal.returns-in-Key
returns-in-Key g c = of_as (λ file V o. ap (after_cause file V c.args.page) (sym c.in-Key.is)) c.put_page.ensures

pub returns-in-Leaf : goal.returns-in-Leaf
returns-in-Leaf g c = of_as (λ file V o. ap (after_cause file V c.args.page) (sym c.in-Leaf.is)) c.put_page-in-Leaf.ensures

pub returns-in-Page : goal.returns-in-Page
returns-in-Page g c =
    of_as (λ file V o. ap (λ (g : Geometry). facts_text g.page_size c.in-Page.page c.in-Page.facts) (c.geometry.ensures.shape ∙ o.header.shape)
    ∙ ap (after_cause file V c.args.page) (sym c.in-Page.is)) (of_all c.put_facts.ensures)

pub returns-in-Look : goal.returns-in-Look
returns-in-Look g c =
    of_as (λ file V o. ap (λ (g : Geometry). facts_text g.page_size c.args.page c.in-Look.facts) (c.geometry-in-Look.ensures.shape ∙ o.header.shape)
    ∙ ap (after_cause file V c.args.page) (sym c.in-Look.is)) (of_all c.put_facts-in-Look.ensures)

pub returns-in-Chain : goal.returns-in-Chain
returns-in-Chain g c =
    of_as (λ file V o. ap (λ (g : Geometry). run_text g.page_size c.args.page c.in-Chain.chain.seen.run) (c.geometry-in-Chain.ensures.shape ∙ o.header.shape)
    ∙ ap (after_cause file V c.args.page) (sym c.in-Chain.is)) (of_all c.put_run.ensures)
