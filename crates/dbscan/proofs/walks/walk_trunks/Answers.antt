use Rattle.dbscan.proofs.Common.{◌==◌, ◌≡◌, false, List, [], refl, sym, ap, ◌∙◌, arith, geometry_of, first_trunk, Reference, Survey, HeaderBytes, DeskView}
use Rattle.dbscan.proofs.Common.{AreReported, IsBetweenStarts, nat_tests, first_trunk_within, log_none}
use Rattle.dbscan.proofs.DeskWalks.{desk_asks}
use Rattle.dbscan.proofs.Notifiers.{reporter_after}
use Rattle.dbscan.proofs.TreeWalks.{freelist_reported, no_freelist_reported}
use Rattle.dbscan.proofs.walks.walk_trunks.Goals as goal

pub returns-then-first-eq0-clause-asks : goal.returns-then-first-eq0-clause-asks
returns-then-first-eq0-clause-asks g c =
    let header : c.desk.inside.header ≡ c.args.desk.now.header = ap (λ (d : DeskView). d.header) c.desk.view_is in
    record {
      log = log_none (geometry_of c.args.desk.now.header.bytes c.args.desk.now.header.file_len).page_size c.args.desk.now.marks c.args.desk.now.marks
          (g.S.Source.held c.args.source.now) refl (λ file is V s before h.
          let none : first_trunk file ≡ 0 = sym (first_trunk_within file) ∙ ap first_trunk (sym (ap (λ (h : HeaderBytes). h.bytes) header ∙ is.begins))
          ∙ sym c.first_trunk-first.ensures ∙ c.if-first-eq0.true in
          no_freelist_reported g.K.Reporter.receives file V s before c.args.desk.now.marks c.args.notifier.now.reporter.now none h);
      count = refl;
    }

pub returns-clause-same_reporter : goal.returns-clause-same_reporter
returns-clause-same_reporter g c = (reporter_after g.K.Reporter.held c.walk_freelist.result c.args.notifier.now c.walk_freelist.new.sink
    c.walk_freelist.ensures.writes).0

pub returns-clause-asks : goal.returns-clause-asks
returns-clause-asks g c =
    desk_asks g.S.Source.step c.desk.inside c.args.desk.now c.walk_freelist.new.marks _
    (λ o file. (V : List Reference) → Survey file V → (before : g.row.K.Denot)
    → IsBetweenStarts g.K.Reporter.receives file V before [] o.marks c.args.notifier.now.reporter.now
    → AreReported g.K.Reporter.receives file V c.walk_freelist.result c.walk_freelist.new.marks before c.walk_freelist.new.sink.reporter.now)
    c.walk_freelist.result c.desk.invariant c.desk.view_is (λ n. refl) c.walk_freelist.ensures.asks
    (λ file is walked V s before h.
    let some = c.first_trunk-first.ensures ∙ ap first_trunk is.begins ∙ first_trunk_within file in
    let there : (c.first_trunk-first.result == 0) ≡ false = grind (arith, nat_tests) in
    freelist_reported g.K.Reporter.receives file V s before c.desk.inside.marks c.walk_freelist.new.marks c.args.notifier.now c.walk_freelist.new.sink
    c.first_trunk-first.result c.walk_freelist.result c.requires.start there some h walked)

pub returns-clause-keeps : goal.returns-clause-keeps
returns-clause-keeps g c = record {
  header = ap (λ (d : DeskView). d.header) c.desk.view_is;
  roots = ap (λ (d : DeskView). d.roots) c.desk.view_is;
  writes = (reporter_after g.K.Reporter.held c.walk_freelist.result c.args.notifier.now c.walk_freelist.new.sink c.walk_freelist.ensures.writes).1;
  only = c.walk_freelist.ensures.only;
}
