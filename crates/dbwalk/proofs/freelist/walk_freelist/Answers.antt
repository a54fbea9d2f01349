use Rattle.std.proofs.Common.{◌≡◌, [], ◌∷◌, None, refl, ap, ◌∙◌}
use Rattle.dbwalk.proofs.Common.{Go, begin, is_read_failed, failures_after, IsDone, Tree, reported_below}
use Rattle.dbformat.specs.declared.TreeKind.TheVariants.{Table}
use Rattle.dbwalk.proofs.FreeTrunks.{trunks_done}
use Rattle.dbwalk.proofs.Pages.Levels.{page_buffer}
use Rattle.dbwalk.proofs.Reporting.Besides.{beside_as, log_shaped}
use Rattle.dbwalk.proofs.Reporting.Sinks.{err_is, asked_both, asked_open, asked_walks, moves_some, walks_as, walks_end}
use Rattle.dbwalk.proofs.freelist.walk_freelist.Goals as goal

-- the state of no tree
abbrev no_tree : Tree
no_tree = record { start = 0; kind = Table; greatest = None; leaf = None; path = record { items = [] } }

pub returns-in_err-walk_trunks-clause-asks : goal.returns-in_err-walk_trunks-clause-asks
returns-in_err-walk_trunks-clause-asks g c =
    let q = err_is c.from_residual.ensures.1 in
    let walks = c.in_err-walk_trunks.ensures.walks in
    record {
      log = log_shaped c.chain-buffer.ensures.len.1 walks.log
          (λ file e done W d h next m. rw q (trunks_done h (done (ap (λ s. s.usable) (c.geometry-usable.ensures.value ∙ e)) (begin W) d no_tree h next
          (m, refl, refl))));
      count = (beside_as q walks.beside).reads;
    }

pub returns-clause-asks : goal.returns-clause-asks
returns-clause-asks g c =
    let shut = (g.K.Sink.held c.walk_trunks.new.sink).is_shut in
    let walks = c.in_ok-walk_trunks.ensures.walks in
    record {
      log = log_shaped c.chain-buffer.ensures.len.1 walks.log (λ file e walked W d h next m.
          let done = trunks_done h (walked (ap (λ s. s.usable) (c.geometry-usable.ensures.value ∙ e)) (begin W) d no_tree h next (m, refl, refl)) in
          asked_both (λ r. IsDone g.K.Sink.takes file W (Go d ∷ []) r c.walk_trunks.new.marks c.args.sink.now c.walk_trunks.new.sink) shut c.ask.ensures
          done (record {
            marked = tt;
            reported = moves_some g.K.Sink.takes c.args.sink.now c.walk_trunks.new.sink (reported_below file W (Go d ∷ [])) done.reported;
          }));
      count = asked_both (λ r. (g.S.Source.held c.walk_trunks.new.source).failures
          ≡ failures_after is_read_failed r (g.S.Source.held c.args.source.now).failures) shut c.ask.ensures walks.beside.reads walks.beside.reads;
    }

pub returns-clause-writes : goal.returns-clause-writes
returns-clause-writes g c =
    walks_end c.ask.result (asked_walks c.ask.ensures c.in_ok-walk_trunks.ensures.walks.beside.writes.moves) c.requires.«open» (asked_open _ c.ask.ensures)

pub returns-in_err-walk_trunks-clause-writes : goal.returns-in_err-walk_trunks-clause-writes
returns-in_err-walk_trunks-clause-writes g c =
    let q = err_is c.from_residual.ensures.1 in
    walks_end c.from_residual.result (walks_as q c.in_err-walk_trunks.ensures.walks.beside.writes) c.requires.«open» (rw q tt)

pub returns-clause-shut : goal.returns-clause-shut
returns-clause-shut g c = (asked_walks c.ask.ensures c.in_ok-walk_trunks.ensures.walks.beside.writes.moves).shut

pub returns-in_err-walk_trunks-clause-shut : goal.returns-in_err-walk_trunks-clause-shut
returns-in_err-walk_trunks-clause-shut g c = (walks_as (err_is c.from_residual.ensures.1) c.in_err-walk_trunks.ensures.walks.beside.writes).shut

pub walk_trunks-requires : goal.walk_trunks-requires
walk_trunks-requires g c =
    record { buffer = page_buffer c.geometry-usable.ensures.value c.geometry-usable.ensures.range c.chain-buffer.ensures.len.1 }
