use Rattle.std.proofs.Common.{rules, arith, ◌≡◌, ◌+◌, ◌-◌, length, set, Ok, Err, sym, ap, ◌∙◌}
use Rattle.dbwalk.proofs.Common.{page_bytes, unmarked_pages, refusal_cause, log_none}
use Rattle.dbmarks.proofs.Readings.{log_load, log_page, put_count}
use Rattle.dbwalk.proofs.Chaining.Overflows.{page_read}
use Rattle.dbwalk.proofs.Reporting.Besides.{beside_read, beside_shut, beside_reported, beside_unread}
use Rattle.dbwalk.proofs.Reporting.Sinks.{err_is, walks_as}
use Rattle.dbwalk.proofs.beside.enter_beside.Goals as goal

pub returns-in_err-enter-clause-walks : goal.returns-in_err-enter-clause-walks
returns-in_err-enter-clause-walks g c =
    let e = err_is c.from_residual.ensures.1 in
    record {
      log = log_none (length c.args.buffer.now) c.args.marks.now c.enter.new.marks (g.S.Source.held c.args.source.now)
          c.in_err-enter.ensures.after_error.1 (λ file s. record {
            opens = λ W d step next m w.
                rw e (c.in_err-enter.ensures.entered file W d (refusal_cause file W d) step next m
                (λ made p. w ∙ sym p)).1;
          });
      beside = beside_shut (e ∙ ap Err c.in_err-enter.ensures.after_error.0) (walks_as e c.in_err-enter.ensures.writes);
    }

pub returns-then-not-branch-clause-walks : goal.returns-then-not-branch-clause-walks
returns-then-not-branch-clause-walks g c = record {
  log = log_none (length c.args.buffer.now) c.args.marks.now c.enter.new.marks (g.S.Source.held c.args.source.now)
      (c.in_ok-enter.ensures.unmarked c.if-not-branch.true) (λ file s. record {
        opens = λ W d step next m w.
            rw c.if-not-branch.true at (c.in_ok-enter.ensures.entered file W d (refusal_cause file W d) step next m
            (λ made p. w ∙ sym p));
      });
  beside = beside_reported c.in_ok-enter.ensures.writes.moves;
}

pub returns-in_err-load_page-clause-walks : goal.returns-in_err-load_page-clause-walks
returns-in_err-load_page-clause-walks g c =
    let k = c.in_ok-enter.ensures.marked (search rules) in
    let size = length c.args.buffer.now in
    let e = err_is c.from_residual-in_err-load_page.ensures.1 in
    record {
      log = log_page _ size c.args.marks.now c.enter.new.marks c.args.step.page c.args.step.mark k.0 k.1 c.requires.named.1
          (log_load size c.args.step.page c.load_page.new.buffer (Err c.in_err-load_page.field-0.0) c.load_page.ensures.told c.load_page.auto.buffer
          (c.in_err-load_page.ensures.trail, tt))
          (λ file h s. record {
            opens = λ W d step next m w.
                rw e (rw c.if-not-branch.false at (c.in_ok-enter.ensures.entered file W d (refusal_cause file W d) step next m
                (λ made p. w ∙ sym p))).2;
          });
      beside = beside_unread e c.in_err-load_page.ensures.count c.in_ok-enter.ensures.writes.moves (c.in_ok-enter.ensures.«open» (search rules));
    }

pub returns-clause-walks : goal.returns-clause-walks
returns-clause-walks g c =
    let k = c.in_ok-enter.ensures.marked (search rules) in
    let size = length c.args.buffer.now in
    record {
      log = log_page _ size c.args.marks.now c.enter.new.marks c.args.step.page c.args.step.mark k.0 k.1 c.requires.named.1
          (log_load size c.args.step.page c.load_page.new.buffer (Ok tt) c.load_page.ensures.told c.load_page.auto.buffer
          (c.in_ok-load_page.ensures.trail, c.in_ok-load_page.ensures.bytes)) (λ file h s. record {
            opens = λ W d step next m w. (
              rw c.if-not-branch.false at (c.in_ok-enter.ensures.entered file W d (refusal_cause file W d) step next m
                  (λ made p. w ∙ sym p)),
              page_read file c.load_page.new.buffer size c.args.step.page c.load_page.auto.buffer h (sym s) ∙ ap (page_bytes file) (sym step.page),
            );
          });
      beside = beside_read c.in_ok-load_page.ensures.count c.in_ok-enter.ensures.writes.moves;
    }

pub returns-clause-page : goal.returns-clause-page
returns-clause-page g c = λ yes. (c.in_ok-enter.ensures.page (search rules)).1

pub returns-clause-less : goal.returns-clause-less
returns-clause-less g c = λ yes.
    let k = c.in_ok-enter.ensures.marked (search rules) in
    let m : unmarked_pages (set c.args.marks.now (c.args.step.page - 1) c.args.step.mark) + 1 ≡ unmarked_pages c.args.marks.now =
    put_count c.args.marks.now c.args.step.page c.args.step.mark k.0 c.requires.named.1.some in
    let n : unmarked_pages c.enter.new.marks ≡ unmarked_pages (set c.args.marks.now (c.args.step.page - 1) c.args.step.mark) = ap unmarked_pages k.1 in
    omega arith

pub load_page-requires : goal.load_page-requires
load_page-requires g c = record { page = (c.in_ok-enter.ensures.page (search rules)).0; size = c.requires.size }
