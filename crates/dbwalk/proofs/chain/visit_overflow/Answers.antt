use Rattle.std.proofs.Common.{◌+◌, sym, ap, ap₂, subst, ◌∙◌}
use Rattle.dbwalk.proofs.Common.{Moves, page_bytes, usable_size, overflow_bytes, overflow_next, seen_bytes, Feeds, walked_chain}
use Rattle.dbwalk.proofs.Chaining.Feedings.{held_is}
use Rattle.dbwalk.proofs.Chaining.Heads.{head_cause}
use Rattle.dbwalk.proofs.Chaining.Overflows.{reported_is}
use Rattle.dbtrace.specs.declared.Cause.TheVariants as cause
use Rattle.dbwalk.proofs.chain.visit_overflow.Goals as goal

pub returns-clause-visited : goal.returns-clause-visited
returns-clause-visited g c = λ file b u.
    let at = c.args.at.place in
    let r = c.overflow_row-row.ensures in
    record {
      reported = λ U d p l on head. subst (λ L. Moves g.K.Sink.takes c.args.sink.now L c.report.new.sink)
          (reported_is file U d c.args.at.chain.now at.number at.step.page c.args.usable at.left c.next_page-next.result
          c.overflow_row-row.result c.last_fault-fault.result
          u (c.next_page-next.ensures ∙ ap overflow_next b) p l on r.start r.path r.chain r.page.0 r.page.1 r.counts c.last_fault-fault.ensures _
          (ap₂ (λ x y. cause.Chain (walked_chain c.args.at.chain.now at.number x at.left (at.number + 1) (seen_bytes x y))) u
          (b ∙ ap (page_bytes file) (sym p))
          ∙ sym (head_cause file U c.args.at.chain.now at.number at.left 1 (seen_bytes (usable_size file) (page_bytes file d.page)) d l on head)))
          c.report.ensures.items;
      fed = λ d p l. subst (λ l. Feeds c.args.sieve.now l c.feed_page.new.sieve)
          (ap (λ u. overflow_bytes u at.left c.args.bytes.now) u ∙ ap (overflow_bytes (usable_size file) at.left) (b ∙ ap (page_bytes file) (sym p))
          ∙ sym (held_is file d at.left l))
          c.feed_page.ensures.fed;
    }
