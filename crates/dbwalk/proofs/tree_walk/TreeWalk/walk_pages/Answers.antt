use Rattle.std.proofs.Common.{rules, ◌<◌, ◌++◌, [], ◌∷◌, length, Some, None, refl, sym, ap, subst, arith, ◌∙◌, option_to_list}
use Rattle.dbwalk.proofs.Common.{IsOpen, AreOpen, cost, IsAtTurn, HasNext, begin, has_weaker, log_then}
use Rattle.dbwalk.proofs.Trees.Bounds.{no_key_up_to}
use Rattle.dbwalk.proofs.Trees.Frames.{ends_past, next_at, path_last}
use Rattle.dbwalk.proofs.Pages.PageVisits.{kind_is}
use Rattle.dbwalk.proofs.Underway.WalkedTrees.{candidate_as, none_left, tree_started, tree_ended}
use Rattle.dbwalk.proofs.Underway.Handing.{asked_done, stopped_as}
use Rattle.dbwalk.proofs.Underway.TreeSteps.{by_other}
use Rattle.dbwalk.proofs.Underway.Visits.{entered_done}
use Rattle.dbwalk.proofs.Underway.Passing.{open_past, walking_past}
use Rattle.dbwalk.proofs.Underway.Walks.{walked_as, walked_as_ok, walked_asked, walked_behind}
use Rattle.dbwalk.proofs.Reporting.Sinks.{err_is, asked_open}
use Rattle.dbwalk.proofs.tree_walk.TreeWalk.walk_pages.Goals as goal

pub visit_page-requires : goal.visit_page-requires
visit_page-requires g c =
    let low : length c.args.self.now.tree.path.items < 20 = (let l = ap length c.requires.3 in omega arith) in
    search rules

pub returns-in_err-visit_page-clause-log : goal.returns-in_err-visit_page-clause-log
returns-in_err-visit_page-clause-log g c = has_weaker _ _ c.in_err-visit_page.ensures.log (λ log r. r) (λ file h e coded W d candidate there followed next m.
    let entry = h e coded (begin W) d 0 c.args.self.now.tree.start (rw c.requires.3 candidate) (rw c.requires.3 there) next followed m c.requires.1
    c.requires.2 (no_key_up_to file (W ++ (d ∷ [])) d candidate.depth) in
    stopped_as (err_is c.from_residual.ensures.1) entry.0.handed)

pub returns-then-not-branch-clause-log : goal.returns-then-not-branch-clause-log
returns-then-not-branch-clause-log g c = has_weaker _ _ c.in_ok-visit_page.ensures.log (λ log r. r) (λ file h e coded W d candidate there followed next m.
    let entry = h e coded (begin W) d 0 c.args.self.now.tree.start (rw c.requires.3 candidate) (rw c.requires.3 there) next followed m c.requires.1
    c.requires.2 (no_key_up_to file (W ++ (d ∷ [])) d candidate.depth) in
    asked_done _ c.ask.ensures (entered_done (begin W) d tt c.if-not-branch.true entry.0))

pub loop-frame-init : goal.loop-frame-init
loop-frame-init g c =
    let n = c.visit_page.new in
    let items = c.push.ensures.items ∙ ap (λ l. l ++ (record { page = c.args.page; next = 0; up_to = None } ∷ [])) c.new-frames.ensures in
    record {
      walked = walked_as_ok c.in_ok-visit_page.ensures.walked;
      few = (let l = ap length items in omega arith);
      opened = subst (λ l. AreOpen n.bench.geometry.usable n.self.tree.kind n.bench.levels 0 l) (sym items) (
        subst (λ l. IsOpen n.bench.geometry.usable n.self.tree.kind n.bench.levels (length l) c.args.page 0) c.requires.3
            (c.in_ok-visit_page.ensures.«open» (search rules)),
        tt,
      );
      path = path_last c.push.new.self.items [] (record { page = c.args.page; next = 0; up_to = None }) n.self.tree.path.items items
          (ap (λ p. p.items) c.visit_page.ensures.path ∙ c.requires.3);
      log = has_weaker _ _ c.in_ok-visit_page.ensures.log (λ log r. r) (λ file h e coded W d candidate there followed next m.
          let entry = h e coded (begin W) d 0 c.args.self.now.tree.start (rw c.requires.3 candidate) (rw c.requires.3 there) next followed m
          c.requires.1 c.requires.2 (no_key_up_to file (W ++ (d ∷ [])) d candidate.depth) in
          let role = kind_is file _ _ _ _ _ _ _ candidate ∙ ap Some (sym c.visit_page.ensures.walked.kind) in
          tree_started W d (record { page = c.args.page; next = 0; up_to = None }) items (sym candidate.page) refl refl next role candidate.depth
          c.if-not-branch.false entry);
    }

pub take_step-requires : goal.take_step-requires
take_step-requires g c =
    let inv = c.loop-frame.invariant in
    let bench = c.loop-frame.bench in
    let at = c.step_of-next in
    let popped = c.pop.ensures.items ∙ ap (λ o. c.pop.new.self.items ++ option_to_list o) c.in-Some.is in
    let turn : IsAtTurn bench.geometry.usable c.loop-frame.self.tree.kind bench.levels c.loop-frame.self.tree.path.items c.pop.new.self.items at.result.0
    at.result.1 = record {
      few = (let l = c.in-Some.ensures.len in let m = inv.few in omega arith);
      opened = open_past c.pop.new.self.items c.in-Some.frame at.result.0 c.len.ensures.value at.ensures.page at.ensures.up_to at.ensures.empty
          (subst (λ l. AreOpen bench.geometry.usable c.loop-frame.self.tree.kind bench.levels 0 l) popped inv.opened);
      path = inv.path c.pop.new.self.items c.in-Some.frame popped;
      step = subst (λ p. HasNext bench.geometry.usable c.loop-frame.self.tree.kind bench.levels (length c.pop.new.self.items) p at.result.0.next at.result.1)
          (sym at.ensures.page) (next_at c.len.ensures.value refl at.ensures.next);
    } in
    search rules

pub loop-frame-smaller : goal.loop-frame-smaller
loop-frame-smaller g c =
    let popped = c.pop.ensures.items ∙ ap (λ o. c.pop.new.self.items ++ option_to_list o) c.in-Some.is in
    let past = ends_past c.loop-frame.self.marks.now c.pop.new.self.items c.in-Some.frame c.step_of-next.result.0 c.step_of-next.ensures.empty.rise in
    let ends = c.in_ok-take_step.ensures.left.ends in
    subst (λ l. cost c.take_step.new.self.marks.now c.take_step.new.frames.items < cost c.loop-frame.self.marks.now l) (sym popped) (omega arith)

pub loop-frame-preserved : goal.loop-frame-preserved
loop-frame-preserved g c =
    let inv = c.loop-frame.invariant in
    let t = c.args.self.now.tree in
    let s = c.loop-frame in
    let popped = c.pop.ensures.items ∙ ap (λ o. c.pop.new.self.items ++ option_to_list o) c.in-Some.is in
    record {
      walked = walked_behind c.in_ok-take_step.ensures.walked inv.walked;
      few = c.in_ok-take_step.ensures.left.few;
      opened = c.in_ok-take_step.ensures.left.opened;
      path = c.in_ok-take_step.ensures.left.path;
      log = log_then _ _ (ap (λ x. x.page_size) inv.walked.shape) inv.log c.in_ok-take_step.ensures.log
          (λ file walking turned e coded W d candidate there followed next m.
          (turned (inv.walked.shape ∙ e) (inv.walked.coded ∙ coded) W d _
          (candidate_as inv.walked.kind inv.walked.start refl candidate.page inv.walked.start candidate)
          (walking_past c.pop.new.self.items (ap (λ x. x.usable) (inv.walked.shape ∙ e))
          (candidate_as inv.walked.kind inv.walked.start refl candidate.page inv.walked.start candidate)
          c.in-Some.frame c.step_of-next.result.0 c.len.ensures.value
          c.step_of-next.ensures.page c.step_of-next.ensures.up_to c.step_of-next.ensures.empty
          (by_other (walking e coded W d candidate there followed next m) (sym popped) refl refl refl (λ n l. refl)))).0);
    }

pub returns-in_err-take_step-clause-log : goal.returns-in_err-take_step-clause-log
returns-in_err-take_step-clause-log g c =
    let inv = c.loop-frame.invariant in
    let t = c.args.self.now.tree in
    let s = c.loop-frame in
    let popped = c.pop.ensures.items ∙ ap (λ o. c.pop.new.self.items ++ option_to_list o) c.in-Some.is in
    log_then _ _ (ap (λ x. x.page_size) inv.walked.shape) inv.log c.in_err-take_step.ensures.log
    (λ file walking turned e coded W d candidate there followed next m.
    let q = err_is c.from_residual-in_err-take_step.ensures.1 in
    let stopped = turned (inv.walked.shape ∙ e) (inv.walked.coded ∙ coded) W d _
    (candidate_as inv.walked.kind inv.walked.start refl candidate.page inv.walked.start candidate)
    (walking_past c.pop.new.self.items (ap (λ x. x.usable) (inv.walked.shape ∙ e))
    (candidate_as inv.walked.kind inv.walked.start refl candidate.page inv.walked.start candidate)
    c.in-Some.frame c.step_of-next.result.0 c.len.ensures.value c.step_of-next.ensures.page
    c.step_of-next.ensures.up_to c.step_of-next.ensures.empty
    (by_other (walking e coded W d candidate there followed next m) (sym popped) refl refl refl (λ n l. refl))) in
    stopped_as q stopped.1)

pub returns-clause-log : goal.returns-clause-log
returns-clause-log g c =
    let empty = none_left c.loop-frame.frames.items c.pop.result c.in_default.is c.pop.ensures.variant in
    has_weaker _ _ c.loop-frame.invariant.log (λ log r. r)
    (λ file walking e coded W d candidate there followed next m.
    asked_done _ c.ask-2.ensures (tree_ended W d empty (walking e coded W d candidate there followed next m)))

pub returns-in_err-visit_page-clause-walked : goal.returns-in_err-visit_page-clause-walked
returns-in_err-visit_page-clause-walked g c =
    walked_as (err_is c.from_residual.ensures.1) c.in_err-visit_page.ensures.walked

pub returns-in_err-take_step-clause-walked : goal.returns-in_err-take_step-clause-walked
returns-in_err-take_step-clause-walked g c =
    walked_as {R = Unit {0}} (err_is c.from_residual-in_err-take_step.ensures.1) (walked_behind c.in_err-take_step.ensures.walked c.loop-frame.invariant.walked)

pub returns-clause-walked : goal.returns-clause-walked
returns-clause-walked g c = walked_asked c.ask-2.ensures c.loop-frame.invariant.walked

pub returns-clause-open : goal.returns-clause-open
returns-clause-open g c = asked_open _ c.ask-2.ensures

pub returns-then-not-branch-clause-open : goal.returns-then-not-branch-clause-open
returns-then-not-branch-clause-open g c = asked_open _ c.ask.ensures

pub push-requires : goal.push-requires
push-requires g c = (search rules, omega (arith, ap length c.new-frames.ensures))

pub returns-then-not-branch-clause-walked : goal.returns-then-not-branch-clause-walked
returns-then-not-branch-clause-walked g c =
    walked_asked c.ask.ensures c.in_ok-visit_page.ensures.walked
