use Rattle.std.proofs.Common.{rules, ◌≡◌, [], inl}
use Rattle.dbcli.specs.Tasks.{Does}
use Rattle.dbcli.proofs.Patching.{does_from, runs_changed, same_state}
use Rattle.dbcli.proofs.finishing.finish_line.Goals as goal

pub returns-in-Ok : goal.returns-in-Ok
returns-in-Ok g c =
    let asked = c.args.line.now.task in
    let status = c.do_task-in-Ok.result in
    let some : c.args.line.now.changes ≡ [] → ⊥ = search rules in
    runs_changed g.S.Source g.O.Out g.E.Out (Does g.S.Source g.O.Out g.E.Out asked status) c.args.line.now.changes status
    (c.args.source.now, c.args.out.now, c.args.err.now) (c.do_task-in-Ok.new.source, c.do_task-in-Ok.new.out, c.do_task-in-Ok.new.err) some (inl (record {
      len = c.in-Ok.len;
      measured = record { answered = c.in-Ok.ensures.length; told = c.in-Ok.ensures.number };
      inside = search rules;
      ran = does_from g.S.Source g.O.Out g.E.Out asked status c.args.source.now c.len.new.self c.do_task-in-Ok.new.source c.args.out.now
          c.do_task-in-Ok.new.out c.args.err.now c.do_task-in-Ok.new.err
          (same_state _ _ c.in-Ok.ensures.told c.in-Ok.ensures.trail c.in-Ok.ensures.count) c.do_task-in-Ok.ensures;
    }))
