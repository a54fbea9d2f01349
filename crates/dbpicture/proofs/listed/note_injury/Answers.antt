use Rattle.std.proofs.Common.{arith, min, ◌≡◌, ℕ, ◌++◌, List, take, ap, subst, ◌∙◌, append_assoc}
use Rattle.std.specs.Prelude.{flat_map}
use Rattle.dbpicture.specs.Faults.{frame_signs, framed, run_pages}
use Rattle.dbpicture.specs.Keeping.{AreNoted}
use Rattle.dbpicture.specs.declared.faults.Sign.{Sign}
use Rattle.dbpicture.proofs.listed.note_injury.Goals as goal

pub returns : goal.returns
returns g c = λ count signs h.
    let all = c.note_runs.ensures count _ (c.note_pages.ensures count signs h) in
    let runs = c.args.injury.now.others.runs in
    let few : c.min.result ≡ min runs.count 10 = omega (arith, c.min.ensures) in
    subst (λ (l : List (ℕ × Sign)). AreNoted count l c.note_runs.new.notes)
    (append_assoc signs (frame_signs c.args.injury.now.first) _
    ∙ ap (λ n. signs ++ (frame_signs c.args.injury.now.first ++ framed (flat_map run_pages (take n runs.kept)))) few) all
