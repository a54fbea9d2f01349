use Rattle.std.proofs.Common.{◌≡◌, true, refl, sym, ◌∙◌}
use Rattle.std.specs.Prelude.{◌==◌}
use Rattle.std.specs.List.{list_all}
use Rattle.dbcli.proofs.notes.beginning.Goals as goal

pub returns-then-are_zeros : goal.returns-then-are_zeros
returns-then-are_zeros c =
    let all : list_all (λ byte. byte == 0) c.args.first ≡ true = sym c.are_zeros.ensures ∙ c.if-are_zeros.true in
    rw all refl
