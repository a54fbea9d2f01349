use Rattle.std.proofs.Common.{◌≡◌, ℕ, ◌<◌, ◌/◌, zero, suc, Option, None, Some, sym, ◌∙◌, subst, rules}
use Rattle.std.specs.Prelude.{SomeIff, unwrap_or}
use Rattle.std.proofs.Math.Nat.{div-zero}
use Rattle.dbcli.specs.NoteLines.{PutsIfRoom, said_line}
use Rattle.dbcli.specs.Rest.{bytes_after, rest_said}
use Rattle.dbcli.proofs.rest.put_rest.Goals as goal

-- a division by 0 gives 0
divided : (o : Option ℕ) (a b : ℕ) → SomeIff o (0 < b) (a / b) → unwrap_or o 0 ≡ a / b
divided None a zero h = sym (div-zero a)
divided None a (suc b) h = absurd (search rules)
divided (Some x) a b h = search rules

pub returns : goal.returns
returns g c =
    let many : c.unwrap_or-pages.result ≡ bytes_after c.args.len c.args.geometry / c.args.geometry.page_size =
    c.unwrap_or-pages.ensures ∙ divided c.checked_div.result c.bytes_after-rest.result c.from.result c.checked_div.ensures
    ∙ (λ i. c.bytes_after-rest.ensures i / c.from.ensures i) in
    let P : ℕ → Type 0 = λ pages. PutsIfRoom (g.N.Out.held c.args.notes.now.out.now) (g.N.Out.held c.put_counts.new.notes.out.now)
    (said_line c.args.none.now (rest_said (bytes_after c.args.len c.args.geometry) c.args.geometry.pages pages c.args.references)) in
    let Q : ℕ → ℕ → Type 0 = λ rest page. PutsIfRoom (g.N.Out.held c.args.notes.now.out.now) (g.N.Out.held c.put_counts.new.notes.out.now)
    (said_line c.args.none.now (rest_said rest page c.unwrap_or-pages.result c.args.references)) in
    let put : Q (bytes_after c.args.len c.args.geometry) c.args.geometry.pages =
    rw (← c.bytes_after-rest.ensures, ← c.from-2.ensures) c.put_counts.ensures in
    (λ none. absurd (c.if-rest-eq0.false (c.bytes_after-rest.ensures ∙ none)), λ some. subst P many put)
