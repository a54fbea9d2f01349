use Rattle.std.proofs.Common.{◌≡◌, List, ℕ, [], ◌∷◌, true, false, refl, subst, arith}
use Rattle.std.specs.Prelude.{codes, decimal, ◌==◌}
use Rattle.std.proofs.lemmas.Bool.Decides.{nat_tests}
use Rattle.dbcli.specs.NoteLines.{PutsIfRoom, said_line}
use Rattle.dbcli.specs.Rest.{rest_said}
use Rattle.dbcli.proofs.rest.put_counts.Goals as goal

pub returns-then-pages-eq0 : goal.returns-then-pages-eq0
returns-then-pages-eq0 g c =
    let P : List (List ℕ) → Type 0 = λ said.
    PutsIfRoom (g.N.Out.held c.args.notes.now.out.now) (g.N.Out.held c.put.new.self.out.now) (said_line c.args.none.now said) in
    let none : (c.args.pages == 0) ≡ true = grind (arith, nat_tests, c.if-pages-eq0.true) in
    let said : (decimal c.args.rest ∷ c.after_words.result.now ∷ decimal c.args.page ∷ c.read_words.result.now ∷ [])
    ≡ rest_said c.args.rest c.args.page c.args.pages c.args.references = rw (none, c.after_words.ensures, c.read_words.ensures) refl in
    subst P said c.put.ensures

pub returns-then-references-eq0 : goal.returns-then-references-eq0
returns-then-references-eq0 g c =
    let P : List (List ℕ) → Type 0 = λ said.
    PutsIfRoom (g.N.Out.held c.args.notes.now.out.now) (g.N.Out.held c.put-then-references-eq0.new.self.out.now) (said_line c.args.none.now said) in
    let some : (c.args.pages == 0) ≡ false = grind (arith, nat_tests, c.if-pages-eq0.false) in
    let none : (c.args.references == 0) ≡ true = grind (arith, nat_tests, c.if-references-eq0.true) in
    let said : (decimal c.args.rest ∷ c.after_words.result.now ∷ decimal c.args.page ∷ c.read_words.result.now ∷ codes ", "
    ∷ decimal c.args.pages ∷ c.whole_words.result.now ∷ []) ≡ rest_said c.args.rest c.args.page c.args.pages c.args.references =
    rw (some, none, c.after_words.ensures, c.read_words.ensures, c.whole_words.ensures) refl in
    subst P said c.put-then-references-eq0.ensures

pub returns : goal.returns
returns g c =
    let P : List (List ℕ) → Type 0 = λ said.
    PutsIfRoom (g.N.Out.held c.args.notes.now.out.now) (g.N.Out.held c.put-2.new.self.out.now) (said_line c.args.none.now said) in
    let some : (c.args.pages == 0) ≡ false = grind (arith, nat_tests, c.if-pages-eq0.false) in
    let led : (c.args.references == 0) ≡ false = grind (arith, nat_tests, c.if-references-eq0.false) in
    let said : (decimal c.args.rest ∷ c.after_words.result.now ∷ decimal c.args.page ∷ c.read_words.result.now ∷ codes ", "
    ∷ decimal c.args.pages ∷ c.whole_words.result.now ∷ codes ", to which " ∷ decimal c.args.references ∷ c.lead_words.result.now ∷ [])
    ≡ rest_said c.args.rest c.args.page c.args.pages c.args.references =
    rw (some, led, c.after_words.ensures, c.read_words.ensures, c.whole_words.ensures, c.lead_words.ensures) refl in
    subst P said c.put-2.ensures
