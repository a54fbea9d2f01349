use Rattle.std.proofs.Common.{◌≡◌, ◌++◌, [], ◌∷◌, List, subst, ap₂, ◌∙◌, ℕ, append_assoc}
use Rattle.dbpicture.specs.Keeping.{AreNoted}
use Rattle.dbpicture.specs.declared.faults.Sign.{Sign}
use Rattle.dbpicture.specs.declared.faults.Sign.TheVariants.{Framed}
use Rattle.dbpicture.proofs.listed.note_pages.Goals as goal

three : (xs : List (ℕ × Sign)) (a b d : ℕ × Sign) → ((xs ++ a ∷ []) ++ b ∷ []) ++ d ∷ [] ≡ xs ++ a ∷ b ∷ d ∷ []
three xs a b d = append_assoc (xs ++ a ∷ []) (b ∷ []) (d ∷ []) ∙ append_assoc xs (a ∷ []) (b ∷ d ∷ [])

pub returns : goal.returns
returns g c = λ count signs h.
    let p = c.args.first.now.fault.page in
    let all = c.note-3.ensures count _ (c.note-2.ensures count _ (c.note.ensures count signs h)) in
    subst (λ (l : List (ℕ × Sign)). AreNoted count l c.note-3.new.self)
    (three signs (p, Framed) (c.value_page.result, Framed) (c.cause_page.result, Framed)
    ∙ ap₂ (λ (n m : ℕ). signs ++ (p, Framed) ∷ (n, Framed) ∷ (m, Framed) ∷ []) c.value_page.ensures c.cause_page.ensures) all
