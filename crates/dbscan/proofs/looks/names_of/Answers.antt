use Rattle.dbscan.proofs.Common.{rules, ◌≡◌, ℕ, ◌+◌, ◌≤◌, Bool, true, false, cond, Option, Some, None, refl, sym, ◌∙◌, arith, count_by, is_some, View}
use Rattle.dbscan.proofs.Common.{is_unmarked, range_with_len, option_map_or, named_page}
use Rattle.dbsurvey.proofs.Ranges.{count_push}
use Rattle.dbscan.proofs.looks.names_of.Goals.{in-Some+then-is_lost, in-Some+else-is_lost, in_default}
use Rattle.dbscan.proofs.looks.names_of.Goals as goal

-- how many of the first i numbers on a page name a page, and how many of these pages are lost
abbrev IsOf : View → (ℕ → Bool) → ℕ → ℕ → ℕ → Type 0
IsOf v lost i pages gone =
    (pages ≡ count_by (λ k. is_some (named_page v k)) (range_with_len 0 i))
    × (gone ≡ count_by (λ k. option_map_or lost (named_page v k) false) (range_with_len 0 i))
    × (pages ≤ i) × (gone ≤ i)

-- with the next one
next : (v : View) (lost : ℕ → Bool) (i pages gone : ℕ) (o : Option ℕ) (b : Bool) → named_page v i ≡ o → option_map_or lost o false ≡ b
    → IsOf v lost i pages gone
    → IsOf v lost (i + 1) (pages + cond (is_some o) 1 0) (gone + cond b 1 0)
next v lost i pages gone o b e f is =
    let named = count_push (λ k. is_some (named_page v k)) 0 i i (omega arith) in
    let unmarked = count_push (λ k. option_map_or lost (named_page v k) false) 0 i i (omega arith) in
    (grind arith, grind arith, grind arith, grind arith)

none_more : (n : ℕ) → n ≡ n + 0
none_more n = omega arith

pub loop-i-preserved : goal.loop-i-preserved
loop-i-preserved g c =
    let v = c.args.view.now in
    let lost = is_unmarked c.args.marks.now in
    let i = c.loop-i.i in
    let named = c.loop-i.named in
    let turn : (o : Option ℕ) (b : Bool) → c.named_page.result ≡ o → option_map_or lost o false ≡ b
    → IsOf v lost (i + 1) (named.pages + cond (is_some o) 1 0) (named.lost + cond b 1 0)
    = λ o b e f. next v lost i named.pages named.lost o b (sym c.named_page.ensures ∙ e) f c.loop-i.invariant in
    elim c.match-named_page.branch [
      | in-Some+then-is_lost w ↦ rw w.named-is (turn (Some w.in-Some.page) true w.in-Some.is (sym w.is_lost.ensures.mark ∙ w.if-is_lost.true))
      | in-Some+else-is_lost w ↦ rw (w.named-is, none_more named.lost)
          (turn (Some w.in-Some.page) false w.in-Some.is (sym w.is_lost.ensures.mark ∙ w.if-is_lost.false))
      | in_default w ↦ rw (w.named-is, none_more named.pages, none_more named.lost) (turn None false w.in_default.is refl)
    ]

pub returns : goal.returns
returns g c = search rules
