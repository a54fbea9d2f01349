use Rattle.std.proofs.Common.{◌≡◌, ℕ, ◌+◌, ◌-◌, ◌<◌, ◌≤◌, ◌&&◌, ◌||◌, Bool, true, false, cond, List, Some, length, map, take, drop, get_or, get_or-take}
use Rattle.std.proofs.Common.{sym, ap, ap₂, subst, refl, ◌∙◌, arith}
use Rattle.std.specs.Prelude.{nat_le}
use Rattle.std.proofs.lemmas.Bool.Decides.{nat_tests}
use Rattle.std.proofs.lemmas.List.{length-take}
use Rattle.dbinjuries.specs.Listing.{home_from, is_beside, same_cause}
use Rattle.dbinjuries.specs.Lists.{Held}
use Rattle.dbinjuries.specs.Store.{home_kept}
use Rattle.dbinjuries.specs.declared.injury.Injury.{Injury}
use Rattle.dbinjuries.proofs.Adding.{look}
use Rattle.dbinjuries.proofs.listing.Listing.home.Goals as goal
use Rattle.dbinjuries.proofs.listing.Listing.home.Goals.{then-left-le1-via-then-left-le1, then-left-le1-via-else-left-le1+then-same_cause}
use Rattle.dbinjuries.proofs.listing.Listing.home.Goals.{else-is_beside, then-is_beside+else-left-le1+else-same_cause}

-- what is shown of some injuries has the one that is read
read : (items : List Injury) (shown n : ℕ) (e : Injury) → shown ≤ length items → n < shown → get_or items n e ≡ e
    → (n < length (take shown items)) × (get_or (take shown items) n e ≡ e)
read items shown n e all within is = let l = length-take shown items in (omega (arith, l, all, within), get_or-take shown items n e within ∙ is)

pub returns-then-left-le1 : goal.returns-then-left-le1
returns-then-left-le1 g c =
    let x = c.args.reported.now in
    let n = c.loop-slot.slot in
    let left = c.loop-slot.left in
    let e = c.index.result.now in
    let s = c.self.inside in
    let r = subst (λ (s : Held). (n < length s.injuries.listed) × (get_or s.injuries.listed n e ≡ e)) c.self.view_is
    (read s.injuries.items s.shown n e (omega (arith, c.self.invariant.0)) c.loop-slot-test.true (sym c.index.ensures)) in
    let on : (nat_le left 1 || same_cause x.cause e.first.cause) ≡ true = elim c.then-left-le1.branch [
      | then-left-le1-via-then-left-le1 w ↦ ap (λ b. b || same_cause x.cause e.first.cause)
          (let t : nat_le left 1 ≡ true = grind (arith, nat_tests, w.if-left-le1.true) in t)
      | then-left-le1-via-else-left-le1+then-same_cause w ↦
          ap₂ (λ a b. a || b) (let t : nat_le left 1 ≡ false = grind (arith, nat_tests, w.if-left-le1.false) in t)
          (sym w.same_cause.ensures ∙ w.if-same_cause.true)
    ] in
    sym (c.loop-slot.invariant ∙ look x left n c.args.self.now.injuries.listed e r.0 r.1
    ∙ ap₂ (λ a b. cond (a && b) (Some n) (home_from x (cond (is_beside x e.first) (left - 1) left) (n + 1) (drop (n + 1)
    (map (λ (e : Injury). e.first) c.args.self.now.injuries.listed)))) (sym c.is_beside.ensures ∙ c.if-is_beside.true) on)

pub loop-slot-preserved : goal.loop-slot-preserved
loop-slot-preserved g c =
    let x = c.args.reported.now in
    let n = c.loop-slot.slot in
    let left = c.loop-slot.left in
    let e = c.index.result.now in
    let s = c.self.inside in
    let fs = map (λ (e : Injury). e.first) c.args.self.now.injuries.listed in
    let r = subst (λ (s : Held). (n < length s.injuries.listed) × (get_or s.injuries.listed n e ≡ e)) c.self.view_is
    (read s.injuries.items s.shown n e (omega (arith, c.self.invariant.0)) c.loop-slot-test.true (sym c.index.ensures)) in
    let next : (a b : Bool) → c.is_beside.result ≡ a → (nat_le left 1 || same_cause x.cause e.first.cause) ≡ b → (a && b) ≡ false
    → home_kept x c.args.self.now.injuries ≡ home_from x (cond a (left - 1) left) (n + 1) (drop (n + 1) fs) = λ a b on at off.
    c.loop-slot.invariant ∙ look x left n c.args.self.now.injuries.listed e r.0 r.1
    ∙ ap₂ (λ a b. cond (a && b) (Some n) (home_from x (cond a (left - 1) left) (n + 1) (drop (n + 1) fs))) (sym c.is_beside.ensures ∙ on) at
    ∙ ap (λ b. cond b (Some n) (home_from x (cond a (left - 1) left) (n + 1) (drop (n + 1) fs))) off in
    elim c.if-is_beside.branch [
      | then-is_beside+else-left-le1+else-same_cause w ↦ rw w.left-is (next true false w.if-is_beside.true
          (ap₂ (λ a b. a || b) (let t : nat_le left 1 ≡ false = grind (arith, nat_tests, w.if-left-le1.false) in t)
          (sym w.same_cause.ensures ∙ w.if-same_cause.false))
          refl)
      | else-is_beside w ↦ rw w.left-is (next false _ w.if-is_beside.false refl refl)
    ]
