use Rattle.std.proofs.Common.{◌≡◌, ℕ, ◌+◌, List, ◌∷◌, ◌++◌, [], ◌||◌, ◌&&◌, not, Bool, true, false, refl, sym, ap, ap₂, ◌∙◌, arith}
use Rattle.std.specs.List.{flat_map, list_any, range_with_len}
use Rattle.std.proofs.Math.Bool.{or-false}
use Rattle.std.proofs.lemmas.List.Folds.{list_any-append}
use Rattle.dbsurvey.proofs.Ranges.{range_push}
use Rattle.dblines.proofs.Writing.{wrote_as}
use Rattle.dbpicture.specs.Owners.{has_pages}
use Rattle.dbpicture.specs.Groups.{is_first, owner_text}
use Rattle.dbpicture.specs.declared.owner_shares.OwnerShares.{OwnerShares}
use Rattle.dbpicture.proofs.Steps.{range_more, range_none}
use Rattle.dbpicture.proofs.group.GroupSquare.draw_owners.Goals as goal

neither : (a b : Bool) → (not a && not b) ≡ not (a || b)
neither true b = refl
neither false b = refl

first_next : (c : OwnerShares) (n : ℕ) → (is_first c n && not (has_pages c n)) ≡ is_first c (n + 1)
first_next c n =
    let at : 0 + n ≡ n = omega arith in
    let next = range_push 0 n ∙ ap (λ m. range_with_len 0 n ++ m ∷ []) at in
    neither (list_any (has_pages c) (range_with_len 0 n)) (has_pages c n)
    ∙ ap not (ap (λ b. list_any (has_pages c) (range_with_len 0 n) || b) (sym (or-false (has_pages c n)))
    ∙ sym (list_any-append (has_pages c) (range_with_len 0 n) (n ∷ [])) ∙ ap (list_any (has_pages c)) (sym next))

abbrev owner_at : OwnerShares → List (List ℕ) → ℕ → List ℕ
owner_at shares names number = owner_text shares names (is_first shares number) number

pub loop-number-init : goal.loop-number-init
loop-number-init g c = record { first = refl; drawn = range_none (owner_at c.args.self.now.shares c.args.labels.now.names.items) 0 c.args.writer.now refl }

pub loop-number-preserved : goal.loop-number-preserved
loop-number-preserved g c =
    let shares = c.args.self.now.shares in
    let number = c.loop-number.number in
    let first = c.loop-number.invariant.first in record {
      first = c.is_still_first-is_first.ensures ∙ ap₂ (λ a b. a && not b) first c.has.ensures ∙ first_next shares number;
      drawn = range_more (owner_at shares c.args.labels.now.names.items) 0 _ number c.loop-number.invariant.drawn
          (rw first at c.draw_owner.ensures) (omega arith) refl;
    }

pub returns : goal.returns
returns g c =
    let end : c.loop-number.number ≡ 17 = omega arith in
    wrote_as (ap (λ n. flat_map (owner_at c.args.self.now.shares c.args.labels.now.names.items) (range_with_len 0 n)) end) c.loop-number.invariant.drawn
