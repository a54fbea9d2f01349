-- Which trees have pages of an index, row after row.
use Rattle.std.proofs.Common.{◌≡◌, ℕ, Bool, true, false, cond, ◌&&◌, ◌||◌, List, [], ◌∷◌, ◌++◌, replicate, Some, refl, sym, ap, subst, ◌∙◌, arith}
use Rattle.std.proofs.Common.{append-nil, append_assoc}
use Rattle.std.specs.Prelude.{fold, slice_get, slice_set, ◌==◌}
use Rattle.std.specs.List.{list_any}
use Rattle.std.proofs.Math.Bool.{or-false}
use Rattle.std.proofs.lemmas.List.Folds.{list_any-append}
use Rattle.dbformat.specs.Rows.{StatRow}
use Rattle.dbscan.specs.StartTable.{most_starts}
use Rattle.dbexplain.specs.Indexes.{AreIndexes, index_noted, is_index_page, is_index_type}
use Rattle.dbexplain.proofs.Tallies.{none_reported, slot}

any_more : (k : ℕ) (rs : List StatRow) (r : StatRow) → list_any (is_index_page k) (rs ++ r ∷ [])
    ≡ (list_any (is_index_page k) rs || ((r.start == k) && is_index_type r.pagetype))
any_more k rs r = list_any-append (is_index_page k) rs (r ∷ [])
    ∙ ap (λ b. list_any (is_index_page k) rs || b) (or-false ((r.start == k) && is_index_type r.pagetype))

-- a row more
one_noted : (rs : List StatRow) (r : StatRow) (noted : List Bool) → AreIndexes rs noted → AreIndexes (rs ++ r ∷ []) (index_noted noted r)
one_noted rs r noted is = by_type (is_index_type r.pagetype) refl
  where
    with_true : (x : Bool) → true ≡ (x || true)
    with_true true = refl
    with_true false = refl

    and_false : (x : Bool) → false ≡ (x && false)
    and_false true = refl
    and_false false = refl

    by_type : (b : Bool) → is_index_type r.pagetype ≡ b → AreIndexes (rs ++ r ∷ []) (cond (is_index_type r.pagetype) (slice_set noted r.start true) noted)
    by_type true e = subst (λ b. AreIndexes (rs ++ r ∷ []) (cond b (slice_set noted r.start true) noted)) (sym e) (λ k l.
        slot noted r.start k false (λ (old : Bool). true) (list_any (is_index_page k) rs) (list_any (is_index_page k) (rs ++ r ∷ [])) (is k l)
        (λ q. with_true (list_any (is_index_page k) rs)
        ∙ ap (λ b. list_any (is_index_page k) rs || b) (sym (both (r.start == k) (is_index_type r.pagetype) q e)) ∙ sym (any_more k rs r))
        (λ q. sym (or-false (list_any (is_index_page k) rs))
        ∙ ap (λ b. list_any (is_index_page k) rs || (b && is_index_type r.pagetype)) (sym q) ∙ sym (any_more k rs r)))
      where
        both : (x y : Bool) → x ≡ true → y ≡ true → (x && y) ≡ true
        both x y f g = rw (f, g) refl
    by_type false e = subst (λ b. AreIndexes (rs ++ r ∷ []) (cond b (slice_set noted r.start true) noted)) (sym e) (λ k l.
        is k l ∙ ap Some (sym (or-false (list_any (is_index_page k) rs))
        ∙ ap (λ b. list_any (is_index_page k) rs || b) (and_false (r.start == k))
        ∙ ap (λ b. list_any (is_index_page k) rs || ((r.start == k) && b)) (sym e) ∙ sym (any_more k rs r)))

-- row after row
noted_from : (xs rs : List StatRow) (noted : List Bool) → AreIndexes rs noted → AreIndexes (rs ++ xs) (fold index_noted noted xs)
noted_from [] rs noted is = subst (λ l. AreIndexes l noted) (sym (append-nil rs)) is
noted_from (x ∷ xs) rs noted is = subst (λ l. AreIndexes l (fold index_noted (index_noted noted x) xs)) (append_assoc rs (x ∷ []) xs)
    (noted_from xs (rs ++ x ∷ []) (index_noted noted x) (one_noted rs x noted is))

pub all_indexes : (rs : List StatRow) (noted : List Bool) → AreIndexes [] noted → AreIndexes rs (fold index_noted noted rs)
all_indexes rs noted is = noted_from rs [] noted is

-- no row was noted
pub none_noted : (noted : List Bool) → noted ≡ replicate most_starts false → AreIndexes [] noted
unfolding most_starts
none_noted noted e k l = ap (λ xs. slice_get xs k) e ∙ none_reported most_starts k false (omega arith)
