-- The pages with their marks, as a reporter receives them one after another.
use Rattle.dbscan.proofs.Common.{◌≡◌, ℕ, ◌+◌, ◌≤◌, List, [], ◌∷◌, ◌++◌, length, drop, Option, Some, None, refl, sym, ap, subst, ◌∙◌, filter_map, Moves}
use Rattle.dbscan.proofs.Common.{Geometry, page_mark, Mark, Unmarked, Notice, marked, pages_from, cons_option, drop_all, drop_more}
use Rattle.dbscan.proofs.CountedMarks.{got, marked_at}

-- who receives the pages after the first i has received all
abbrev pub HasReceivedPages : {K : Type 0} → (K → Notice → K → Type 0) → Geometry → List Mark → ℕ → K → K → Type 0
HasReceivedPages {K = K} receives g marks i s m = (t : K) → Moves receives m (pages_from g (i + 1) (drop i marks)) t → Moves receives s (pages_from g 1 marks) t

module _ {K : Type 0} (receives : K → Notice → K → Type 0) (g : Geometry) (marks : List Mark) (i : ℕ) (s m : K)
    (received : HasReceivedPages receives g marks i s m) where
  pub one_page : (mark : Mark) (n : K) → page_mark marks (i + 1) ≡ Some mark → receives m (marked g (i + 1) mark) n
      → HasReceivedPages receives g marks (i + 1) s n
  one_page mark n at h t rest =
      let k = got marks i mark Unmarked (marked_at marks i mark at) in
      received t (subst (λ l. Moves receives m (pages_from g (i + 1) l) t)
      (sym (drop_more marks i Unmarked k.0 ∙ ap (λ x. x ∷ drop (i + 1) marks) k.1)) (n, h, rest))

  pub all_pages : length marks ≤ i → Moves receives s (pages_from g 1 marks) m
  all_pages l = received m (subst (λ l. Moves receives m (pages_from g (i + 1) l) m) (sym (drop_all i marks l)) refl)

-- they are none of what is looked for among notices
pub past_pages : {X : Type 0} (f : Notice → Option X) → ((g : Geometry) (p : ℕ) (mark : Mark) → f (marked g p mark) ≡ None) → (g : Geometry) (p : ℕ)
    (marks : List Mark) (ns : List Notice)
    → filter_map f (pages_from g p marks ++ ns) ≡ filter_map f ns
past_pages f none g p [] ns = refl
past_pages f none g p (mark ∷ marks) ns =
    ap (λ o. cons_option o (filter_map f (pages_from g (p + 1) marks ++ ns))) (none g p mark) ∙ past_pages f none g (p + 1) marks ns
