-- The starts of pages, as the rows of a file are received.
use Rattle.dbscan.proofs.Common.{◌≡◌, ℕ, ◌<◌, ◌⊎◌, inl, inr, List, [], ◌∷◌, length, Option, Some, refl, sym, ap, subst, ◌∙◌, arith, fold, filter_map, slice_get}
use Rattle.dbscan.proofs.Common.{◌==◌, eqb-true, eq-eqb, length-set, IsIn, start_of, geometry, Reference, role_of, StatRow, row_in, stat_rows, start_at, Survey}
use Rattle.dbscan.proofs.Common.{AreTrees, both_ways, cases_Bool, nat_tests, start_here, allowed}
use Rattle.dbsurvey.proofs.Lists.{filter_map-from, filter_map-has}
use Rattle.dbsound.proofs.RowCounts.RowPages.{of_row, row_of}
use Rattle.dbscan.specs.Trees.{row_noted}
use Rattle.dbscan.proofs.Slots.{get_set, get_set_other}

-- where all rows of page p have this start, it is noted, if it is known already or there is such a row
noted : (rows : List StatRow) (known : List ℕ) (p start : ℕ) → p < length known → ((r : StatRow) → IsIn r rows → r.page ≡ p → r.start ≡ start)
    → (slice_get known p ≡ Some start) ⊎ ((r : StatRow) × IsIn r rows × (r.page ≡ p)) → slice_get (fold row_noted known rows) p ≡ Some start
noted [] known p start l same (inl e) = e
noted [] known p start l same (inr h) = absurd h.1
noted (r ∷ rows) known p start l same h =
    noted rows (row_noted known r) p start (subst (λ n. p < n) (sym (length-set known r.page r.start)) l) (λ q i. same q (inr i)) (next h)
  where
    here : r.page ≡ p → slice_get (row_noted known r) p ≡ Some start
    here e = ap (slice_get (row_noted known r)) (sym e) ∙ get_set known r.page r.start (subst (λ p. p < length known) (sym e) l)
        ∙ ap Some (same r (inl refl) e)

    next : (slice_get known p ≡ Some start) ⊎ ((q : StatRow) × IsIn q (r ∷ rows) × (q.page ≡ p))
        → (slice_get (row_noted known r) p ≡ Some start) ⊎ ((q : StatRow) × IsIn q rows × (q.page ≡ p))
    next (inl e) = elim (cases_Bool (r.page == p)) [
      | inl f ↦ inl (here (eqb-true r.page p f))
      | inr f ↦ inl (get_set_other known r.page p r.start (λ d. both_ways (r.page == p) f (eq-eqb r.page p (sym d))) ∙ e)
    ]
    next (inr (q, inl f, e)) = inl (here (ap (λ (q : StatRow). q.page) (sym f) ∙ e))
    next (inr (q, inr i, e)) = inr (q, i, e)

-- so all rows of a file give the starts of its pages
pub all_noted : (file : List ℕ) (V : List Reference) (known : List ℕ) → Survey file V → (geometry file).pages < length known
    → AreTrees V (fold row_noted known (stat_rows file V))
unfolding stat_rows
all_noted file V known s room r i off =
    let a = (allowed file V s r i).0 in
    let fits : r.page < length known = grind (arith, nat_tests) in
    let row = row_of file r (role_of r) off in
    noted (stat_rows file V) known r.page (start_of r.address) fits same
    (inr (row.0, filter_map-has row_by V r row.0 i row.1, (of_row file r (role_of r) row.0 row.1).0))
  where
    row_by : Reference → Option StatRow
    row_by r = row_in (role_of r) file r

    same : (q : StatRow) → IsIn q (filter_map row_by V) → q.page ≡ r.page → q.start ≡ start_of r.address
    same q j e =
        let t = filter_map-from row_by V q j in
        let of = of_row file t.0 (role_of t.0) q t.2 in
        let there : start_at V q.page ≡ Some (start_of t.0.address) = ap (start_at V) of.0 ∙ start_here file V s t.0 t.1 in
        let here : start_at V q.page ≡ Some (start_of r.address) = ap (start_at V) e ∙ start_here file V s r i in
        cc
