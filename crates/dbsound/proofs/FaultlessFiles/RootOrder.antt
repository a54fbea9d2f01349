-- In a file without faults each root page is before each page that is no root.
use Rattle.std.proofs.Common.{◌≡◌, ◌≢◌, ℕ, ◌<◌, ◌≤◌, inl, inr, Bool, true, false, not, ◌&&◌, List, [], map, Some, refl, sym, ap, subst, ◌∙◌, arith}
use Rattle.std.specs.Prelude.{filter, nat_lt, ◌==◌}
use Rattle.std.proofs.lemmas.Bool.{and_from, ne_eqb, eq-eqb, ltb-false}
use Rattle.dbsound.proofs.Common.{IsIn, under, Link, has_pointer_map, geometry, start_of, schema_start, Way, Reference, role_of, is_root, starts, Survey}
use Rattle.dbsound.proofs.Common.{visit_of, late_root_fault, Use, use_of}
use Rattle.dbsurvey.proofs.Ordering.{IsIn-map, IsIn-from_map}
use Rattle.dbsurvey.proofs.Composing.{named_at-from}
use Rattle.dbformat.specs.EndFaults.{least_other_page, is_root_page}
use Rattle.dbformat.specs.Terms.{is_root_use}
use Rattle.dbformat.proofs.Rising.{starts_rise}
use Rattle.dbsurvey.proofs.Lists.{filter-has, any_true}
use Rattle.dbsurvey.proofs.Elements.{IsIn-from_range}
use Rattle.dbsound.proofs.FaultlessFiles.Forest.{start_triple}
use Rattle.dbformat.proofs.FaultParts.{NoneLate}
use Rattle.dbformat.proofs.Visited.{visit_is, number_of, root_is_start}
use Rattle.dbsound.proofs.TermVisits.Uses.{root_use}
use Rattle.dbsurvey.proofs.Least.{least_of}

module _ (file : List ℕ) (V : List Reference) (s : Survey file V) where
  -- a root that is visited is that of a start
  root_start_of : (r : Reference) → IsIn r V → is_root (role_of r) ≡ true → (l : Link Way) × IsIn l (starts file V) × (r ≡ start_triple l)
  root_start_of r i e = named_at-from [] (starts file V) r (root_is_start file V s r i e)

  not_late : (p least : ℕ) → late_root_fault file V p ≡ [] → has_pointer_map file ≡ true → is_root_page V p ≡ true → least_other_page V ≡ Some least → p ≤ least
  unfolding late_root_fault
  not_late p least e m r l = by_test (nat_lt least p) refl
    where
      by_test : (b : Bool) → nat_lt least p ≡ b → p ≤ least
      by_test true f = let k = rw (l, m, r, f) at e in cc
      by_test false f = ltb-false least p f

  -- two roles, two pages
  apart : (r q : Reference) → IsIn r V → IsIn q V → is_root (role_of r) ≡ true → is_root (role_of q) ≡ false → r.page ≢ q.page
  apart r q i j e f g =
      let a = visit_is file V s r i in
      let b = visit_is file V s q j in
      let c : visit_of V r.page ≡ visit_of V q.page = ap (visit_of V) g in
      let d : r ≡ q = cc in
      let k = sym e ∙ ap (λ r. is_root (role_of r)) d ∙ f in cc

  module _ (late : NoneLate file V) (mapped : has_pointer_map file ≡ true) where
    least_other : (q : Reference) → IsIn q V → is_root (role_of q) ≡ false → (least : ℕ) × (least_other_page V ≡ Some least) × (least ≤ q.page)
    least_other q j f = least_of (map (λ r. r.page) (filter (λ r. not (is_root (role_of r))) V)) q.page
        (IsIn-map (λ r. r.page) (filter (λ r. not (is_root (role_of r))) V) q (filter-has (λ r. not (is_root (role_of r))) V q j (ap not f)))

    pub root_before : (r q : Reference) → IsIn r V → IsIn q V → is_root (role_of r) ≡ true → is_root (role_of q) ≡ false → r.page < q.page
    root_before r q i j e f = by_start (root_start_of r i e)
      where
        differ : r.page ≢ q.page
        differ = apart r q i j e f

        by_start : (l : Link Way) × IsIn l (starts file V) × (r ≡ start_triple l) → r.page < q.page
        by_start h = elim h.1 [
          | inl k ↦ (let one : r.page ≡ 1 = ap (λ r. r.page) h.2 ∙ ap (λ l. l.page) k in
              let at = (IsIn-from_range 1 (geometry file).pages q.page (number_of file V s q j)).0 in omega (arith, differ))
          | inr k ↦ (
              let later : 0 < h.0.step = (starts_rise file (under schema_start V)).0 h.0 k in
              let off : (start_of r.address == schema_start) ≡ false = ap (λ r. start_of r.address == schema_start) h.2
              ∙ ne_eqb h.0.step 0 (λ z. let x : ⊥ = omega arith in x) in
              let here : is_root_page V r.page ≡ true = any_true (λ t. (t.page == r.page) && is_root (role_of t) && not (start_of t.address == schema_start)) V
              r i
              (and_from ((r.page == r.page) && is_root (role_of r)) (not (start_of r.address == schema_start))
              (and_from (r.page == r.page) (is_root (role_of r)) (eq-eqb r.page r.page refl) e) (ap not off)) in
              let least = least_other q j f in
              let below = not_late r.page least.0 (late r.page (number_of file V s r i)) mapped here least.1 in
              let above = least.2 in
              omega (arith, differ))
        ]

    -- the same of the uses
    pub use_before : (u w : Use) → IsIn u (map use_of V) → is_root_use u ≡ true → IsIn w (map use_of V) → is_root_use w ≡ false → u.page < w.page
    use_before u w i e j f =
        let m = IsIn-from_map use_of V u i in
        let n = IsIn-from_map use_of V w j in
        let k = root_before m.0 n.0 m.1 n.1 (sym (root_use m.0) ∙ ap is_root_use (sym m.2) ∙ e) (sym (root_use n.0) ∙ ap is_root_use (sym n.2) ∙ f) in
        let a = ap (λ u. u.page) m.2 in
        let b = ap (λ u. u.page) n.2 in
        subst (λ p. p < w.page) (sym a) (subst (λ p. m.0.page < p) (sym b) k)
