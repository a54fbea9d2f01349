-- One fault more, by what is kept of the injuries.
use Rattle.std.proofs.Common.{◌≡◌, ℕ, zero, suc, ◌+◌, ◌-◌, ◌<◌, ◌≤◌, Bool, true, false, cond, min, List, [], ◌∷◌, ◌++◌, length, map, take, drop, get_or}
use Rattle.std.proofs.Common.{Option, Some, None, refl, sym, ap, ap₂, subst, ◌∙◌, arith}
use Rattle.std.specs.Prelude.{fold, nat_le, nat_lt, ◌==◌}
use Rattle.std.specs.List.{sum_by}
use Rattle.std.specs.Option.{option_map_or}
use Rattle.std.proofs.lemmas.Bool.Decides.{nat_tests}
use Rattle.std.proofs.lemmas.List.{drop-take, drop_all, length-append, length-drop, length-map, length-take, map-append, take-append-le, take-map, take_all}
use Rattle.std.proofs.lemmas.List.Sums.{sum_by-append, sum_by-take-drop}
use Rattle.dbformat.specs.Lines.{counted}
use Rattle.dbtrace.specs.declared.TracedFault.{TracedFault}
use Rattle.dbinjuries.specs.Kept.{injury_added, kept_of, lone_injury}
use Rattle.dbinjuries.specs.Listing as listing
use Rattle.dbinjuries.specs.Listing.{Entered, alone, changed_at, entered, home, home_from, is_beside, is_home, joined, most, rank, size, turned, with_fault}
use Rattle.dbinjuries.specs.Store.{Stored, home_kept, put, put_at, put_here, put_kept, put_new, turned_to}
use Rattle.dbinjuries.specs.declared.injury.Injury.{Injury}
use Rattle.dbinjuries.proofs.Noting.{first_kept, kept_more, size_more}
use Rattle.dbinjuries.proofs.Numbers.{changed-past, drop-changed, map-changed, sum-changed, take-changed}

-- ---- where a fault goes

-- a number, if it is below another
abbrev below : ℕ → Option ℕ → Option ℕ
below l None = None
below l (Some i) = cond (nat_lt i l) (Some i) None

past : (l : ℕ) (o : Option ℕ) → ((k : ℕ) → o ≡ Some k → l ≤ k) → below l o ≡ None
past l None h = refl
past l (Some k) h = let m = h k refl in let off : nat_lt k l ≡ false = grind (arith, nat_tests, m) in ap (λ b. cond b (Some k) None) off

module _ (x : TracedFault) where
  -- what is found is a number of the list
  pub home_within : (n i : ℕ) (ys : List TracedFault) (k : ℕ) → home_from x n i ys ≡ Some k → (i ≤ k) × (k < i + length ys)
  home_within n i [] k e = absurd (let no : ⊥ = cc in no)
  home_within n i (y ∷ ys) k e = by_case (is_home x n y) _ (home_within (cond (is_beside x y) (n - 1) n) (i + 1) ys k) e
    where
      by_case : (b : Bool) (o : Option ℕ) → (o ≡ Some k → (i + 1 ≤ k) × (k < i + 1 + length ys)) → cond b (Some i) o ≡ Some k
          → (i ≤ k) × (k < i + suc (length ys))
      by_case true o h e = let q : i ≡ k = cc in (omega (arith, q), omega (arith, q))
      by_case false o h e = let w = h e in (omega (arith, w.0), omega (arith, w.1))

  -- what is found among the first m is what is found in all, if it is one of them
  cut : (n i m : ℕ) (ys : List TracedFault) → home_from x n i (take m ys) ≡ below (i + m) (home_from x n i ys)
  cut n i zero [] = refl
  cut n i zero (y ∷ ys) =
      sym (past (i + 0) (home_from x n i (y ∷ ys)) (λ k e. let w = home_within n i (y ∷ ys) k e in omega (arith, w.0)))
  cut n i (suc m) [] = refl
  cut n i (suc m) (y ∷ ys) = by_case (is_home x n y) _ _ (cut (cond (is_beside x y) (n - 1) n) (i + 1) m ys)
    where
      by_case : (b : Bool) (o p : Option ℕ) → o ≡ below (i + 1 + m) p → cond b (Some i) o ≡ below (i + suc m) (cond b (Some i) p)
      by_case true o p h = ap (λ b. cond b (Some i) None) (sym (let t : nat_lt i (i + suc m) ≡ true = grind (arith, nat_tests) in t))
      by_case false o p h = h ∙ ap (λ l. below l p) (let e : i + 1 + m ≡ i + suc m = omega arith in e)

  -- so it is by what is kept
  pub kept_within : (s : Stored) (i : ℕ) → home_kept x s ≡ Some i → i < length s.listed
  kept_within s i e =
      let fs = map (λ (e : Injury). e.first) s.listed in
      let w = home_within (most x.fault.code) s.begins (drop s.begins fs) i e in
      let d = length-drop s.begins fs in
      let m = length-map s.listed (λ (e : Injury). e.first) in omega (arith, w.0, w.1, d, m)

  -- at number i
  pub look : (n i : ℕ) (es : List Injury) (e : Injury) → i < length es → get_or es i e ≡ e
      → home_from x n i (drop i (map (λ (e : Injury). e.first) es))
      ≡ cond (is_home x n e.first) (Some i) (home_from x (cond (is_beside x e.first) (n - 1) n) (i + 1) (drop (i + 1) (map (λ (e : Injury). e.first) es)))
  look n i es e h here = ap (home_from x n i) (at es i h here)
      ∙ ap (λ k. home_from x n i (e.first ∷ drop k (map (λ (e : Injury). e.first) es))) (let q : suc i ≡ i + 1 = omega arith in q)
    where
      at : (es : List Injury) (i : ℕ) → i < length es → get_or es i e ≡ e
          → drop i (map (λ (e : Injury). e.first) es) ≡ e.first ∷ drop (suc i) (map (λ (e : Injury). e.first) es)
      at [] i h here = absurd (let no : ⊥ = omega arith in no)
      at (f ∷ es) zero h here = ap (λ (f : Injury). f.first ∷ map (λ (e : Injury). e.first) es) here
      at (f ∷ es) (suc i) h here = at es i (omega arith) here

-- it is one of the injuries
pub home_inside : (w : Entered) (x : TracedFault) (i : ℕ) → home w x ≡ Some i → i < length w.injuries
home_inside w x i e =
    let fs = map (λ (e : listing.Injury). e.first) w.injuries in
    let h = home_within x (most x.fault.code) w.begins (drop w.begins fs) i e in
    let d = length-drop w.begins fs in
    let m = length-map w.injuries (λ (e : listing.Injury). e.first) in omega (arith, h.0, h.1, d, m)

-- ---- what is kept

-- Of these injuries the first are kept, and the faults of the others are counted.
pub record Keeps (limit : ℕ) (w : Entered) (s : Stored) : Type 0 where
  pub room : s.limit ≡ limit
  pub listed : s.listed ≡ map kept_of (take s.limit w.injuries)
  pub rest : s.rest ≡ counted (sum_by size (drop s.limit w.injuries))
  pub begins : s.begins ≡ min s.limit w.begins
  pub part : s.part ≡ w.part

-- the faults that lead are kept
leads : (es : List listing.Injury) → map (λ (e : Injury). e.first) (map kept_of es) ≡ map (λ (e : listing.Injury). e.first) es
leads [] = refl
leads (e ∷ es) = ap₂ (λ (y : TracedFault) ys. y ∷ ys) (first_kept e.others (lone_injury e.first)) (leads es)

module _ (limit : ℕ) (w : Entered) (s : Stored) (is : Keeps limit w s) where
  kept_size : length s.listed ≡ min s.limit (length w.injuries)
  kept_size = ap length is.listed ∙ length-map (take s.limit w.injuries) kept_of ∙ length-take s.limit w.injuries

  turned_is : (part : ℕ) → Keeps limit (turned part w) (turned_to part s)
  turned_is part = by_case (w.part == part) (s.part == part) (ap (λ p. p == part) is.part)
    where
      by_case : (b c : Bool) → c ≡ b → Keeps limit (cond b w (record w { begins = length w.injuries; part = part }))
          (cond c s (record s { part = part; begins = length s.listed }))
      by_case true true e = is
      by_case true false e = absurd (let no : ⊥ = cc in no)
      by_case false true e = absurd (let no : ⊥ = cc in no)
      by_case false false e = record { listed = is.listed; rest = is.rest; room = is.room; begins = kept_size; part = refl }

  module _ (x : TracedFault) where
    -- where it goes, by what is kept
    home_is : home_kept x s ≡ below s.limit (home w x)
    home_is = by_case (nat_le w.begins s.limit) refl
      where
        n : ℕ
        n = most x.fault.code

        fs : List TracedFault
        fs = map (λ (e : listing.Injury). e.first) w.injuries

        within : (k : ℕ) → home w x ≡ Some k → w.begins ≤ k
        within k e = (home_within x n w.begins (drop w.begins fs) k e).0

        same : map (λ (e : Injury). e.first) s.listed ≡ take s.limit fs
        same = ap (map (λ (e : Injury). e.first)) is.listed ∙ leads (take s.limit w.injuries)
            ∙ sym (take-map (λ (e : listing.Injury). e.first) s.limit w.injuries)

        at : (b : ℕ) → s.begins ≡ b → home_kept x s ≡ home_from x n b (drop b (take s.limit fs))
        at b e = ap₂ (λ i ys. home_from x n i (drop i ys)) e same

        by_case : (b : Bool) → nat_le w.begins s.limit ≡ b → home_kept x s ≡ below s.limit (home w x)
        by_case true e =
            let l : w.begins ≤ s.limit = grind (arith, nat_tests, e) in
            let b = is.begins in
            let m : w.begins + (s.limit - w.begins) ≡ s.limit = omega (arith, l) in
            at w.begins (omega (arith, b, l))
            ∙ ap (home_from x n w.begins) (ap (λ k. drop w.begins (take k fs)) (sym m) ∙ drop-take w.begins (s.limit - w.begins) fs)
            ∙ cut x n w.begins (s.limit - w.begins) (drop w.begins fs)
            ∙ ap (λ k. below k (home w x)) m
        by_case false e =
            let l : s.limit < w.begins = grind (arith, nat_tests, e) in
            let b = is.begins in
            let t = length-take s.limit fs in
            at s.limit (omega (arith, b, l))
            ∙ ap (home_from x n s.limit) (drop_all s.limit (take s.limit fs) (omega (arith, t)))
            ∙ sym (past s.limit (home w x) (λ k h. let i = within k h in omega (arith, i, l)))

    -- it belongs to an injury that is kept
    joined_kept : (i : ℕ) → i < s.limit → Keeps limit (record w { injuries = changed_at (joined x) i w.injuries }) (put_kept i x s)
    joined_kept i l = record {
      listed =
          ap (changed_at (λ e. injury_added e x) i) is.listed
          ∙ sym (map-changed kept_of (joined x) (λ e. injury_added e x) (kept_more x) i (take s.limit w.injuries))
          ∙ ap (map kept_of) (sym (take-changed (joined x) s.limit i w.injuries));
      rest = is.rest ∙ ap (λ es. counted (sum_by size es)) (sym (drop-changed (joined x) s.limit i w.injuries l));
      room = is.room;
      begins = is.begins;
      part = is.part;
    }

    -- it is one, for which there is room
    new_kept : length w.injuries < s.limit → Keeps limit (record w { injuries = w.injuries ++ alone x ∷ [] })
        (record s { listed = s.listed ++ lone_injury x ∷ [] })
    new_kept room =
        let l = length-append w.injuries (alone x ∷ []) in
        let all = take_all s.limit (w.injuries ++ alone x ∷ []) (omega (arith, l, room)) in record {
          listed =
              ap (λ l. l ++ lone_injury x ∷ []) (is.listed ∙ ap (map kept_of) (take_all s.limit w.injuries (omega (arith, room))))
              ∙ sym (map-append kept_of w.injuries (alone x ∷ [])) ∙ ap (map kept_of) (sym all);
          rest = is.rest ∙ ap (λ es. counted (sum_by size es))
              (drop_all s.limit w.injuries (omega (arith, room)) ∙ sym (drop_all s.limit (w.injuries ++ alone x ∷ []) (omega (arith, l, room))));
          room = is.room;
          begins = is.begins;
          part = is.part;
        }

    -- or it is counted
    one_counted : (es : List listing.Injury) → take s.limit es ≡ take s.limit w.injuries → sum_by size es ≡ suc (sum_by size w.injuries)
        → Keeps limit (record w { injuries = es }) (record s { rest = counted (s.rest + 1) })
    one_counted es same more = record {
      listed = is.listed ∙ ap (map kept_of) (sym same);
      rest =
          let a = sum_by-take-drop size es s.limit in
          let b = sum_by-take-drop size w.injuries s.limit in
          let c = ap (sum_by size) same in
          let r = is.rest in omega (arith, a, b, c, r, more);
      room = is.room;
      begins = is.begins;
      part = is.part;
    }

    entered_is : Keeps limit (entered w x) (put_here s x)
    entered_is = subst (λ h. Keeps limit (entered w x) (put_at h x s)) (sym home_is) (by_home (home w x) refl)
      where
        fs : List TracedFault
        fs = map (λ (e : listing.Injury). e.first) w.injuries

        new : List listing.Injury
        new = w.injuries ++ alone x ∷ []

        full : s.limit ≤ length w.injuries → nat_lt (length s.listed) s.limit ≡ false
        full l = grind (arith, nat_tests, kept_size, l)

        as_counted : (es : List listing.Injury) → s.limit ≤ length w.injuries
            → Keeps limit (record w { injuries = es }) (record s { rest = counted (s.rest + 1) })
            → Keeps limit (record w { injuries = es }) (put_new x s)
        as_counted es l k = subst (λ b. Keeps limit (record w { injuries = es })
            (cond b (record s { listed = s.listed ++ lone_injury x ∷ [] }) (record s { rest = counted (s.rest + 1) }))) (sym (full l)) k

        by_room : (b : Bool) → nat_le s.limit (length w.injuries) ≡ b → Keeps limit (record w { injuries = new }) (put_new x s)
        by_room true e =
            let l : s.limit ≤ length w.injuries = grind (arith, nat_tests, e) in
            as_counted new l (one_counted new (take-append-le s.limit w.injuries (alone x ∷ []) l)
            (let a = sum_by-append size w.injuries (alone x ∷ []) in omega (arith, a)))
        by_room false e =
            let l : length w.injuries < s.limit = grind (arith, nat_tests, e) in
            subst (λ b. Keeps limit (record w { injuries = new })
            (cond b (record s { listed = s.listed ++ lone_injury x ∷ [] }) (record s { rest = counted (s.rest + 1) })))
            (sym (let t : nat_lt (length s.listed) s.limit ≡ true = grind (arith, nat_tests, kept_size, l) in t)) (new_kept l)

        by_number : (i : ℕ) → i < length w.injuries → (b : Bool) → nat_lt i s.limit ≡ b
            → Keeps limit (record w { injuries = changed_at (joined x) i w.injuries }) (put_at (cond b (Some i) None) x s)
        by_number i within true e = joined_kept i (grind (arith, nat_tests, e))
        by_number i within false e =
            let l : s.limit ≤ i = grind (arith, nat_tests, e) in
            let t = length-take s.limit w.injuries in
            as_counted _ (omega (arith, l, within)) (one_counted (changed_at (joined x) i w.injuries)
            (take-changed (joined x) s.limit i w.injuries ∙ changed-past (joined x) i (take s.limit w.injuries) (omega (arith, t, l)))
            (sum-changed size (joined x) (size_more x) i w.injuries within))

        by_home : (o : Option ℕ) → home w x ≡ o
            → Keeps limit (record w { injuries = option_map_or (λ i. changed_at (joined x) i w.injuries) o new }) (put_at (below s.limit o) x s)
        by_home None e = by_room (nat_le s.limit (length w.injuries)) refl
        by_home (Some i) e = by_number i (home_inside w x i e) (nat_lt i s.limit) refl

-- some faults more
pub keeps_all : (limit : ℕ) (xs : List TracedFault) (w : Entered) (s : Stored) → Keeps limit w s → Keeps limit (fold with_fault w xs) (fold put s xs)
keeps_all limit [] w s is = is
keeps_all limit (x ∷ xs) w s is =
    keeps_all limit xs (with_fault w x) (put s x)
    (entered_is limit (turned (rank x.part) w) (turned_to (rank x.part) s) (turned_is limit w s is (rank x.part)) x)

none_kept : (limit : ℕ) → Keeps limit (record { injuries = []; begins = 0; part = 0 }) (record { limit = limit; listed = []; rest = 0; part = 0; begins = 0 })
none_kept limit = record {
  room = refl;
  listed = ap (map kept_of) (sym (first limit));
  rest = ap (λ es. counted (sum_by size es)) (sym (left limit));
  begins = omega arith;
  part = refl;
}
  where
    first : (n : ℕ) → take {A = listing.Injury} n [] ≡ []
    first zero = refl
    first (suc n) = refl

    left : (n : ℕ) → drop {A = listing.Injury} n [] ≡ []
    left zero = refl
    left (suc n) = refl

-- all of them, where nothing was kept
pub keeps_injuries : (limit : ℕ) (xs : List TracedFault) (s : Stored) → s ≡ record { limit = limit; listed = []; rest = 0; part = 0; begins = 0 }
    → Keeps limit (fold with_fault (record { injuries = []; begins = 0; part = 0 }) xs) (fold put s xs)
keeps_injuries limit xs s e = keeps_all limit xs _ s (subst (Keeps limit (record { injuries = []; begins = 0; part = 0 })) (sym e) (none_kept limit))
