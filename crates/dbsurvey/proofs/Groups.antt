-- Numbers that are grouped by a key: those of all groups are all, each once.
use Rattle.std.proofs.Common.{◌≡◌, ℕ, List, [], ◌∷◌, map, refl, sym, ap, ◌∙◌}
use Rattle.std.specs.Prelude.{filter, flat_map, ◌==◌}
use Rattle.std.proofs.lemmas.Bool.{eqb-true, eq-eqb}
use Rattle.dbsurvey.specs.Address.{IsIn, EachPair}
use Rattle.dbsurvey.proofs.Order.{EachPair-append}
use Rattle.dbsurvey.proofs.Ordering.{IsIn-map, IsIn-from_map, IsIn-flat_map, IsIn-from_flat_map}
use Rattle.dbsurvey.proofs.Lists.{filter-from, filter-has}
use Rattle.dbsurvey.proofs.Elements.{IsOnce, EachPair-filter, map_once, one_by}

module _ {X : Type 0} (key page : X → ℕ) (xs : List X) where
  abbrev pub group : ℕ → List ℕ
  group k = map page (filter (λ x. key x == k) xs)

  pub group-from : (k p : ℕ) → IsIn p (group k) → (x : X) × IsIn x xs × (key x ≡ k) × (page x ≡ p)
  group-from k p i =
      let m = IsIn-from_map page (filter (λ x. key x == k) xs) p i in
      let h = filter-from (λ x. key x == k) xs m.0 m.1 in
      (m.0, h.0, eqb-true (key m.0) k h.1, sym m.2)

  pub groups-have : (ks : List ℕ) (x : X) → IsIn x xs → IsIn (key x) ks → IsIn (page x) (flat_map group ks)
  groups-have ks x i j = IsIn-flat_map group ks (key x) (page x) j
      (IsIn-map page (filter (λ y. key y == key x) xs) x (filter-has (λ y. key y == key x) xs x i (eq-eqb (key x) (key x) refl)))

  pub groups_once : EachPair (λ x y. page x ≡ page y → ⊥) xs → (ks : List ℕ) → IsOnce ks → IsOnce (flat_map group ks)
  groups_once apart [] h = tt
  groups_once apart (k ∷ ks) h = EachPair-append (λ x y. x ≡ y → ⊥) (group k) (flat_map group ks)
      (map_once page (filter (λ x. key x == k) xs) (EachPair-filter (λ x y. page x ≡ page y → ⊥) (λ x. key x == k) xs apart))
      (groups_once apart ks h.1)
      (λ p q i j e.
      let a = group-from k p i in
      let m = IsIn-from_flat_map group ks q j in
      let b = group-from m.0 q m.2 in
      let s = one_by page xs apart a.0 b.0 a.1 b.1 (a.3 ∙ e ∙ sym b.3) in
      h.0 m.0 m.1 (sym a.2 ∙ ap key s ∙ b.2))
