-- Places: addresses by their last and by their first step, and the key of a cell.
use Rattle.std.proofs.Common.{◌≡◌, ℕ, [], ◌∷◌, ◌++◌, refl, not, Option, Some, None, inl, inr, ap}
use Rattle.std.specs.Prelude.{ℤ}
use Rattle.dbsurvey.specs.Address.{Address, IsIn}
use Rattle.dbformat.specs.Address.{start_of, then_step, key_step}
use Rattle.dbformat.specs.Head.{View, is_interior}
use Rattle.dbformat.specs.Reference.{Reference}
use Rattle.dbformat.specs.KeyFaults.{Key, key_of}
use Rattle.dbformat.specs.Cell.{Cell}

pub not_nil : (a : Address) (s : ℕ) → [] ≡ a ++ s ∷ [] → ⊥
not_nil [] s e = cc
not_nil (x ∷ a) s e = cc

pub same_front : (a b : Address) (s t : ℕ) → a ++ s ∷ [] ≡ b ++ t ∷ [] → (a ≡ b) × (s ≡ t)
same_front [] [] s t e = (refl, cc)
same_front [] (y ∷ b) s t e = let f : [] ≡ b ++ t ∷ [] = cc in absurd (not_nil b t f)
same_front (x ∷ a) [] s t e = let f : [] ≡ a ++ s ∷ [] = cc in absurd (not_nil a s f)
same_front (x ∷ a) (y ∷ b) s t e =
    let f : x ≡ y = cc in
    let g : a ++ s ∷ [] ≡ b ++ t ∷ [] = cc in
    let h = same_front a b s t g in
    let k = h.0 in
    (cc, h.1)

pub same_start : (a : Address) → (a ≡ [] → ⊥) → (b c : Address) → start_of (a ++ b) ≡ start_of (a ++ c)
same_start [] h b c = absurd (h refl)
same_start (x ∷ a) h b c = refl

-- the key of cell n of a page
abbrev pub cell_key : Reference → View → ℕ → ℤ → Key
cell_key r v n value = record { place = then_step r.address (key_step n); page = r.page; item = n; value = value; is_rowid = not (is_interior v.kind) }

pub key_place : (r : Reference) (v : View) (x : ℕ × Cell) (k : Key) → IsIn k (key_of r v x) → k.place ≡ then_step r.address (key_step x.0)
key_place r v (i, c) k h = by_key c.key h
  where
    by_key : (o : Option ℤ) → IsIn k (key_of r v (i, record c { key = o })) → k.place ≡ then_step r.address (key_step i)
    by_key None h = absurd h
    by_key (Some n) (inl e) = ap (λ k. k.place) e
    by_key (Some n) (inr h) = absurd h
