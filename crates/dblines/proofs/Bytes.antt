-- Bytes in hexadecimal and as ASCII, one by one.
use Rattle.std.proofs.Common.{◌≡◌, ℕ, ◌+◌, ◌<◌, List, [], ◌∷◌, ◌++◌, length, take, map, get_or, sym, ap, ◌∙◌, append_assoc, append-nil}
use Rattle.std.specs.List.{flat_map}
use Rattle.std.proofs.lemmas.Grind.{flat_map-append}
use Rattle.std.proofs.lemmas.List.{map-append, take_more}

-- one element more of what each element gives
pub flat_map_more : (f : ℕ → List ℕ) (xs line now : List ℕ) (i : ℕ) → i < length xs → now ≡ (line ++ flat_map f (take i xs)) ++ f (get_or xs i 0)
    → now ≡ line ++ flat_map f (take (i + 1) xs)
flat_map_more f xs line now i h e =
    e ∙ append_assoc line (flat_map f (take i xs)) (f (get_or xs i 0))
    ∙ ap (λ w. line ++ (flat_map f (take i xs) ++ w)) (sym (append-nil (f (get_or xs i 0))))
    ∙ ap (λ w. line ++ w) (sym (flat_map-append f (take i xs) (get_or xs i 0 ∷ [])))
    ∙ ap (λ ys. line ++ flat_map f ys) (sym (take_more xs i 0 h))

-- and one element more of a map
pub map_more : (f : ℕ → ℕ) (xs line now : List ℕ) (i : ℕ) → i < length xs → now ≡ (line ++ map f (take i xs)) ++ f (get_or xs i 0) ∷ []
    → now ≡ line ++ map f (take (i + 1) xs)
map_more f xs line now i h e =
    e ∙ append_assoc line (map f (take i xs)) (f (get_or xs i 0) ∷ [])
    ∙ ap (λ w. line ++ w) (sym (map-append f (take i xs) (get_or xs i 0 ∷ [])))
    ∙ ap (λ ys. line ++ map f ys) (sym (take_more xs i 0 h))
