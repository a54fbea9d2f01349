-- A level of a bench that was written through its slice.
use Rattle.std.proofs.Common.{◌≡◌, ℕ, ◌<◌, ◌++◌, List, length, vec_len, map, take, drop, set, get_or, refl, sym, ap, ◌∙◌, arith, rules, Vec, nat_lt, true}
use Rattle.std.proofs.Common.{[], ◌∷◌, zero, suc}
use Rattle.std.proofs.lemmas.Grind.{common_steps}
use Rattle.std.proofs.lemmas.List.{map-set}
use Rattle.std.proofs.lemmas.List.Elements.{All-set, All-append}
use Rattle.std.proofs.Math.ListN.{length-set}
use Rattle.std.specs.Vec.{with_items}
use Rattle.dbformat.specs.declared.Geometry.{Geometry}
use Rattle.dbsource.specs.Bench.{Pages, pages, with_level, AreWhole}
use Rattle.dbsource.specs.declared.bench.Bench.TheInside.{Inside}
use Rattle.std.specs.Prelude.{All, Some, slice_get}
use Rattle.std.specs.Option.{option_map}
use Rattle.std.proofs.lemmas.Option.{slice_get-map, slice_get_read}
use Rattle.std.proofs.lemmas.Bool.Decides.{nat_tests}

abbrev bench_of : Geometry → List (List ℕ) → List ℕ → List ℕ → Pages
bench_of g levels chain uses = record { geometry = g; levels = levels; chain = chain; uses = uses }

-- a bench stays whole where a level is written through its slice
pub whole_after : {A : Type 0} (b : Inside A) (i : ℕ) (v : Vec ℕ A) (bytes : List ℕ) → AreWhole b → v.len ≡ b.geometry.page_size
    → AreWhole (record { geometry = b.geometry; levels = record { items = set b.levels.items i (with_items v bytes) }; chain = b.chain; uses = b.uses })
whole_after b i v bytes w h = record {
  range = w.range;
  count = length-set b.levels.items i (with_items v bytes) ∙ w.count;
  levels = All-set (λ x. vec_len x ≡ b.geometry.page_size) b.levels.items i (with_items v bytes) h w.levels;
  chain = w.chain;
  uses = w.uses;
}

-- a buffer that was read from the levels holds the bytes of that level, as many as a page has
pub level_is : {A : Type 0} (b : Inside A) (xs : List (Vec ℕ A)) (i : ℕ) (v : Vec ℕ A) → AreWhole b → xs ≡ b.levels.items → i < length xs → v ≡ get_or xs i v
    → (slice_get (pages b).levels i ≡ Some v.items) × (length v.items ≡ b.geometry.page_size)
level_is b xs i v w e h k =
    let at : slice_get b.levels.items i ≡ Some v = rw (← e) (slice_get_read xs (length xs) i v refl h k) in (
      slice_get-map (λ x. x.items) b.levels.items i ∙ ap (option_map (λ x. x.items)) at,
      sym v.ok.0 ∙ ap (λ x. vec_len x) (k ∙ ap (λ l. get_or l i v) e) ∙ w.levels i v (rw (← e) h),
    )

All-one : {X : Type 0} (P : X → Type 0) (x : X) → P x → All P (x ∷ [])
All-one P x k zero d h = k
All-one P x k (suc n) d h = absurd (omega arith)

-- one more item of which P holds
pub whole_more : {A : Type 0} (P : Vec ℕ A → Type 0) (xs : List (Vec ℕ A)) (x : Vec ℕ A) → All P xs → P x → All P (xs ++ x ∷ [])
whole_more P xs x h k = All-append P xs (x ∷ []) h (All-one P x k)

-- the bench, where a level was written through its slice
pub level_set : {A : Type 0} (g : Geometry) (levels : List (Vec ℕ A)) (chain uses : List ℕ) (i : ℕ) (v : Vec ℕ A) (bytes : List ℕ)
    → i < 20 → length bytes ≡ length v.items
    → bench_of g (map (λ x. x.items) (set levels i (with_items v bytes))) chain uses
    ≡ with_level (bench_of g (map (λ x. x.items) levels) chain uses) i bytes
level_set g levels chain uses i v bytes below h =
    let small : nat_lt i 20 ≡ true = search (rules, nat_tests) in
    let k : v.len ≡ length v.items = v.ok.0 in
    let b : take v.len (bytes ++ drop (length bytes) v.items) ≡ bytes = grind (arith, common_steps) in
    rw (small, map-set, b) refl
