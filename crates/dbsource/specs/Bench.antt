-- What a bench holds.
use Rattle.std.specs.Prelude.{◌≡◌, ℕ, List, length, map, vec_len, All, slice_set, slice_index_or, [], nat_lt, if◌then◌else◌}
use Rattle.dbformat.specs.FixedPages.{IsInRange}
use Rattle.dbformat.specs.declared.Geometry.{Geometry}
use Rattle.dbsource.specs.declared.bench.Bench.TheInside.{Inside}

-- the shape of the file, and the bytes of each level, of the chain buffer and of the byte-use table
pub record Pages : Type 0 where
  pub geometry : Geometry
  pub levels : List (List ℕ)
  pub chain : List ℕ
  pub uses : List ℕ

-- what the fields hold
abbrev pub pages : {A : Type 0} → Inside A → Pages
pages b = record { geometry = b.geometry; levels = map (λ v. v.items) b.levels.items; chain = b.chain.items; uses = b.uses.items }

-- 22 buffers of a page's size
pub record AreWhole {A : Type 0} (b : Inside A) : Type 0 where
  pub range : IsInRange b.geometry
  pub count : length b.levels.items ≡ 20
  pub levels : All (λ v. vec_len v ≡ b.geometry.page_size) b.levels.items
  pub chain : vec_len b.chain ≡ b.geometry.page_size
  pub uses : vec_len b.uses ≡ b.geometry.page_size

-- the bytes at a level, where 20 is the chain buffer
abbrev pub bytes_at : Pages → ℕ → List ℕ
bytes_at b level = if nat_lt level 20 then slice_index_or b.levels level [] else b.chain

-- the bench with these bytes at a level
abbrev pub with_level : Pages → ℕ → List ℕ → Pages
with_level b level bytes =
    if nat_lt level 20 then (record b { levels = slice_set b.levels level bytes }) else (record b { chain = bytes })

-- only this level changed, to bytes of which P holds
pub record Changes (old : Pages) (level : ℕ) (P : List ℕ → Type 0) (new : Pages) : Type 0 where
  pub bytes : List ℕ
  pub size : length bytes ≡ old.geometry.page_size
  pub only : new ≡ with_level old level bytes
  pub holds : P bytes
