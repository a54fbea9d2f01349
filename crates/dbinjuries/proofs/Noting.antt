-- What is kept of an injury, with one fault more.
use Rattle.std.proofs.Common.{◌≡◌, suc, List, [], ◌∷◌, refl, arith}
use Rattle.std.specs.Prelude.{fold}
use Rattle.std.proofs.lemmas.List.{length-append}
use Rattle.std.proofs.lemmas.List.Sums.{fold-append}
use Rattle.dbinjuries.specs.Kept.{injury_added, lone_injury, kept_of}
use Rattle.dbinjuries.specs.Listing.{Injury, joined, size}
use Rattle.dbtrace.specs.declared.TracedFault.{TracedFault}

pub kept_more : (x : TracedFault) (e : Injury) → kept_of (joined x e) ≡ injury_added (kept_of e) x
kept_more x e = fold-append injury_added (lone_injury e.first) e.others (x ∷ [])

pub first_kept : (ys : List TracedFault) (k : _) → (fold injury_added k ys).first ≡ k.first
first_kept [] k = refl
first_kept (y ∷ ys) k = first_kept ys (injury_added k y)

pub size_more : (x : TracedFault) (e : Injury) → size (joined x e) ≡ suc (size e)
size_more x e = let l = length-append e.others (x ∷ []) in omega (arith, l)
