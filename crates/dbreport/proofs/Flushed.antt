-- What is known of an Out that was flushed, beside the bytes that were put to others.
use Rattle.dbreport.proofs.Common.{List, [], ℕ, Bool, true, false, Option, refl, sym, subst, Begins, OutState, IsFlushedIf, Appends, appends_nothing}
use Rattle.dbreport.proofs.Common.{appends_kept, keeps_same}
use Rattle.std.specs.Io.KnownBytes.{Keeps}

nothing_put : (o n : Option (List ℕ)) → Keeps o n → Appends o n []
nothing_put o n k = appends_kept o o n [] (appends_nothing o) k

-- what stays is a beginning, to which nothing is added
pub keeps_begins : (o n : Option (List ℕ)) (a : List ℕ) → Keeps o n → Begins o n a
keeps_begins o n a k = record { part = []; rest = a; whole = refl; added = nothing_put o n k }

-- flushed or not, the bytes that it has stay
pub kept_if : (b : Bool) (old new : OutState) → IsFlushedIf b old new → Keeps old.bytes new.bytes
kept_if true old new f = f.kept
kept_if false old new e = subst (λ o. Keeps old.bytes o.bytes) (sym e) (keeps_same old.bytes)
