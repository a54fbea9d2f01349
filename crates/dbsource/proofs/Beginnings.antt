-- Beginnings of what an Out is put.
use Rattle.std.proofs.Common.{◌≡◌, ℕ, List, [], ◌++◌, Option, refl, sym, ap, ◌∙◌, append_assoc, append-nil}
use Rattle.std.specs.Io.KnownBytes.{Appends}
use Rattle.dbsource.specs.Outs.{Begins}
use Rattle.dbsource.proofs.Puts.{appends_append, appends_nothing}

pub begins_nothing : (o : Option (List ℕ)) (a : List ℕ) → Begins o o a
begins_nothing o a = record { part = []; rest = a; whole = refl; added = appends_nothing o }

pub begins_more : (o t : Option (List ℕ)) (a b c : List ℕ) → a ++ b ≡ c → Begins o t a → Begins o t c
begins_more o t a b c e h = record {
  part = h.part;
  rest = h.rest ++ b;
  whole = sym (append_assoc h.part h.rest b) ∙ ap (λ x. x ++ b) h.whole ∙ e;
  added = h.added;
}

pub begins_after : (o m t : Option (List ℕ)) (a b c : List ℕ) → a ++ b ≡ c → Appends o m a → Begins m t b → Begins o t c
begins_after o m t a b c e h k = record {
  part = a ++ k.part;
  rest = k.rest;
  whole = append_assoc a k.part k.rest ∙ ap (λ x. a ++ x) k.whole ∙ e;
  added = appends_append o m t a k.part h k.added;
}

-- all of it is a beginning
pub all_begun : (o t : Option (List ℕ)) (a : List ℕ) → Appends o t a → Begins o t a
all_begun o t a h = record { part = a; rest = []; whole = append-nil a; added = h }
