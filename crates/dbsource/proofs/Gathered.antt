-- Bytes that are gathered in front of a writer.
use Rattle.std.specs.Prelude.{◌≡◌, List, ℕ, [], ◌++◌, Option, None, Some, Result, Ok, Err}
use Rattle.std.proofs.Common.{refl, sym, ap, ◌∙◌, ◌<◌, append-nil, arith, take, drop}
use Rattle.std.proofs.lemmas.Bool.Decides.{nat_tests}
use Rattle.std.proofs.lemmas.List.{take-append-drop}
use Rattle.std.specs.Io.KnownBytes.{Appends, Keeps, append_known}
use Rattle.dbsource.proofs.Beginnings.{all_begun, begins_after, begins_more}
use Rattle.dbsource.proofs.Puts.{appends_append}
use Rattle.dbsource.specs.Gathers.{gathered_most, kept_line}
use Rattle.dbsource.specs.Outs.{Begins, Writes}

-- a beginning is one of more bytes, too
pub begins_longer : (o n : Option (List ℕ)) (a b : List ℕ) → Begins o n a → Begins o n (a ++ b)
begins_longer o n a b h = begins_more o n a b (a ++ b) refl h

-- a beginning of the first bytes is one of all
pub begins_taken : {A E : Type 0} (r : Result A E) (o n : Option (List ℕ)) (count : ℕ) (bytes : List ℕ)
    → Writes r o n (take count bytes) → Begins o n bytes
begins_taken (Ok x) o n count bytes h = record { part = take count bytes; rest = drop count bytes; whole = take-append-drop count bytes; added = h }
begins_taken (Err e) o n count bytes h = begins_more o n (take count bytes) (drop count bytes) bytes (take-append-drop count bytes) h

-- no line stays where a piece is longer than the buffer
pub nothing_kept : (gathered : List ℕ) (count : ℕ) → gathered_most < count → kept_line gathered count ≡ []
nothing_kept gathered count long = grind (arith, nat_tests)

-- where nothing stays gathered all was written
pub appends_handed : (o n : Option (List ℕ)) (gathered rest : List ℕ)
    → Keeps (append_known o gathered) (append_known n rest) → rest ≡ [] → Appends o n gathered
appends_handed None n gathered rest h e = tt
appends_handed (Some x) None gathered rest h e = absurd h
appends_handed (Some x) (Some y) gathered rest h e = sym (append-nil y) ∙ ap (λ l. y ++ l) (sym e) ∙ h

-- the first bytes were written, and then what a write makes of the others
pub begins_written : {A E : Type 0} (r : Result A E) (o m n : Option (List ℕ)) (a b : List ℕ)
    → Appends o m a → Writes r m n b → Begins o n (a ++ b)
begins_written (Ok x) o m n a b h k = all_begun o n (a ++ b) (appends_append o m n a b h k)
begins_written (Err e) o m n a b h k = begins_after o m n a b (a ++ b) refl h k
