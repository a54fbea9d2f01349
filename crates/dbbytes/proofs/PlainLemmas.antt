-- A text of plain characters is shown as it is.
use Rattle.std.proofs.Common.{◌≡◌, ℕ, zero, suc, ◌<◌, false, cond, List, [], ◌∷◌, ◌++◌, length, refl, ap, ap₂, ◌∙◌, arith}
use Rattle.std.specs.Prelude.{encode_utf8, slice_index}
use Rattle.std.specs.List.{flat_map}
use Rattle.std.specs.Str.{chars, IsAscii}
use Rattle.std.proofs.lemmas.Bool.Decides.{nat_tests}
use Rattle.std.proofs.lemmas.Str.{chars-IsAscii, encode_ascii}
use Rattle.dbformat.specs.PlainNames.{byte_code, is_coded, plain_char}
use Rattle.dbbytes.specs.Escapes.{IsPlainByte}

abbrev pub ArePlain : List ℕ → Type 0
ArePlain bs = (k : ℕ) → k < length bs → IsPlainByte (slice_index bs k)

ascii : (bs : List ℕ) → ArePlain bs → IsAscii bs
ascii [] h i = omega arith
ascii (b ∷ bs) h zero = let p = h 0 (omega arith) in omega (arith, p.1)
ascii (b ∷ bs) h (suc i) = ascii bs (λ k l. h (suc k) (omega (arith, l))) i

one : (b : ℕ) → IsPlainByte b → plain_char b ≡ b ∷ []
one b p =
    let low = p.0 in
    let high = p.1 in
    let other = p.2 in
    let off : is_coded b ≡ false = grind (arith, nat_tests) in
    ap (λ c. cond c (flat_map byte_code (encode_utf8 b)) (encode_utf8 b)) off ∙ encode_ascii b (omega (arith, high))

each : (bs : List ℕ) → ArePlain bs → flat_map plain_char bs ≡ bs
each [] h = refl
each (b ∷ bs) h = ap₂ (λ a c. a ++ c) (one b (h 0 (omega arith))) (each bs (λ k l. h (suc k) (omega (arith, l))))

pub plain_text : (bs : List ℕ) → ArePlain bs → flat_map plain_char (chars bs) ≡ bs
plain_text bs h = ap (flat_map plain_char) (chars-IsAscii bs (ascii bs h)) ∙ each bs h
