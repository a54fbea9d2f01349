-- How a name is put, piece by piece.
use Rattle.std.proofs.Common.{◌≡◌, ℕ, ◌+◌, ◌<◌, true, List, [], ◌∷◌, ◌++◌, length, take, drop, get_or, Result, Ok, Err, refl, sym, ap, ◌∙◌, arith, append_assoc}
use Rattle.std.proofs.Common.{append-nil, add-one, drop-cons}
use Rattle.std.specs.Prelude.{IsTrue}
use Rattle.std.specs.Char.Utf16.{utf16_lossy_chars}
use Rattle.std.specs.List.{flat_map}
use Rattle.std.proofs.lemmas.Grind.{flat_map-append}
use Rattle.std.proofs.lemmas.List.{take-append-drop, drop-drop, length-drop, at_drop_more}
use Rattle.dbformat.specs.Text.{escape_byte, hex_text}
use Rattle.dbsource.specs.Outs.{OutState, Puts}
use Rattle.dbsource.specs.declared.out.WriteFailed.{WriteFailed}
use Rattle.dbsource.proofs.Puts.{puts_then, puts_stop}
use Rattle.dbbytes.specs.Escapes.{is_escaped}
use Rattle.dbbytes.specs.Units.{text_of, units}
use Rattle.dbbytes.specs.declared.text.Order.{Order}

-- an escaped byte is written by its code
pub escaped_byte : (c : ℕ) → is_escaped c ≡ true → escape_byte c ≡ 92 ∷ 120 ∷ hex_text 2 c
escaped_byte c h = rw h refl

first_at : (xs : List ℕ) (at : ℕ) → at < length xs → get_or (drop at xs) 0 0 ≡ get_or xs at 0
first_at xs at h = rw (drop-cons xs at 0 h) refl

-- a byte that is escaped, where no unescaped byte comes before it
pub first_escaped : (xs : List ℕ) (at plain : ℕ) → at < length xs → plain ≡ 0
    → (plain < length (drop at xs) → IsTrue (is_escaped (get_or (drop at xs) plain 0))) → is_escaped (get_or xs at 0) ≡ true
first_escaped xs at plain h none e =
    let here : IsTrue (is_escaped (get_or xs at 0)) = rw (none, first_at xs at h) at (e (omega (arith, length-drop at xs))) in
    here

-- what is left of a text, by what is put of it next
pub rest_escaped : (xs : List ℕ) (at : ℕ) → at < length xs → is_escaped (get_or xs at 0) ≡ true
    → flat_map escape_byte (drop at xs) ≡ (92 ∷ 120 ∷ hex_text 2 (get_or xs at 0)) ++ flat_map escape_byte (drop (at + 1) xs)
rest_escaped xs at h e =
    let cut : drop at xs ≡ get_or xs at 0 ∷ drop (at + 1) xs = rw add-one (drop-cons xs at 0 h) in
    rw cut (ap (λ w. w ++ flat_map escape_byte (drop (at + 1) xs)) (escaped_byte (get_or xs at 0) e))

pub rest_plain : (xs : List ℕ) (at plain : ℕ) → flat_map escape_byte (take plain (drop at xs)) ≡ take plain (drop at xs)
    → flat_map escape_byte (drop at xs) ≡ take plain (drop at xs) ++ flat_map escape_byte (drop (at + plain) xs)
rest_plain xs at plain e =
    let cut : take plain (drop at xs) ++ drop plain (drop at xs) ≡ drop at xs = take-append-drop plain (drop at xs) in
    ap (flat_map escape_byte) (sym cut) ∙ flat_map-append escape_byte (take plain (drop at xs)) (drop plain (drop at xs))
    ∙ rw (e, drop-drop plain at xs) refl

-- A part of a text has been put, and this rest of it is left.
pub record HasPut (old now : OutState) (rest whole : List ℕ) : Type 0 where
  pub done : List ℕ
  pub split : done ++ rest ≡ whole
  pub put : Puts {E = WriteFailed} (Ok (tt {0})) old now done

pub put_more : {o m n : OutState} {rest whole : List ℕ} {s : Result (Unit {0}) WriteFailed} (a more : List ℕ)
    → HasPut o m rest whole → s ≡ Ok (tt {0}) → Puts s m n a → rest ≡ a ++ more → HasPut o n more whole
put_more {s = s} a more h p put e = record {
  done = h.done ++ a;
  split = append_assoc h.done a more ∙ rw e at h.split;
  put = rw p at (puts_then s h.done a refl h.put put);
}

pub put_stop : {o m n : OutState} {rest whole : List ℕ} {s r : Result (Unit {0}) WriteFailed} {x y : WriteFailed} (a more : List ℕ)
    → HasPut o m rest whole → s ≡ Err x → r ≡ Err y → Puts s m n a → rest ≡ a ++ more → Puts r o n whole
put_stop {whole = whole} {s = s} a more h p q put e =
    let all : (h.done ++ a) ++ more ≡ whole = append_assoc h.done a more ∙ rw e at h.split in
    rw all at (puts_stop (h.done ++ a) more p q (puts_then s h.done a refl h.put put))

pub put_all : {o m : OutState} {rest whole : List ℕ} → HasPut o m rest whole → rest ≡ [] → Puts {E = WriteFailed} (Ok (tt {0})) o m whole
put_all h e =
    let all = sym (append-nil h.done) ∙ rw e at h.split in
    rw all at h.put

-- what is left of a list, by what is put of its next item
pub rest_items : (f : ℕ → List ℕ) (xs : List ℕ) (at x d : ℕ) → (at < length xs) × (x ≡ get_or xs at d)
    → flat_map f (drop at xs) ≡ f x ++ flat_map f (drop (at + 1) xs)
rest_items f xs at x d h = at_drop_more (flat_map f) xs at d h.0 ∙ ap (λ w. f w ++ flat_map f (drop (at + 1) xs)) (sym h.1)

-- what is left of a text in UTF-16, by what is put of it next
pub rest_text : (order : Order) (name text : List ℕ) (at taken : ℕ) → text_of order (drop at name) ≡ text ++ text_of order (drop taken (drop at name))
    → flat_map escape_byte (text_of order (drop at name)) ≡ flat_map escape_byte text ++ flat_map escape_byte (text_of order (drop (at + taken) name))
rest_text order name text at taken e =
    let same : text_of order (drop at name) ≡ text ++ text_of order (drop (at + taken) name) = rw drop-drop at e in
    ap (flat_map escape_byte) same ∙ flat_map-append escape_byte text (text_of order (drop (at + taken) name))

-- and by its next character
pub rest_chars : (f : ℕ → List ℕ) (order : Order) (name : List ℕ) (char at len : ℕ)
    → utf16_lossy_chars (units order (drop at name)) ≡ char ∷ utf16_lossy_chars (units order (drop len (drop at name)))
    → flat_map f (utf16_lossy_chars (units order (drop at name))) ≡ f char ++ flat_map f (utf16_lossy_chars (units order (drop (at + len) name)))
rest_chars f order name char at len e = ap (flat_map f) (rw drop-drop at e)
