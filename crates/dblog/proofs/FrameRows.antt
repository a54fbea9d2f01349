-- Frames that stand one after another.
use Rattle.std.proofs.Common.{◌≡◌, ℕ, suc, zero, ◌<◌, ◌≤◌, ◌+◌, ◌-◌, ◌*◌, List, []}
use Rattle.std.proofs.Common.{◌∷◌, ◌++◌, length, take, drop, refl, sym, ap, subst, ◌∙◌, arith, append_assoc, append-nil}
use Rattle.std.specs.List.{All, concat}
use Rattle.std.proofs.lemmas.List.{length-take-le, length-drop, length_push, nil_from_length, take-append-drop}
use Rattle.std.proofs.lemmas.List.Folds.{concat-append}
use Rattle.std.proofs.lemmas.List.Elements.{All-cons, All-nil, All-push}
use Rattle.dblog.specs.Reading.{AreFrames}
use Rattle.dblog.specs.Scanning.{HasRoom, LooksAt, Scanned, Scans}
use Rattle.dblog.proofs.Scans.{looks_more}

pub concat_push : (fs : List (List ℕ)) (f : List ℕ) → concat (fs ++ f ∷ []) ≡ concat fs ++ f
concat_push fs f = concat-append fs (f ∷ []) ∙ ap (λ x. concat fs ++ x) (append-nil f)

-- The frames that were looked at before place i of some, and the bytes that are left of them.
pub record SoFar (h : List ℕ) (size count i : ℕ) (bytes rest : List ℕ) (s t : Scanned) : Type 0 where
  pub fs : List (List ℕ)
  pub is : concat fs ++ rest ≡ bytes
  pub sized : All (λ f. length f ≡ size) fs
  pub long : length fs ≡ i
  pub left : length rest ≡ (count - i) * size
  pub looks : LooksAt h fs s t

-- there is a frame left
pub frame_left : (size count i : ℕ) (rest : List ℕ) → i < count → length rest ≡ (count - i) * size → size ≤ length rest
frame_left size count i rest l e = let m : 1 * size ≤ (count - i) * size = grind arith in omega (arith, m, e)

one_less : (size count i : ℕ) → i < count → (count - i) * size - size ≡ (count - (i + 1)) * size
one_less size count i l = let e : count - i ≡ (count - (i + 1)) + 1 = omega arith in rw e (omega arith)

pub room_left : {h : List ℕ} {size count i : ℕ} {bytes rest : List ℕ} {s t : Scanned} → SoFar h size count i bytes rest s t → i < count → HasRoom count s
    → HasRoom 1 t
room_left {count = count} {i = i} {s = s} f l r =
    let all : HasRoom (count - i + length f.fs) s = subst (λ n. HasRoom n s) (omega (arith, f.long)) r in
    let some = f.looks.room (count - i) all in
    record { frames = omega (arith, some.frames); transactions = omega (arith, some.transactions); later = omega (arith, some.later) }

pub none_so_far : (h : List ℕ) (size count : ℕ) (bytes : List ℕ) (s : Scanned) → length bytes ≡ count * size → SoFar h size count 0 bytes bytes s s
none_so_far h size count bytes s l = record {
  fs = [];
  is = refl;
  sized = All-nil (λ f. length f ≡ size);
  long = refl;
  left = l ∙ ap (λ n. n * size) (let e : count ≡ count - 0 = omega arith in e);
  looks = record {
    scans = λ done k. subst (Scans h s) (sym (append-nil done)) k;
    room = λ n r. subst (λ m. HasRoom m s) (omega arith) r;
  };
}

pub one_frame_more : {h : List ℕ} {size count i : ℕ} {bytes rest : List ℕ} {s t : Scanned} (u : Scanned) (frame next : List ℕ)
    → SoFar h size count i bytes rest s t → i < count → frame ≡ take size rest → next ≡ drop size rest → LooksAt h (frame ∷ []) t u
    → SoFar h size count (i + 1) bytes next s u
one_frame_more {h = h} {size = size} {count = count} {i = i} {bytes = bytes} {rest = rest} {s = s} {t = t} u frame next f l e d k =
    let long : size ≤ length rest = frame_left size count i rest l f.left in
    record {
      fs = f.fs ++ frame ∷ [];
      is = ap (λ x. x ++ next) (concat_push f.fs frame) ∙ append_assoc (concat f.fs) frame next
          ∙ ap (λ x. concat f.fs ++ x) (ap (λ x. x ++ next) e ∙ ap (λ x. take size rest ++ x) d ∙ take-append-drop size rest) ∙ f.is;
      sized = All-push (λ g. length g ≡ size) f.fs frame f.sized (ap length e ∙ length-take-le size rest long);
      long = omega (arith, f.long, length_push f.fs frame);
      left = ap length d ∙ length-drop size rest ∙ ap (λ n. n - size) f.left ∙ one_less size count i l;
      looks = looks_more h f.fs frame s t u f.looks k;
    }

-- bytes of as many frames are frames
pub cut : (size count : ℕ) (bytes : List ℕ) → length bytes ≡ count * size → (fs : List (List ℕ)) × AreFrames size bytes fs × (length fs ≡ count)
cut size zero bytes l =
    let none : length bytes ≡ 0 = l ∙ omega arith in
    ([], record { whole = sym (nil_from_length bytes none); sized = All-nil (λ f. length f ≡ size) }, refl)
cut size (suc n) bytes l =
    let rest : length (drop size bytes) ≡ n * size = length-drop size bytes ∙ ap (λ m. m - size) l ∙ less n in
    let (fs, are, long) = cut size n (drop size bytes) rest in
    let first : length (take size bytes) ≡ size = length-take-le size bytes (rw l (most n)) in (
      take size bytes ∷ fs,
      record {
        whole = ap (λ x. take size bytes ++ x) are.whole
            ∙ take-append-drop size bytes;
        sized = All-cons (λ f. length f ≡ size) (take size bytes) fs first are.sized;
      },
      ap suc long,
    )
  where
    less : (n : ℕ) → suc n * size - size ≡ n * size
    less n = let e : suc n ≡ n + 1 = omega arith in rw e (omega arith)

    most : (n : ℕ) → size ≤ suc n * size
    most n = let e : suc n ≡ n + 1 = omega arith in rw e (omega arith)
