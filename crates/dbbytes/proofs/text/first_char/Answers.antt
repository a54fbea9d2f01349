use Rattle.std.proofs.Common.{◌≡◌, ◌<◌, ◌≤◌, ◌⊎◌, inl, inr, arith}
use Rattle.std.specs.Char.Utf16.{surrogate_pair_char}
use Rattle.dbbytes.proofs.UnitLemmas.{begins_plain, begins_low, begins_last, begins_alone, begins_pair}
use Rattle.dbbytes.proofs.text.first_char.Goals as goal

pub returns-in-Some : goal.returns-in-Some
returns-in-Some c =
    let plain : (c.in-Some.char < 0xD800) ⊎ (0xE000 ≤ c.in-Some.char)
    = elim c.in-Some.ensures.cases [ inl h ↦ inl (omega (arith, c.in-Some.ensures.value.1)) | inr h ↦ inr (omega (arith, c.in-Some.ensures.value.1)) ] in
    begins_plain c.args.order c.args.bytes.now c.in-Some.char c.requires (omega (arith, c.in-Some.ensures.value.1)) plain

pub returns-then-first-ge56320 : goal.returns-then-first-ge56320
returns-then-first-ge56320 c =
    let u = c.unit-first.result in
    let range : (0xD800 ≤ u) × (u < 0xE000) = elim c.in_default.ensures.cases [ inl h ↦ (omega arith, omega arith) | inr h ↦ absurd (omega arith) ] in
    elim c.then-first-ge56320.either [
      | inl low ↦ begins_low c.args.order c.args.bytes.now u c.requires c.unit-first.ensures low range.1
      | inr short ↦ begins_last c.args.order c.args.bytes.now u c.requires c.unit-first.ensures range.0 range.1 (omega arith)
    ]

pub returns-then-second-lt56320 : goal.returns-then-second-lt56320
returns-then-second-lt56320 c =
    let u = c.unit-first.result in
    let v = c.unit-second.result in
    let range : (0xD800 ≤ u) × (u < 0xE000) = elim c.in_default.ensures.cases [ inl h ↦ (omega arith, omega arith) | inr h ↦ absurd (omega arith) ] in
    let other : (v < 0xDC00) ⊎ (0xE000 ≤ v) = elim c.then-second-lt56320.either [ inl h ↦ inl h | inr h ↦ inr (omega arith) ] in
    begins_alone c.args.order c.args.bytes.now u v (omega arith) c.unit-first.ensures c.unit-second.ensures range.0 range.1 other

pub returns : goal.returns
returns c =
    let u = c.unit-first.result in
    let v = c.unit-second.result in
    let range : (0xD800 ≤ u) × (u < 0xE000) = elim c.in_default.ensures.cases [ inl h ↦ (omega arith, omega arith) | inr h ↦ absurd (omega arith) ] in
    let char = rw c.unwrap.ensures at c.from_u32-2.ensures.value in
    let wide : c.unwrap.result ≡ surrogate_pair_char c.from-2.result c.from-3.result = omega (arith, char.1) in
    let same : c.unwrap.result ≡ surrogate_pair_char u v = rw (c.from-2.ensures, c.from-3.ensures) at wide in
    begins_pair c.args.order c.args.bytes.now u v c.unwrap.result (omega arith) c.unit-first.ensures c.unit-second.ensures
    range.0 (omega arith) (omega arith) (omega arith) same
