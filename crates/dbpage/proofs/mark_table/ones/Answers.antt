use Rattle.std.proofs.Common.{◌≡◌, ℕ, zero, suc, ◌+◌, ◌-◌, ◌*◌, ◌%◌, ◌^◌, ◌<◌, ◌≤◌, ap, sym, ◌∙◌, arith}
use Rattle.std.proofs.lemmas.Nat.{one_shl, pow-add}
use Rattle.std.proofs.Math.Nat.{suc-mul}
use Rattle.std.proofs.Math.Pow.{pow_mono}
use Rattle.dbpage.proofs.mark_table.ones.Goals as goal

up_to_the_last : (low : ℕ) → 1 ≤ low → low < 18446744073709551616 → (18446744073709551615 * low) % 18446744073709551616 ≡ 18446744073709551616 - low
up_to_the_last low one fits = omega arith

one_less : (run low : ℕ) → 1 ≤ run → low + (run - 1) * low ≡ run * low
one_less zero low some = absurd (omega (arith, some))
one_less (suc run) low some = let less : suc run - 1 ≡ run = omega arith in rw (less, suc-mul) (omega arith)

up_to_another : (part low high : ℕ) → low + part ≡ high → high < 18446744073709551616 → part % 18446744073709551616 ≡ high - low
up_to_another part low high whole fits = omega arith

pub returns-then-to-eq64 : goal.returns-then-to-eq64
returns-then-to-eq64 c =
    let from = c.args.from in
    rw c.if-to-eq64.true (up_to_the_last (2 ^ from) (pow_mono {i = 0} {j = from} (omega arith))
    (omega (arith, pow_mono {i = from} {j = 63} (omega (arith, c.requires.1)))))

pub returns : goal.returns
returns c =
    let from = c.args.from in
    let to = c.args.to in
    let below : to < 64 = omega (arith, c.if-to-eq64.false, c.requires.2) in
    let all : (to - from) + from ≡ to = omega (arith, c.requires.0) in
    rw (one_shl (to - from) 64 (omega (arith, below)))
    (up_to_another _ (2 ^ from) (2 ^ to)
    (one_less (2 ^ (to - from)) (2 ^ from) (pow_mono {i = 0} {j = to - from} (omega arith)) ∙ sym (pow-add 2 (to - from) from) ∙ ap (λ n. 2 ^ n) all)
    (omega (arith, pow_mono {i = to} {j = 63} (omega (arith, below)))))
