-- A bit of a number, by a shift.
use Rattle.std.proofs.Common.{◌≡◌, ℕ, zero, suc, ◌+◌, ◌-◌, ◌/◌, ◌%◌, ◌^◌, nat_eq, refl, ap, ◌∙◌, arith}
use Rattle.rules.specs.Bits.{without, bit}

shifted : (n x : ℕ) → x / 2 ^ n ≡ without n x
shifted zero x = omega arith
shifted (suc n) x = refl

pub bit_shifted : (width left place x : ℕ) → left + (place + 1) ≡ width
    → nat_eq (x / 2 ^ left % 2) 1 ≡ bit width place x
bit_shifted width left place x so =
    let n = width - (place + 1) in
    let same : left ≡ n = omega arith in
    let one : 1 ≡ place + 1 - place = omega arith in
    ap (λ y. nat_eq y 1)
    (ap (λ m. x / 2 ^ m % 2) same ∙ ap (λ y. y % 2) (shifted n x) ∙ ap (λ k. without n x % 2 ^ k) one)
