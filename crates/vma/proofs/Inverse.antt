-- Packing and taking apart are each other's inverse.
use Prim.Native.Nat.{ℕ, ◌+◌, ◌*◌, ◌/◌, ◌%◌, ◌^◌, ◌<◌}
use native.Mathlib.Omega.{arith}
use native.Mathlib.Nat.{div-div-eq-div-mul}
use mathlib.Core.Path.{◌≡◌, sym, ap, ◌∙◌}
use mathlib.Core.List.{[], ◌∷◌, ◌++◌}
use lib.ListN.{length, get_or}
use lib.Seq.{take_at, get_or-append-add}
use Rattle.rules.specs.declared.guest.Guest.{Guest}
use Rattle.rules.specs.Endings.{Numbers}
use Rattle.vma.specs.Words.{guest_of, words_of}
use Rattle.vma.specs.Packed.{packed, numbers_in, count_in}
use Rattle.vma.specs.Inverse.{Fits, PackingInverse}
use Rattle.vma.proofs.Words.{same_words}

guest_back : (g : Guest) → g.psw < 2 ^ 64 → length g.general ≡ 16 → guest_of (words_of g) ≡ g
guest_back g h k =
    let controls = g.cr0 ∷ g.cr1 ∷ g.cr6 ∷ [] in
    let word : (n : ℕ) → get_or (g.general ++ controls) (16 + n) 0 ≡ get_or controls n 0 =
    λ n. ap (λ (l : ℕ). get_or (g.general ++ controls) (l + n) 0) (sym k) ∙ get_or-append-add g.general controls n 0 in
    let psw : g.psw / 2 ^ 32 % 2 ^ 32 * 2 ^ 32 + g.psw % 2 ^ 32 ≡ g.psw = omega arith in
    λ i. record {
      psw = psw i;
      general = take_at g.general controls 16 k i;
      cr0 = word 0 i;
      cr1 = word 1 i;
      cr6 = word 2 i;
    }

answer_back : (n : Numbers) (count : ℕ) → Fits n count
    → (numbers_in (packed n count) ≡ n) × (count_in (packed n count) ≡ count)
answer_back n count f =
    let r = packed n count in
    let a = f.number in
    let b = f.code in
    let c = f.references in
    let d = f.address in
    let number : r / 2 ^ 56 % 2 ^ 8 ≡ n.number = omega arith in
    let code : r / 2 ^ 48 % 2 ^ 8 ≡ n.code = omega arith in
    let references : r / 2 ^ 32 % 2 ^ 16 ≡ count = omega arith in
    let address : r % 2 ^ 32 ≡ n.address = omega arith in
    (λ i. record { number = number i; code = code i; address = address i }, references)

number_back : (r : ℕ) → r < 2 ^ 64 → packed (numbers_in r) (count_in r) ≡ r
number_back r h =
    let code : r / 2 ^ 32 / 2 ^ 16 ≡ r / 2 ^ 48 = div-div-eq-div-mul r (2 ^ 32) (2 ^ 16) in
    let number : r / 2 ^ 48 / 2 ^ 8 ≡ r / 2 ^ 56 = div-div-eq-div-mul r (2 ^ 48) (2 ^ 8) in
    let top : r / 2 ^ 56 < 2 ^ 8 = omega arith in
    let whole : r / 2 ^ 56 % 2 ^ 8 ≡ r / 2 ^ 56 = omega arith in
    omega arith

pub packing_inverse : PackingInverse
packing_inverse = record { guest = guest_back; words = same_words; answer = answer_back; number = number_back }
