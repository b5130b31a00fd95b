-- A condition code that is set, and forgotten once the address has moved on: the rest of the PSW is as it was.
use Rattle.std.proofs.Common.{◌≡◌, ℕ, ◌+◌, ◌-◌, ◌*◌, ◌/◌, ◌%◌, ◌^◌, ◌<◌, ◌≤◌, sym, ap, ◌∙◌, arith}
use Rattle.rules.specs.Bits.{bits}
use Rattle.rules.specs.Machine.{◌⊕◌}

-- a PSW as what stands left of the code, the code, and what stands right of it
abbrev psw : (left code right : ℕ) → ℕ
psw left code right = left * 2 ^ 46 + code * 2 ^ 44 + right

split : (p : ℕ) → p ≡ psw (p / 2 ^ 46) (bits 64 18 19 p) (p % 2 ^ 44)
split p = omega arith

code_in : (left code right : ℕ) → code < 4 → right < 2 ^ 44 → bits 64 18 19 (psw left code right) ≡ code
code_in left code right h k = omega arith

-- another code there
abbrev recoded : (p code : ℕ) → ℕ
recoded p code = p - bits 64 18 19 p * 2 ^ 44 + bits 2 0 1 code * 2 ^ 44

recode : (left code right new : ℕ) → code < 4 → right < 2 ^ 44
    → recoded (psw left code right) new ≡ psw left (bits 2 0 1 new) right
recode left code right new h k = let e = code_in left code right h k in omega arith

beside : (x right a b : ℕ) → a ≤ right → x + right - a + b ≡ x + (right - a + b)
beside x right a b h = omega arith

-- and the address moved on by n
module _ (n : ℕ) where
  abbrev moved : (p : ℕ) → ℕ
  moved p = p - bits 64 40 63 p + (bits 64 40 63 p ⊕ n)

  move : (left code right : ℕ) → code < 4 → right < 2 ^ 44
      → moved (psw left code right) ≡ psw left code (moved right)
  move left code right h k =
      let e : bits 64 40 63 (psw left code right) ≡ bits 64 40 63 right = omega arith in
      ap (λ a. psw left code right - a + (a ⊕ n)) e
      ∙ beside (left * 2 ^ 46 + code * 2 ^ 44) right (bits 64 40 63 right) (bits 64 40 63 right ⊕ n) (omega arith)

  moved_right : (right : ℕ) → right < 2 ^ 44 → moved right < 2 ^ 44
  moved_right right h = omega arith

  -- whatever code there was, it is gone
  forgets : (left code right : ℕ) → code < 4 → right < 2 ^ 44
      → recoded (moved (psw left code right)) 0 ≡ psw left 0 (moved right)
  forgets left code right h k =
      ap (λ p. recoded p 0) (move left code right h k)
      ∙ recode left code (moved right) 0 h (moved_right right k)

  pub code_forgotten : (p code : ℕ) → recoded (moved (recoded p code)) 0 ≡ recoded (moved p) 0
  code_forgotten p code =
      let left = p / 2 ^ 46 in
      let old = bits 64 18 19 p in
      let right = p % 2 ^ 44 in
      let h : old < 4 = omega arith in
      let k : right < 2 ^ 44 = omega arith in
      let new = bits 2 0 1 code in
      ap (λ q. recoded (moved (recoded q code)) 0) (split p)
      ∙ ap (λ q. recoded (moved q) 0) (recode left old right code h k)
      ∙ forgets left new right (omega arith) k
      ∙ sym (forgets left old right h k)
      ∙ ap (λ q. recoded (moved q) 0) (sym (split p))
