-- An item that does not go round the top of storage is there exactly if its last byte is.
use Rattle.std.proofs.Common.{
  ◌≡◌,
  ℕ,
  zero,
  suc,
  ◌+◌,
  ◌^◌,
  ◌<◌,
  Bool,
  true,
  false,
  ◌&&◌,
  ltb,
  sym,
  refl,
  ap,
  ◌∙◌,
  arith,
  ltb-true,
  lt-ltb,
}
use Rattle.rules.specs.Machine.{◌⊕◌, has}

-- before a test that it follows from, a test adds nothing
implied : (b c : Bool) → (c ≡ true → b ≡ true) → c ≡ (b && c)
implied true c h = refl
implied false true h = sym (h refl)
implied false false h = refl

-- of n + 1 bytes
pub last_of : (n size a : ℕ) → a + n < 2 ^ 24 → ltb (a + n) size ≡ has size a (suc n)
last_of zero size a h =
    let e : a + 0 ≡ a = omega arith in
    ap (λ b. ltb b size) e ∙ step (ltb a size)
  where
    step : (b : Bool) → b ≡ (b && true)
    step true = refl
    step false = refl
last_of (suc n) size a h =
    let e : ◌≡◌ {A = ℕ} (a ⊕ 1) (a + 1) = omega arith in
    let f : a + suc n ≡ (a ⊕ 1) + n = omega arith in
    implied (ltb a size) (ltb (a + suc n) size)
    (λ t. let l = ltb-true (a + suc n) size t in lt-ltb a size (omega arith))
    ∙ ap (λ b. ltb a size && ltb b size) f
    ∙ ap (λ b. ltb a size && b) (last_of n size (a ⊕ 1) (omega arith))

pub last_there : (n size a : ℕ) → a + n < size → a + n < 2 ^ 24 → has size a (suc n) ≡ true
last_there n size a h l = sym (last_of n size a l) ∙ lt-ltb (a + n) size h
