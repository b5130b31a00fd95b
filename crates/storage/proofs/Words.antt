-- The four bytes of a word that does not go round the top of storage, in a longer list.
use Rattle.std.proofs.Common.{
  ◌≡◌,
  ℕ,
  zero,
  suc,
  ◌+◌,
  ◌-◌,
  ◌*◌,
  ◌%◌,
  ◌^◌,
  ◌<◌,
  ◌≤◌,
  Bool,
  cond,
  ltb,
  List,
  [],
  ◌∷◌,
  ◌++◌,
  length,
  Some,
  None,
  get_or,
  take,
  drop,
  set,
  sym,
  refl,
  ap,
  ◌∙◌,
  arith,
  le-ltb,
  lt-ltb,
}
use Rattle.std.specs.Prelude.{slice_range}
use Rattle.std.proofs.lemmas.List.{get_or-take, get_or-drop}
use Rattle.rules.specs.Machine.{addresses, value_at, value, stored}
use Rattle.storage.specs.Items.{item_at, word_bytes}
use Rattle.storage.proofs.Theorems.{last_byte_decides}

-- its addresses follow each other
pub straight : (a : ℕ) → a ≤ 2 ^ 24 - 4 → addresses a 4 ≡ (a ∷ (a + 1) ∷ (a + 2) ∷ (a + 3) ∷ [])
straight a h =
    let one : (a + 1) % 16777216 ≡ a + 1 = omega arith in
    let two : (a + 1 + 1) % 16777216 ≡ a + 2 = omega arith in
    let three : (a + 2 + 1) % 16777216 ≡ a + 3 = omega arith in
    simp (one, two, three)

-- four stores one after the other put their bytes between what stands before and after them
between : (s : List ℕ) (a x y z w : ℕ) → a + 4 ≤ length s
    → take a s ++ (x ∷ y ∷ z ∷ w ∷ drop (suc (suc (suc (suc a)))) s)
    ≡ set (set (set (set s a x) (suc a) y) (suc (suc a)) z) (suc (suc (suc a))) w
between [] a x y z w h = absurd (omega arith)
between (p ∷ []) zero x y z w h = absurd (omega arith)
between (p ∷ q ∷ []) zero x y z w h = absurd (omega arith)
between (p ∷ q ∷ r ∷ []) zero x y z w h = absurd (omega arith)
between (p ∷ q ∷ r ∷ u ∷ s) zero x y z w h = refl
between (p ∷ s) (suc a) x y z w h = ap (λ l. p ∷ l) (between s a x y z w (omega arith))

-- a word in one piece
pub in_place : (s : List ℕ) (a v : ℕ) → a + 4 ≤ length s → a + 4 ≤ 16777216
    → take a s ++ (word_bytes v ++ drop (a + 4) s) ≡ stored s (addresses a 4) v
in_place s a v h k =
    let one : (a + 1) % 16777216 ≡ suc a = omega arith in
    let two : (suc a + 1) % 16777216 ≡ suc (suc a) = omega arith in
    let three : (suc (suc a) + 1) % 16777216 ≡ suc (suc (suc a)) = omega arith in
    let four : a + 4 ≡ suc (suc (suc (suc a))) = omega arith in
    simp (one, two, three, four) (between s a _ _ _ _ h)

-- a word's fetch, which tests its last byte alone
module _ (s : List ℕ) (a : ℕ) (k : a ≤ 2 ^ 24 - 4) where
  by_last_byte : {b : Bool} → ltb (a + 3) (length s) ≡ b → item_at s a 4 ≡ cond b (Some (value s a 4)) None
  unfolding item_at
  by_last_byte t = ap (λ b. cond b (Some (value s a 4)) None) (sym (last_byte_decides (length s) a k) ∙ t)

  pub word_there : a + 3 < length s
      → item_at s a 4
      ≡ Some (get_or s a 0 * 16777216 + get_or s (a + 1) 0 * 65536 + get_or s (a + 2) 0 * 256 + get_or s (a + 3) 0)
  word_there h =
      by_last_byte (lt-ltb (a + 3) (length s) h)
      ∙ ap (λ at. Some (value_at s at 0)) (straight a k)
      ∙ ap Some (omega arith)

  -- it is in the four bytes from its address on
  pub word_read : (part bytes : List ℕ) → part ≡ slice_range s a (a + 4) → bytes ≡ take 4 part → a + 4 ≤ length s
      → Some (get_or bytes 0 0 * 16777216 + get_or bytes 1 0 * 65536 + get_or bytes 2 0 * 256 + get_or bytes 3 0)
      ≡ item_at s a 4
  word_read part bytes from so h =
      let four : a + 4 - a ≡ 4 = omega arith in
      let same : (i : ℕ) → i < 4 → get_or bytes i 0 ≡ get_or s (a + i) 0 =
      λ i lt. ap (λ l. get_or l i 0) so
      ∙ get_or-take 4 part i 0 lt
      ∙ ap (λ l. get_or l i 0) from
      ∙ get_or-take _ (drop a s) i 0 (rw four lt)
      ∙ get_or-drop a s i 0 in
      let here : a + 0 ≡ a = omega arith in
      let first = same 0 (omega arith) ∙ ap (λ i. get_or s i 0) here in
      let second = same 1 (omega arith) in
      let third = same 2 (omega arith) in
      let fourth = same 3 (omega arith) in
      ap Some (omega arith) ∙ sym (word_there (omega (arith, h)))

  pub word_missing : length s ≤ a + 3 → item_at s a 4 ≡ None
  word_missing h = by_last_byte (le-ltb (a + 3) (length s) h)
