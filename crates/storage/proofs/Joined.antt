-- The number in an item is that of its left part and, behind it, that of its right part.
use Rattle.std.proofs.Common.{◌≡◌, ℕ, ◌+◌, ◌*◌, Bool, true, false, cond, ◌&&◌, ltb, sym, refl, ap, ◌∙◌, arith}
use Rattle.std.proofs.Common.{List, [], ◌∷◌, ◌++◌, length, Bor, Option, Some, None, get_or}
use Rattle.std.specs.Option.{option_copied}
use Rattle.std.specs.Slice.{IsItemAt}
use Rattle.rules.specs.Machine.{◌⊕◌, addresses, present, value_at}
use Rattle.storage.specs.Items.{item_at}

-- a byte, as it is found at a place of a slice
pub byte_found : (s : List ℕ) (a : ℕ) (o : Option (Bor ℕ)) → IsItemAt s a o → option_copied o ≡ item_at s a 1
unfolding item_at
byte_found s a (Some b) h = ap Some (let e = h.3.1 0 in omega arith) ∙ ap
    (λ t. cond (t && true) (Some (0 * 256 + get_or s a 0)) None) h.0
byte_found s a None h = simp (sym h.0)

-- the bytes at these addresses, or nothing if one is not in storage
abbrev bytes_at : (storage at : List ℕ) → Option ℕ
bytes_at s at = cond (present (length s) at) (Some (value_at s at 0)) None

-- a left part before a right one of so many values
abbrev pub joined : (values : ℕ) → Option ℕ → Option ℕ → Option ℕ
joined n None y = None
joined n (Some v) None = None
joined n (Some v) (Some w) = Some (v * n + w)

-- so it is missing where a part is, and else it has both
module _ (n : ℕ) (x y z : Option ℕ) (h : z ≡ joined n x y) where
  pub left_missing : None ≡ x → None ≡ z
  left_missing e = ap (λ l. joined n l y) e ∙ sym h

  pub right_missing : {v : ℕ} → Some v ≡ x → None ≡ y → None ≡ z
  right_missing {v} e f = ap (joined n (Some v)) f ∙ ap (λ l. joined n l y) e ∙ sym h

  pub both_there : {v w : ℕ} → Some v ≡ x → Some w ≡ y → Some (v * n + w) ≡ z
  both_there {v} e f = ap (joined n (Some v)) f ∙ ap (λ l. joined n l y) e ∙ sym h

present_both : (size : ℕ) (xs ys : List ℕ) → present size (xs ++ ys) ≡ (present size xs && present size ys)
present_both size [] ys = refl
present_both size (x ∷ xs) ys = ap (λ p. ltb x size && p) (present_both size xs ys) ∙ regroup (ltb x size)
  where
    regroup : (b : Bool) → (b && (present size xs && present size ys)) ≡ ((b && present size xs) && present size ys)
    regroup true = refl
    regroup false = refl

value_both : (s xs ys : List ℕ) (v : ℕ) → value_at s (xs ++ ys) v ≡ value_at s ys (value_at s xs v)
value_both s [] ys v = refl
value_both s (x ∷ xs) ys v = value_both s xs ys (v * 256 + get_or s x 0)

both : (a b : Bool) (n v w u : ℕ) → u ≡ v * n + w
    → cond (a && b) (Some u) None ≡ joined n (cond a (Some v) None) (cond b (Some w) None)
both true true n v w u e = ap Some e
both true false n v w u e = refl
both false b n v w u e = refl

-- the two parts are one byte, or two bytes, each
module _ (s : List ℕ) (a : ℕ) where
  pub halfword_joined : item_at s a 2 ≡ joined 256 (item_at s a 1) (item_at s (a ⊕ 1) 1)
  unfolding item_at
  halfword_joined =
      let xs = addresses a 1 in
      let ys = addresses (a ⊕ 1) 1 in
      ap (λ b. cond b (Some (value_at s (xs ++ ys) 0)) None) (present_both (length s) xs ys)
      ∙ both (present (length s) xs) (present (length s) ys) 256 (value_at s xs 0) (value_at s ys 0) _ (omega arith)

  pub word_joined : item_at s a 4 ≡ joined 65536 (item_at s a 2) (item_at s (a ⊕ 2) 2)
  unfolding item_at
  word_joined =
      let xs = addresses a 2 in
      let ys = addresses (a ⊕ 2) 2 in
      let e : ◌≡◌ {A = ℕ} (a ⊕ 1 ⊕ 1) (a ⊕ 2) = omega arith in
      ap (λ b. bytes_at s (xs ++ addresses b 2)) e
      ∙ ap (λ b. cond b (Some (value_at s (xs ++ ys) 0)) None) (present_both (length s) xs ys)
      ∙ both (present (length s) xs) (present (length s) ys) 65536 (value_at s xs 0) (value_at s ys 0) _ (omega arith)
