-- Four bytes, for the stores of a word. Nothing cites this law since a word is stored in one piece; it stands since the
-- documents named it when issue 43 began (docs/DESIGN-PASS.md).
use Rattle.std.proofs.Common.{◌≡◌, ℕ, List, [], ◌∷◌, length, set, refl, arith}

-- four stores fill a list of four
pub four_set : (l : List ℕ) (a b c d : ℕ) → length l ≡ 4
    → set (set (set (set l 0 a) 1 b) 2 c) 3 d ≡ a ∷ b ∷ c ∷ d ∷ []
four_set [] a b c d h = absurd (omega arith)
four_set (w ∷ []) a b c d h = absurd (omega arith)
four_set (w ∷ x ∷ []) a b c d h = absurd (omega arith)
four_set (w ∷ x ∷ y ∷ []) a b c d h = absurd (omega arith)
four_set (w ∷ x ∷ y ∷ z ∷ []) a b c d h = refl
four_set (w ∷ x ∷ y ∷ z ∷ u ∷ l) a b c d h = absurd (omega arith)
