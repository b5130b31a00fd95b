-- The words that are stored, each at the real address found for it.
use Rattle.std.proofs.Common.{◌≡◌, ℕ, suc, List, [], ◌∷◌, ◌⊎◌, inl, inr, length, refl, ap, arith}
use Rattle.rules.specs.StoreControl.{word_stores}

-- none is left
pub none_left : (reals values : List ℕ) → (length reals ≡ 0) ⊎ (length values ≡ 0) → word_stores reals values ≡ []
none_left [] values h = refl
none_left (x ∷ reals) [] h = refl
none_left (x ∷ reals) (y ∷ values) (inl h) = absurd (omega arith)
none_left (x ∷ reals) (y ∷ values) (inr h) = absurd (omega arith)

-- as many stores as words
pub stores_length : (reals values : List ℕ) → length reals ≡ length values
    → length (word_stores reals values) ≡ length reals
stores_length [] values h = refl
stores_length (x ∷ reals) [] h = absurd (omega arith)
stores_length (x ∷ reals) (y ∷ values) h = ap suc (stores_length reals values (omega arith))
