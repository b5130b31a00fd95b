-- The 21 words, of a record that was made of them.
use Prim.Native.Nat.{ℕ, ◌+◌, ◌*◌, ◌/◌, ◌%◌, ◌^◌, ◌<◌, ◌≤◌}
use native.Mathlib.Omega.{arith}
use mathlib.Core.Path.{◌≡◌, sym, ap, ◌∙◌}
use mathlib.Core.List.{List, [], ◌∷◌, ◌++◌}
use lib.ListN.{length, get_or, take, drop, take-append-drop, drop_of_length-le}
use lib.Seq.{drop-cons}
use Rattle.vma.specs.Words.{guest_of, words_of}

-- sixteen of nineteen words, and the last three
last_three : (l : List ℕ) → length l ≡ 19
    → take 16 l ++ get_or l 16 0 ∷ get_or l 17 0 ∷ get_or l 18 0 ∷ [] ≡ l
last_three l h =
    let a : drop 16 l ≡ get_or l 16 0 ∷ drop 17 l = drop-cons l 16 0 (omega arith) in
    let b : drop 17 l ≡ get_or l 17 0 ∷ drop 18 l = drop-cons l 17 0 (omega arith) in
    let d : drop 18 l ≡ get_or l 18 0 ∷ drop 19 l = drop-cons l 18 0 (omega arith) in
    let long : length l ≤ 19 = omega arith in
    let e : drop 19 l ≡ [] = drop_of_length-le l long in
    let all : drop 16 l ≡ get_or l 16 0 ∷ get_or l 17 0 ∷ get_or l 18 0 ∷ [] =
    a ∙ ap (λ (x : List ℕ). get_or l 16 0 ∷ x)
    (b ∙ ap (λ (x : List ℕ). get_or l 17 0 ∷ x) (d ∙ ap (λ (x : List ℕ). get_or l 18 0 ∷ x) e)) in
    ap (λ (x : List ℕ). take 16 l ++ x) (sym all) ∙ take-append-drop 16 l

-- the words of a record, taken from them
pub same_words : (w : List ℕ) → length w ≡ 21 → get_or w 0 0 < 2 ^ 32 → get_or w 1 0 < 2 ^ 32 → words_of
    (guest_of w) ≡ w
same_words [] h a b = absurd (omega arith)
same_words (x ∷ []) h a b = absurd (omega arith)
same_words (x ∷ y ∷ w) h a b =
    let left : (x * 2 ^ 32 + y) / 2 ^ 32 % 2 ^ 32 ≡ x = omega arith in
    let right : (x * 2 ^ 32 + y) % 2 ^ 32 ≡ y = omega arith in
    let rest = take 16 w ++ get_or w 16 0 ∷ get_or w 17 0 ∷ get_or w 18 0 ∷ [] in
    ap (λ (v : ℕ). v ∷ (x * 2 ^ 32 + y) % 2 ^ 32 ∷ rest) left
    ∙ ap (λ (v : ℕ). x ∷ v ∷ rest) right
    ∙ ap (λ (l : List ℕ). x ∷ y ∷ l) (last_three w (omega arith))
