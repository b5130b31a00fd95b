-- Parts of a buffer that are put anew; a turn of the loop that puts one word after the other.
use Prim.Native.Nat.{ℕ, zero, suc, ◌+◌, ◌-◌, ◌*◌, ◌<◌, ◌≤◌}
use native.Mathlib.Omega.{arith}
use native.Mathlib.Numerals.{add-one}
use mathlib.Core.Path.{◌≡◌, refl, sym, ap, ◌∙◌}
use mathlib.Core.List.{List, [], ◌∷◌, ◌++◌, append_assoc}
use lib.ListN.{length, get_or, take, drop, set, length-append, drop_of_length-le}
use lib.Seq.{take_at, drop_at, drop-cons, length-take-le, sets, sets-eq}
use borrow.Rule.Slice.PartMut.{put_mid, Post-is}
use Rattle.trail.specs.Words.{big_endian, words_bytes}

-- a part that was lent from place a up to place e is back
pub put_between : (a e : ℕ) (b part : List ℕ) → a ≤ e → put_mid a (e - a) b part ≡ take a b ++ (part ++ drop e b)
put_between a e b part h = ap (λ rest. take a b ++ (part ++ rest)) (Post-is a e b h)

-- and has as many bytes as before
pub put_part : (a e : ℕ) (b part : List ℕ) → a + length part ≡ e → e ≤ length b
    → put_mid a (e - a) b part ≡ sets b a part
put_part a e b part h k =
    let short : a + length part ≤ length b = omega arith in
    let order : a ≤ e = omega arith in
    put_between a e b part order
    ∙ ap (λ n. take a b ++ (part ++ drop n b)) (sym h)
    ∙ sym (append_assoc (take a b) part (drop (a + length part) b))
    ∙ sym (sets-eq part b a short)

pub words_length : (ws : List ℕ) → length (words_bytes ws) ≡ 4 * length ws
words_length [] = refl
words_length (w ∷ ws) =
    length-append (big_endian 4 w) (words_bytes ws) ∙ ap (λ n. 4 + n) (words_length ws) ∙ omega arith

-- word i is put in its place: what has been put, and behind it the words to come, is the same
pub words_turn : (b ws : List ℕ) (i : ℕ) (all : List ℕ) → i < length ws → length b ≡ 4 * length ws
    → take (4 * i) b ++ words_bytes (drop i ws) ≡ all
    → take (4 * (i + 1)) (take (4 * i) b ++ (big_endian 4 (get_or ws i 0) ++ drop (4 * i + 4) b))
    ++ words_bytes (drop (i + 1) ws)
    ≡ all
words_turn b ws i all h k e =
    let w = big_endian 4 (get_or ws i 0) in
    let put = take (4 * i) b ++ w in
    let short : 4 * i ≤ length b = omega arith in
    let reach : length put ≡ 4 * (i + 1) =
    length-append (take (4 * i) b) w ∙ ap (λ n. n + 4) (length-take-le (4 * i) b short) ∙ omega arith in
    let front = ap (take (4 * (i + 1))) (sym (append_assoc (take (4 * i) b) w (drop (4 * i + 4) b)))
    ∙ take_at put (drop (4 * i + 4) b) (4 * (i + 1)) reach in
    let rest : drop i ws ≡ get_or ws i 0 ∷ drop (i + 1) ws =
    drop-cons ws i 0 h ∙ ap (λ n. get_or ws i 0 ∷ drop n ws) (sym (add-one i)) in
    ap (λ l. l ++ words_bytes (drop (i + 1) ws)) front
    ∙ append_assoc (take (4 * i) b) w (words_bytes (drop (i + 1) ws))
    ∙ ap (λ l. take (4 * i) b ++ words_bytes l) (sym rest)
    ∙ e

-- where bytes are put, those before them and those after them stay
module _ (b bytes : List ℕ) (at : ℕ) (fits : at + length bytes ≤ length b) where
  short : at ≤ length b
  short = omega arith

  pub sets_before : take at (sets b at bytes) ≡ take at b
  sets_before =
      ap (take at) (sets-eq bytes b at fits ∙ append_assoc (take at b) bytes (drop (at + length bytes) b))
      ∙ take_at (take at b) (bytes ++ drop (at + length bytes) b) at (length-take-le at b short)

  pub sets_after : drop (at + length bytes) (sets b at bytes) ≡ drop (at + length bytes) b
  sets_after =
      ap (drop (at + length bytes)) (sets-eq bytes b at fits)
      ∙ drop_at (take at b ++ bytes) (drop (at + length bytes) b) (at + length bytes)
      (length-append (take at b) bytes ∙ ap (λ n. n + length bytes) (length-take-le at b short))

-- bytes put right behind others are put with them
pub sets_behind : (bytes more b : List ℕ) (at : ℕ)
    → sets (sets b at bytes) (at + length bytes) more ≡ sets b at (bytes ++ more)
sets_behind [] more b at = let none : at + 0 ≡ at = omega arith in ap (λ n. sets b n more) none
sets_behind (v ∷ bytes) more b at =
    let place : at + suc (length bytes) ≡ suc at + length bytes = omega arith in
    ap (λ n. sets (sets (set b at v) (suc at) bytes) n more) place ∙ sets_behind bytes more (set b at v) (suc at)

-- n elements of a list, from one on
abbrev pub elements : (n from : ℕ) → List ℕ → List ℕ
elements zero from l = []
elements (suc n) from l = get_or l from 0 ∷ elements n (from + 1) l

pub elements_all : (n from : ℕ) (l : List ℕ) → length l ≡ from + n → drop from l ≡ elements n from l
elements_all zero from l h = let end : length l ≤ from = omega arith in drop_of_length-le l end
elements_all (suc n) from l h =
    let less : from < length l = omega arith in
    let rest : length l ≡ from + 1 + n = omega arith in
    drop-cons l from 0 less
    ∙ ap (λ m. get_or l from 0 ∷ drop m l) (sym (add-one from))
    ∙ ap (λ r. get_or l from 0 ∷ r) (elements_all n (from + 1) l rest)
