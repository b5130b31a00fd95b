-- A buffer in which a trail stands: records, the trailer, and the rest. One writing call on it.
use Prim.Native.Nat.{ℕ, ◌+◌, ◌-◌, ◌*◌, ◌/◌, ◌%◌, ◌^◌, ◌≤◌}
use native.Mathlib.Omega.{arith}
use native.Mathlib.Nat.{div-div-eq-div-mul, add_assoc}
use mathlib.Core.Path.{◌≡◌, refl, sym, ap, ◌∙◌}
use mathlib.Core.Bool.{true, false, ◌&&◌}
use mathlib.Core.List.{List, ◌++◌, append_assoc}
use lib.ListN.{length, get_or, take, drop, length-append, length-drop}
use lib.Seq.{take_at, sets, sets-eq, take-append-add, drop-append-add, get_or-append-add, drop-drop}
use borrow.Author.Tests.{le-leb, eq-eqb}
use Rattle.trail.specs.Words.{big_endian, word_at}
use Rattle.trail.specs.Records.{Entry, record_bytes, trailer_bytes}
use Rattle.std.specs.Prelude.{None}
use Rattle.trail.specs.Trails.{
  trail,
  distance,
  largest,
  trailer_size,
  trailer_found,
  has_room,
  turned_away,
  one_more,
  add,
  turn_away,
  write,
}
use Rattle.trail.proofs.Cases.{room, writes_added, writes_not_added}

-- ---- words of a buffer

-- a word behind a part of n bytes
pub word_behind : (part rest : List ℕ) (n j at : ℕ) → length part ≡ n → at ≡ n + j
    → word_at (part ++ rest) at ≡ word_at rest j
word_behind part rest n j at h e =
    let byte : (i : ℕ) → get_or (part ++ rest) (at + i) 0 ≡ get_or rest (j + i) 0 = λ i.
    let place : at + i ≡ length part + (j + i) = omega arith in
    ap (λ k. get_or (part ++ rest) k 0) place ∙ get_or-append-add part rest (j + i) 0 in
    let place : at ≡ length part + j = omega arith in
    let first : get_or (part ++ rest) at 0 ≡ get_or rest j 0 =
    ap (λ k. get_or (part ++ rest) k 0) place ∙ get_or-append-add part rest j 0 in
    λ i. first i * 2 ^ 24 + byte 1 i * 2 ^ 16 + byte 2 i * 2 ^ 8 + byte 3 i

-- the four bytes of a word are its number
joined : (v a b c x y z : ℕ) → v ≡ a * 256 + x → a ≡ b * 256 + y → b ≡ c * 256 + z
    → c * 2 ^ 24 + z * 2 ^ 16 + y * 2 ^ 8 + x ≡ v
joined v a b c x y z e f g = omega arith

pub word_back : (v : ℕ) → v ≤ largest
    → v / 16777216 % 256 * 2 ^ 24 + v / 65536 % 256 * 2 ^ 16 + v / 256 % 256 * 2 ^ 8 + v % 256 ≡ v
word_back v h =
    let two : v / 256 / 256 ≡ v / 65536 = div-div-eq-div-mul v 256 256 in
    let three : v / 65536 / 256 ≡ v / 16777216 = div-div-eq-div-mul v 65536 256 in
    let top : v / 16777216 % 256 ≡ v / 16777216 = omega arith in
    let right : v / 256 ≡ v / 65536 * 256 + v / 256 % 256 = omega arith in
    let left : v / 65536 ≡ v / 16777216 * 256 + v / 65536 % 256 = omega arith in
    ap (λ q. q * 2 ^ 24 + v / 65536 % 256 * 2 ^ 16 + v / 256 % 256 * 2 ^ 8 + v % 256) top
    ∙ joined v (v / 256) (v / 65536) (v / 16777216) _ _ _ (omega arith) right left

pub record_length : (n : ℕ) (e : Entry) → length (record_bytes n e) ≡ 128
unfolding record_bytes
record_length n e = refl

-- what goes in with a record: it, and the trailer
pub added_length : (n : ℕ) (e : Entry) (d held k : ℕ) → length (record_bytes n e ++ trailer_bytes d held k) ≡ 144
added_length n e d held k =
    length-append (record_bytes n e) (trailer_bytes d held k) ∙ ap (λ l. l + 16) (record_length n e)

pub regroup : (a b c d : List ℕ) → a ++ (b ++ c) ++ d ≡ a ++ b ++ (c ++ d)
regroup a b c d = ap (λ l. l ++ d) (sym (append_assoc a b c)) ∙ append_assoc (a ++ b) c d

-- ---- the trail

-- n records, with so many turned away; what stands after the trailer is that of the original buffer
abbrev pub standing : (original records : List ℕ) (n turned_away : ℕ) → List ℕ
standing original records n k = records ++ (trailer_bytes (distance n) n k ++ drop (distance n + 16) original)

-- such a trail: its records fill the front, and its numbers have four bytes each
pub record Sound (original records : List ℕ) (n k : ℕ) : Type 0 where
  pub front : length records ≡ distance n
  pub low : distance n ≤ largest
  pub small : k ≤ largest
  pub fits : distance n + trailer_size ≤ length original

module _ (original records : List ℕ) (n k : ℕ) (sound : Sound original records n k) where
  pub standing_length : length (standing original records n k) ≡ length original
  standing_length =
      let trailer = trailer_bytes (distance n) n k in
      let rest = drop (distance n + 16) original in
      let size : length (trailer ++ rest) ≡ 16 + length rest = length-append trailer rest in
      let left : length rest ≡ length original - (distance n + 16) = length-drop (distance n + 16) original in
      let front = sound.front in
      let fits = sound.fits in
      length-append records (trailer ++ rest) ∙ omega arith

  pub standing_found : trailer_found (standing original records n k) n ≡ true
  standing_found =
      let b = standing original records n k in
      let rest = trailer_bytes (distance n) n k ++ drop (distance n + 16) original in
      let front = sound.front in
      let low = sound.low in
      let held : n ≤ largest = omega arith in
      let same : distance n ≡ distance n + 0 = omega arith in
      let size : distance n + 16 ≤ length b = rw standing_length sound.fits in
      let at : word_at b (distance n) ≡ distance n =
      word_behind records rest (distance n) 0 (distance n) front same ∙ word_back (distance n) low in
      let number : word_at b (distance n + 4) ≡ n =
      word_behind records rest (distance n) 4 (distance n + 4) front refl ∙ word_back n held in
      let version : word_at b (distance n + 12) ≡ 1 =
      word_behind records rest (distance n) 12 (distance n + 12) front refl in
      let one = le-leb _ _ size in
      let two = eq-eqb _ _ at in
      let three = eq-eqb _ _ number in
      let four = eq-eqb _ _ version in
      λ i. one i && (two i && three i && four i)

  pub standing_turned : turned_away (standing original records n k) n ≡ k
  standing_turned =
      let rest = trailer_bytes (distance n) n k ++ drop (distance n + 16) original in
      word_behind records rest (distance n) 8 (distance n + 8) sound.front refl ∙ word_back k sound.small

  -- a record goes in
  pub standing_added : (e : Entry) → has_room (length original) n ≡ true
      → write (standing original records n k) n e
      ≡ trail None (n + 1) (standing original (records ++ record_bytes n e) (n + 1) k)
  unfolding add
  standing_added e room-seen =
      let front = sound.front in
      let b = standing original records n k in
      let rest = drop (distance n + 16) original in
      let new = record_bytes n e in
      let trailer = trailer_bytes (distance (n + 1)) (n + 1) k in
      let wide = (room (length original) n room-seen).fits in
      let size = standing_length in
      let bytes = added_length n e (distance (n + 1)) (n + 1) k in
      let short : distance n + length (new ++ trailer) ≤ length b = omega arith in
      let long : 16 ≤ length b = omega arith in
      let end : distance n + 16 + 128 ≡ distance (n + 1) + 16 = omega arith in
      let behind : drop (distance n + 144) b ≡ drop (distance (n + 1) + 16) original =
      ap (λ d. drop (d + 144) b) (sym front)
      ∙ drop-append-add records (trailer_bytes (distance n) n k ++ rest) 144
      ∙ drop-drop 128 (distance n + 16) original
      ∙ ap (λ d. drop d original) end in
      let put = sets-eq (new ++ trailer) b (distance n) short
      ∙ ap (λ l. take (distance n) b ++ (new ++ trailer) ++ drop (distance n + l) b) bytes
      ∙ ap (λ l. l ++ (new ++ trailer) ++ drop (distance n + 144) b)
      (take_at records (trailer_bytes (distance n) n k ++ rest) (distance n) front)
      ∙ ap (λ l. records ++ (new ++ trailer) ++ l) behind in
      let turned = ap (λ x. sets b (distance n) (new ++ trailer_bytes (distance (n + 1)) (n + 1) x)) standing_turned in
      let whole = turned ∙ put ∙ regroup records new trailer (drop (distance (n + 1) + 16) original) in
      writes_added b n e long standing_found (ap (λ l. has_room l n) size ∙ room-seen)
      ∙ ap (λ l. trail None (n + 1) l) whole

  -- no record goes in
  pub standing_not_added : (e : Entry) → has_room (length original) n ≡ false
      → write (standing original records n k) n e ≡ trail None n (standing original records n (one_more k))
  unfolding turn_away
  standing_not_added e room-seen =
      let front = sound.front in
      let fits = sound.fits in
      let b = standing original records n k in
      let rest = drop (distance n + 16) original in
      let trailer = trailer_bytes (distance n) n k in
      let more = big_endian 4 (one_more k) in
      let size = standing_length in
      let short : distance n + 8 + 4 ≤ length b = omega arith in
      let long : 16 ≤ length b = omega arith in
      let before : take (distance n + 8) b ≡ records ++ take 8 trailer =
      ap (λ d. take (d + 8) b) (sym front) ∙ take-append-add records (trailer ++ rest) 8 in
      let behind : drop (distance n + 8 + 4) b ≡ drop 12 trailer ++ rest =
      ap (λ d. drop (d + 8 + 4) b) (sym front)
      ∙ ap (λ d. drop d b) (add_assoc (length records) 8 4)
      ∙ drop-append-add records (trailer ++ rest) 12 in
      let put = sets-eq more b (distance n + 8) short
      ∙ ap (λ l. l ++ more ++ drop (distance n + 8 + 4) b) before
      ∙ ap (λ l. records ++ take 8 trailer ++ more ++ l) behind in
      let turned = ap (λ x. sets b (distance n + 8) (big_endian 4 (one_more x))) standing_turned in
      let whole = turned ∙ put
      ∙ ap (λ l. l ++ (drop 12 trailer ++ rest)) (append_assoc records (take 8 trailer) more)
      ∙ append_assoc records (take 8 trailer ++ more) (drop 12 trailer ++ rest) in
      writes_not_added b n e long standing_found (ap (λ l. has_room l n) size ∙ room-seen)
      ∙ ap (λ l. trail None n l) whole
