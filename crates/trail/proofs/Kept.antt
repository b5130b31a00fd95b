-- A whole run: writing calls one after the other, from a buffer in which a trail stands.
use Prim.Native.Nat.{ℕ, suc, ◌+◌, ◌-◌, ◌<◌, ◌≤◌, min}
use native.Mathlib.Omega.{arith}
use mathlib.Core.Path.{◌≡◌, refl, sym, ap, ◌∙◌, subst}
use mathlib.Core.Bool.{Bool, true, false, cond, ◌&&◌}
use mathlib.Core.Logic.{◌⊎◌, inl, inr, ⊎_elim}
use mathlib.Core.List.{List, [], ◌∷◌, ◌++◌, append_assoc, append-nil}
use lib.ListN.{length, take, length-append}
use lib.Dec.{ltb, leb}
use lib.Seq.{take-nil}
use borrow.Author.Tests.{lt-ltb, le-ltb, leb-false}
use Rattle.trail.specs.Records.{Entry, record_bytes}
use Rattle.std.specs.Prelude.{None}
use Rattle.trail.specs.Trails.{Trail, trail, distance, largest, has_room, one_more}
use Rattle.trail.specs.Runs.{write_on, write_all, went_in, records_from}
use Rattle.trail.specs.Theorems.{capacity}
use Rattle.trail.proofs.Cases.{room}
use Rattle.trail.proofs.Standing.{standing, Sound, record_length, standing_added, standing_not_added}

-- n records are held, and k were turned away
abbrev pub trail_of : (original records : List ℕ) (n k : ℕ) → Trail
trail_of original records n k = trail None n (standing original records n k)

-- there is room for one more exactly below the capacity
room_below : (bytes n : ℕ) → has_room bytes n ≡ true → n < capacity bytes
room_below bytes n h = let a = (room bytes n h).fits in let b = (room bytes n h).low in omega arith

either_false : (a b : Bool) → (a && b) ≡ false → (a ≡ false) ⊎ (b ≡ false)
either_false true b h = inr h
either_false false b h = inl refl

no_room : (bytes n : ℕ) → has_room bytes n ≡ false → capacity bytes ≤ n
no_room bytes n h =
    ⊎_elim
    (λ e. let a : bytes < distance (n + 1) + 16 = leb-false _ _ e in omega arith)
    (λ e. let a : largest < distance (n + 1) = leb-false _ _ e in omega arith)
    (either_false (leb (distance (n + 1) + 16) bytes) (leb (distance (n + 1)) largest) h)

-- what a list of writing calls comes to
pub record After (original records : List ℕ) (n k : ℕ) (es : List Entry) : Type 0 where
  pub went : List Entry
  pub is : went_in (trail_of original records n k) es ≡ went
  pub trail : write_all (trail_of original records n k) es
      ≡ trail_of original (records ++ records_from n went) (n + length went) (min (k +
      (length es - length went)) largest)
  pub few : length went ≤ length es
  pub all : went ≡ take (capacity (length original) - n) es
  pub sound : Sound original (records ++ records_from n went) (n + length went)
      (min (k + (length es - length went)) largest)

-- ---- numbers

one_off : (k a b : ℕ) → k + (a - b) ≡ k + (suc a - suc b)
one_off k a b = omega arith

one_left : (c n : ℕ) → n < c → c - n ≡ suc (c - (n + 1))
one_left c n h = omega arith

none_left : (c n : ℕ) → c ≤ n → c - n ≡ 0
none_left c n h = omega arith

one_turned : (k a b : ℕ) → k ≤ largest → b ≤ a → min (one_more k + (a - b)) largest ≡ min (k + (suc a - b)) largest
one_turned k a b h i = omega arith

-- ---- one call, and then the others

-- which records went in, by what the first call comes to
went_step : (t next : Trail) (e : Entry) (es : List Entry) (rose : Bool) → write_on t e ≡ next
    → ltb t.held next.held ≡ rose → went_in t (e ∷ es) ≡ cond rose (e ∷ went_in next es) (went_in next es)
went_step t next e es rose step r =
    (λ i. cond (ltb t.held (step i).held) (e ∷ went_in (step i) es) (went_in (step i) es))
    ∙ ap (λ x. cond x (e ∷ went_in next es) (went_in next es)) r

-- the same trail, told otherwise
pub same_trail : (original : List ℕ) {records records' : List ℕ} {n n' k k' : ℕ} → records ≡ records' → n ≡ n' → k ≡ k'
    → trail_of original records n k ≡ trail_of original records' n' k'
same_trail original a b c = λ i. trail_of original (a i) (b i) (c i)

pub same_sound : (original : List ℕ) {records records' : List ℕ} {n n' k k' : ℕ} → records ≡ records' → n ≡ n' → k ≡ k'
    → Sound original records n k → Sound original records' n' k'
same_sound original a b c s = subst (λ x. x) (λ i. Sound original (a i) (b i) (c i)) s

nothing : (original records : List ℕ) (n k : ℕ) → Sound original records n k → After original records n k []
nothing original records n k s =
    let a : records ≡ records ++ [] = sym (append-nil records) in
    let b : n ≡ n + 0 = omega arith in
    let h = s.small in
    let c : k ≡ min (k + (0 - 0)) largest = omega arith in
    record {
      went = [];
      is = refl;
      trail = same_trail original a b c;
      few = omega arith;
      all = sym (take-nil (capacity (length original) - n));
      sound = same_sound original a b c s;
    }

-- the first call's record goes in, and then the others come
goes_in : (original records : List ℕ) (n k : ℕ) (e : Entry) (es : List Entry) → Sound original records n k
    → has_room (length original) n ≡ true
    → After original (records ++ record_bytes n e) (n + 1) k es → After original records n k (e ∷ es)
goes_in original records n k e es s seen next =
    let t = trail_of original records n k in
    let w = next.went in
    let step : write_on t e ≡ trail_of original (records ++ record_bytes n e) (n + 1) k =
    standing_added original records n k s e seen in
    let rose : n < n + 1 = omega arith in
    let few = next.few in
    let below = room_below (length original) n seen in
    let a = append_assoc records (record_bytes n e) (records_from (n + 1) w) in
    let b : n + 1 + length w ≡ n + suc (length w) = omega arith in
    let c = ap (λ x. min x largest) (one_off k (length es) (length w)) in
    let left = one_left (capacity (length original)) n below in
    record {
      went = e ∷ w;
      is = went_step t _ e es true step (lt-ltb n (n + 1) rose) ∙ ap (λ l. e ∷ l) next.is;
      trail = ap (λ u. write_all u es) step ∙ next.trail ∙ same_trail original a b c;
      few = omega arith;
      all = ap (λ l. e ∷ l) next.all ∙ ap (λ m. take m (e ∷ es)) (sym left);
      sound = same_sound original a b c next.sound;
    }

-- the first call's record is turned away, and then the others come
stays_out : (original records : List ℕ) (n k : ℕ) (e : Entry) (es : List Entry) → Sound original records n k
    → has_room (length original) n ≡ false
    → After original records n (one_more k) es → After original records n k (e ∷ es)
stays_out original records n k e es s seen next =
    let t = trail_of original records n k in
    let w = next.went in
    let step : write_on t e ≡ trail_of original records n (one_more k) =
    standing_not_added original records n k s e seen in
    let few = next.few in
    let above = no_room (length original) n seen in
    let none = none_left (capacity (length original)) n above in
    let c = one_turned k (length es) (length w) s.small few in
    let records' = records ++ records_from n w in
    record {
      went = w;
      is = went_step t _ e es false step (le-ltb n n (omega arith)) ∙ next.is;
      trail = ap (λ u. write_all u es) step ∙ next.trail ∙ ap (trail_of original records' (n + length w)) c;
      few = omega arith;
      all = next.all ∙ ap (λ m. take m es) none ∙ ap (λ m. take m (e ∷ es)) (sym none);
      sound = subst (Sound original records' (n + length w)) c next.sound;
    }

longer : (original records : List ℕ) (n k : ℕ) (e : Entry) → Sound original records n k
    → has_room (length original) n ≡ true
    → Sound original (records ++ record_bytes n e) (n + 1) k
longer original records n k e s seen =
    let r = room (length original) n seen in
    let f = s.front in
    let size : length (records ++ record_bytes n e) ≡ length records + 128 =
    length-append records (record_bytes n e) ∙ ap (λ l. length records + l) (record_length n e) in
    record {
      front = omega arith;
      low = r.low;
      small = s.small;
      fits = r.fits;
    }

risen : (original records : List ℕ) (n k : ℕ) → Sound original records n k → Sound original records n (one_more k)
risen original records n k s =
    let h = s.small in
    record { front = s.front; low = s.low; small = omega arith; fits = s.fits }

pub after : (es : List Entry) (original records : List ℕ) (n k : ℕ) → Sound original records n k
    → After original records n k es
after [] original records n k s = nothing original records n k s
after (e ∷ es) original records n k s = by (has_room (length original) n) refl (after es original)
  where
    by : (b : Bool) → has_room (length original) n ≡ b
        → ((records : List ℕ) (n k : ℕ) → Sound original records n k → After original records n k es)
        → After original records n k (e ∷ es)
    by true seen rest =
        goes_in original records n k e es s seen
        (rest (records ++ record_bytes n e) (n + 1) k (longer original records n k e s seen))
    by false seen rest =
        stays_out original records n k e es s seen (rest records n (one_more k) (risen original records n k s))
