-- What a call on a trail comes to, by the answers of its tests.
use Prim.Native.Nat.{ℕ, ◌+◌, ◌≤◌}
use mathlib.Core.Path.{◌≡◌, refl, sym, ap, ◌∙◌}
use mathlib.Core.Bool.{Bool, true, false, cond, not}
use mathlib.Core.List.{List}
use lib.ListN.{length}
use lib.Dec.{ltb, leb}
use lib.Seq.{sets}
use borrow.Author.Tests.{le-ltb, ltb-false, leb-true}
use Rattle.std.proofs.lemmas.Option.{none-some}
use Rattle.std.proofs.lemmas.Result.{err_from_is_err_and}
use Rattle.operations.proofs.Junctions.{both_true}
use Rattle.trail.specs.Records.{Entry, trailer_bytes}
use Rattle.std.specs.Prelude.{None, Some, Result}
use Rattle.std.specs.Result.{IsErrAnd}
use Rattle.trail.specs.Answers.{RefusedCall, told}
use Rattle.trail.specs.Trails.{
  Refusal,
  Trail,
  NoTrailer,
  ShortBuffer,
  trail,
  distance,
  largest,
  trailer_size,
  refusal_number,
  trailer_found,
  has_room,
  start_refusal,
  write_refusal,
  add,
  turn_away,
  start,
  write,
}

-- there is room for one record more: what that means in numbers
pub record Room (bytes held : ℕ) : Type 0 where
  pub fits : distance (held + 1) + trailer_size ≤ bytes
  pub low : distance (held + 1) ≤ largest

pub room : (bytes held : ℕ) → has_room bytes held ≡ true → Room bytes held
room bytes held h =
    let both = both_true (leb (distance (held + 1) + trailer_size) bytes) (leb (distance (held + 1)) largest) h in
    record { fits = leb-true _ _ both.0; low = leb-true _ _ both.1 }

pub found_whole : (b : List ℕ) (held : ℕ) → trailer_found b held ≡ true → distance held + trailer_size ≤ length b
found_whole b held h = leb-true _ _ (both_true (leb (distance held + trailer_size) (length b)) _ h).0

module _ (b : List ℕ) (held : ℕ) (e : Entry) (long : 16 ≤ length b) (found : trailer_found b held ≡ true) where
  pub writes_added : has_room (length b) held ≡ true → write b held e ≡ add b held e
  unfolding write
  writes_added room = simp (le-ltb _ _ long, found, room)

  pub writes_not_added : has_room (length b) held ≡ false → write b held e ≡ turn_away b held
  unfolding write
  writes_not_added room = simp (le-ltb _ _ long, found, room)

-- what holds of each answer holds of what a start comes to
pub start_cases : (b : List ℕ) (P : Trail → Type 0)
    → P (trail (Some ShortBuffer) 0 b)
    → (trailer_size ≤ length b → P (trail None 0 (sets b 0 (trailer_bytes 0 0 0))))
    → P (start b)
unfolding start
start_cases b P short starts = by (ltb (length b) trailer_size) refl
  where
    by : (x : Bool) → ltb (length b) trailer_size ≡ x
        → P (cond x (trail (Some ShortBuffer) 0 b) (trail None 0 (sets b 0 (trailer_bytes 0 0 0))))
    by true h = short
    by false h = starts (ltb-false _ _ h)

-- what holds of each answer holds of what a writing call comes to
pub write_cases : (b : List ℕ) (held : ℕ) (e : Entry) (P : Trail → Type 0)
    → P (trail (Some ShortBuffer) held b)
    → P (trail (Some NoTrailer) held b)
    → (trailer_found b held ≡ true → has_room (length b) held ≡ true → P (add b held e))
    → (trailer_found b held ≡ true → has_room (length b) held ≡ false → P (turn_away b held))
    → P (write b held e)
unfolding write
write_cases b held e P short missing goes stays =
    by (ltb (length b) 16) (trailer_found b held) refl (has_room (length b) held) refl
  where
    by : (x y : Bool) → trailer_found b held ≡ y → (z : Bool) → has_room (length b) held ≡ z
        → P (cond x (trail (Some ShortBuffer) held b)
        (cond (not y) (trail (Some NoTrailer) held b) (cond z (add b held e) (turn_away b held))))
    by true y f z r = short
    by false false f z r = missing
    by false true f true r = goes f r
    by false true f false r = stays f r

-- the refusal that a `?` hands on, as a trail
pub refusal_told : (answer : Result ℕ RefusedCall) (r : RefusedCall) (given : ℕ) (b : List ℕ)
    → IsErrAnd answer (λ x. x ≡ r) → r.held ≡ given → told answer b ≡ trail (Some r.refusal) given b
refusal_told answer r given b h same =
    let p = err_from_is_err_and answer h in
    ap (λ x. told x b) p.1
    ∙ ap (λ (x : RefusedCall). trail (Some x.refusal) x.held b) p.2
    ∙ ap (λ n. trail (Some r.refusal) n b) same

-- trails that are the same have the same refusal's number
pub same_number : {t u : Trail} → t ≡ u → refusal_number t.refusal ≡ refusal_number u.refusal
same_number h = ap (λ t. refusal_number t.refusal) h

-- a start that is refused, and one that is not
pub start_refused : (b : List ℕ) (r : Refusal) → Some r ≡ start_refusal b → trail (Some r) 0 b ≡ start b
unfolding start
start_refused b r h = by (ltb (length b) trailer_size) (trail None 0 (sets b 0 (trailer_bytes 0 0 0))) h
  where
    by : (x : Bool) (t : Trail) → Some r ≡ cond x (Some ShortBuffer) None
        → trail (Some r) 0 b ≡ cond x (trail (Some ShortBuffer) 0 b) t
    by true t h = ap (λ o. trail o 0 b) h
    by false t h = absurd (none-some r (sym h))

pub long_enough : (b : List ℕ) → None ≡ start_refusal b → trailer_size ≤ length b
long_enough b h = by (ltb (length b) trailer_size) refl h
  where
    by : (x : Bool) → ltb (length b) trailer_size ≡ x → None ≡ cond x (Some ShortBuffer) None
        → trailer_size ≤ length b
    by true s h = absurd (none-some ShortBuffer h)
    by false s h = ltb-false _ _ s

-- a writing call that is refused: the buffer and the number given are those of the definition
pub written_refused : (b : List ℕ) (held : ℕ) (e : Entry) (r : Refusal) → Some r ≡ write_refusal b held
    → trail (Some r) held b ≡ write b held e
unfolding write
written_refused b held e r h =
    by (ltb (length b) trailer_size) (trailer_found b held) (cond (has_room (length b) held) (add b held e)
    (turn_away b held)) h
  where
    by : (x y : Bool) (t : Trail) → Some r ≡ cond x (Some ShortBuffer) (cond y None (Some NoTrailer))
        → trail (Some r) held b
        ≡ cond x (trail (Some ShortBuffer) held b) (cond (not y) (trail (Some NoTrailer) held b) t)
    by true y t h = ap (λ o. trail o held b) h
    by false false t h = ap (λ o. trail o held b) h
    by false true t h = absurd (none-some r (sym h))

-- one that is not
pub record Allowed (b : List ℕ) (held : ℕ) : Type 0 where
  pub long : trailer_size ≤ length b
  pub found : trailer_found b held ≡ true

pub allowed : (b : List ℕ) (held : ℕ) → None ≡ write_refusal b held → Allowed b held
allowed b held h = by (ltb (length b) trailer_size) refl (trailer_found b held) refl h
  where
    by : (x : Bool) → ltb (length b) trailer_size ≡ x → (y : Bool) → trailer_found b held ≡ y
        → None ≡ cond x (Some ShortBuffer) (cond y None (Some NoTrailer)) → Allowed b held
    by true s y f h = absurd (none-some ShortBuffer h)
    by false s false f h = absurd (none-some NoTrailer h)
    by false s true f h = record { long = ltb-false _ _ s; found = f }
