-- A reading program: what an instruction reads, in order, what a missing item gives, and how it goes on.
-- Every instruction is such a program; what it writes when it completes is its result. The term is ours: in all of
-- document 01 every read comes before every write.
use Rattle.std.specs.Prelude.{ℕ, Bool}
use Rattle.rules.specs.Endings.{Ending}
use Rattle.rules.specs.References.{KeyUse}

pub data Steps (A : Type 0) : Type 0 where
  done : A → Steps A
  stop : Ending → Steps A
  -- an item of storage; the ending if one of its bytes is not in storage
  fetch : (address bytes : ℕ) → Ending → (ℕ → Steps A) → Steps A
  -- the key of a block; the ending if the block is not in storage
  key : KeyUse → (block : ℕ) → Ending → (ℕ → Steps A) → Steps A
  -- a test, kept in the program
  branch : Bool → Steps A → Steps A → Steps A

unfoldable pub ◌>>=◌ : {A B : Type 0} → Steps A → (A → Steps B) → Steps B
◌>>=◌ (done a) f = f a
◌>>=◌ (stop e) f = stop e
◌>>=◌ (fetch a n e next) f = fetch a n e (λ v. ◌>>=◌ (next v) f)
◌>>=◌ (key u b e next) f = key u b e (λ v. ◌>>=◌ (next v) f)
◌>>=◌ (branch b p q) f = branch b (◌>>=◌ p f) (◌>>=◌ q f)

infixl 10 ◌>>=◌
abbrev pub ◌>>◌ : {A B : Type 0} → Steps A → Steps B → Steps B
◌>>◌ p q = p >>= λ a. q

infixl 10 ◌>>◌
unfoldable pub fetch_bytes : (address bytes : ℕ) → Ending → Steps ℕ
fetch_bytes address n e = fetch address n e done

unfoldable pub consult_key : KeyUse → (block : ℕ) → Ending → Steps ℕ
consult_key u block e = key u block e done

unfoldable pub stop_if : Bool → Ending → Steps (Unit {0})
stop_if b e = branch b (stop e) (done tt)

-- p, with every ending turned into another
unfoldable pub ending_as : {A : Type 0} → (Ending → Ending) → Steps A → Steps A
ending_as f (done a) = done a
ending_as f (stop e) = stop (f e)
ending_as f (fetch a n e next) = fetch a n (f e) (λ v. ending_as f (next v))
ending_as f (key u b e next) = key u b (f e) (λ v. ending_as f (next v))
ending_as f (branch b p q) = branch b (ending_as f p) (ending_as f q)
