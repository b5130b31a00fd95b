-- What an access records in the key of a block that it touches.
use Rattle.std.specs.Prelude.{ℕ, ◌%◌, Bool, ◌||◌, nat_lt}
use Rattle.rules.specs.Recording.{referred, changed}
pub use Rattle.storage.specs.declared.recording.Access.{Access}
pub use Rattle.storage.specs.declared.recording.Access.TheVariants.{Fetch, Store}

abbrev pub marking : Access → (key : ℕ) → ℕ
marking Fetch = referred
marking Store = changed

-- may a word at address a touch two blocks? (So may one whose address has more than 24 bits, which is that of its first
-- byte alone.)
abbrev pub across : (a : ℕ) → Bool
across a = nat_lt 16777215 a || nat_lt 2044 (a % 2048)
