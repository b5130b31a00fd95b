-- What an instruction writes was read, or tested, before: its bytes are in storage, and the keys that it sets are
-- there. The code's stores take these facts from here.
pub mod Masks
pub mod StoreControl
pub mod StorageKeys
pub mod LoadRealAddress
pub mod Instruction
use Rattle.std.proofs.Common.{
  ◌≡◌,
  ℕ,
  suc,
  ◌+◌,
  ◌*◌,
  ◌/◌,
  ◌%◌,
  ◌^◌,
  ◌<◌,
  ◌≤◌,
  Bool,
  true,
  false,
  not,
  ◌||◌,
  eqb,
  ltb,
  List,
  [],
  ◌∷◌,
  refl,
  arith,
  ltb-false,
  ltb-true,
  lt-ltb,
  eqb-true,
}
use borrow.Author.Tests.{not-false}
use Rattle.operations.proofs.Junctions.{both_true, neither_true}
use Rattle.rules.specs.Machine.{addresses, present, has}
use Rattle.rules.specs.Bits.{word}
use Rattle.rules.specs.Endings.{Ending}
use Rattle.rules.specs.References.{KeyUse}
use Rattle.rules.specs.Guest.{Guest}
use Rattle.rules.specs.Writes.{Write, store, set_key}
use Rattle.rules.specs.Steps.{◌>>=◌, fetch_bytes, consult_key, stop_if}
use Rattle.rules.specs.Translation.{PageSize, TwoK, FourK, format_for, bytes_in_page, page_bytes}
use Rattle.rules.specs.Access.{real_of, key_test, access, store_test}
use Rattle.rules.specs.Call.{Completion}
use Rattle.rules.specs.Attempt.{wrong_storage, wrong_keys}
use Rattle.rules.specs.Theorems.Isolation.{All}
use Rattle.rules.proofs.Computing.{walking}
use Rattle.rules.proofs.Gives.{Gives, gives_then}

-- the sizes are those that pass
pub record Sized (s k : ℕ) : Type 0 where
  pub blocks : s ≡ k * 2048
  pub most : s ≤ 2 ^ 24

pub sized : (s k : ℕ) → wrong_storage s ≡ false → wrong_keys s k ≡ false → Sized s k
sized s k e f =
    let outer = neither_true (not (eqb (s % 2048) 0) || ltb s 2048) (ltb 16777216 s) e in
    let inner = neither_true (not (eqb (s % 2048) 0)) (ltb s 2048) outer.0 in
    let whole : s % 2048 ≡ 0 = eqb-true (s % 2048) 0 (not-false _ inner.0) in
    let count : k ≡ s / 2048 = eqb-true k (s / 2048) (not-false _ f) in
    record { blocks = omega arith; most = ltb-false 16777216 s outer.1 }

-- ---- on s bytes with k keys: what is there

-- a write names bytes, or a key, that is
abbrev pub Inside : (s k : ℕ) → Write → Type 0
Inside s k (store a n v) = has s a n ≡ true
Inside s k (set_key b v) = ltb b k ≡ true

abbrev pub AllInside : (s k : ℕ) → Completion → Type 0
AllInside s k c = All (Inside s k) c.writes

-- each byte of an item, and its first one
pub each_there : (s : ℕ) (at : List ℕ) → present s at ≡ true → All (λ a. a < s) at
each_there s [] h = tt
each_there s (a ∷ at) h =
    let b = both_true (ltb a s) (present s at) h in (ltb-true a s b.0, each_there s at b.1)

pub first_there : (s a n : ℕ) → has s a (suc n) ≡ true → a < s
first_there s a n h = (each_there s (addresses a (suc n)) h).0

pub byte_inside : (s a : ℕ) → a < s → has s a 1 ≡ true
byte_inside s a h = rw (lt-ltb a s h)

module _ (s k : ℕ) where
  -- what was fetched, and what was consulted
  pub fetch_bytes-gives : (a n : ℕ) (e : Ending) → Gives s k (λ v. has s a n ≡ true) (fetch_bytes a n e)
  unfolding fetch_bytes
  fetch_bytes-gives a n e = λ t v. t

  pub consult_key-gives : (u : KeyUse) (b : ℕ) (e : Ending) → Gives s k (λ v. b < k) (consult_key u b e)
  unfolding consult_key
  consult_key-gives u b e = λ t v. ltb-true b k t

-- ---- a real address that was tested for a store: it is there, and as far into a word as the logical one

framed : (p : PageSize) (frame a : ℕ) → (frame * bytes_in_page p + a % bytes_in_page p) % 4 ≡ a % 4
framed TwoK frame a = omega arith
framed FourK frame a = omega arith

module _ (s k : ℕ) (g : Guest) (a : ℕ) where
  real_of-gives : Gives s k (λ real. real % 4 ≡ a % 4) (real_of g a)
  unfolding walking
  real_of-gives = (
    λ t. (
      λ t1. tt,
      λ t1. (
        λ t2. tt,
        λ t2 h3 segment. (
          λ t3. tt,
          λ t3. (
            λ t4. tt,
            λ t4. (
              λ t5. tt,
              λ t5 h5 page. (
                λ t6. tt,
                λ t6. (
                  λ t7. tt,
                  λ t7.
                      let f = format_for (word 8 12 g.cr0) in
                      framed f.page (page / (page_bytes f / 256) % (2 ^ 24 / page_bytes f)) a,
                ),
              ),
            ),
          ),
        ),
      ),
    ),
    λ t. refl,
  )

module _ (s k : ℕ) (z : Sized s k) (g : Guest) (a : ℕ) (Q : ℕ → Type 0)
    (f : (real : ℕ) → real < s → real % 4 ≡ a % 4 → Q real) where
  in_block : (real : ℕ) → ltb (real / 2048) k ≡ true → real < s
  in_block real t = let there = ltb-true (real / 2048) k t in let whole = z.blocks in omega arith

  access_gives : (passes : ℕ → ℕ → Bool) → Gives s k Q (access passes g a)
  unfolding access key_test consult_key stop_if ◌>>=◌
  access_gives passes =
      gives_then s k (λ real. real % 4 ≡ a % 4) Q (real_of g a) _ (real_of-gives s k g a)
      (λ real w there key. (λ t. tt, λ t. f real (in_block real there) w))

  pub store_test-gives : Gives s k Q (store_test g a)
  unfolding store_test stop_if ◌>>=◌
  store_test-gives = (λ t. tt, λ t. access_gives _)
