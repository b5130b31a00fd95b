-- How an instruction can end, the record that it hands back, and how many references it can make: what all eight share.
pub mod SetSystemMask
pub mod StoreControl
pub mod StoreThenMask
pub mod SwapTables
pub mod SetStorageKey
pub mod InsertStorageKey
pub mod ConditionCode
pub mod ResetReferenceBit
pub mod LoadRealAddress
pub mod Attempt
use Rattle.std.proofs.Common.{
  ◌≡◌,
  ℕ,
  ◌+◌,
  ◌^◌,
  ◌<◌,
  ◌≤◌,
  Bool,
  true,
  false,
  cond,
  ◌&&◌,
  eqb,
  length,
  refl,
  true≢false,
  arith,
}
use Rattle.operations.specs.Operations.{length_of}
use Rattle.rules.specs.Bits.{bit}
use Rattle.rules.specs.Guest.{Guest, advance}
use Rattle.rules.specs.Endings.{
  Ending,
  Completed,
  Interruption,
  Protection,
  Addressing,
  SegmentTranslation,
  PageTranslation,
  TranslationSpecification,
  Expanded,
  numbers,
  refuse,
}
use Rattle.rules.specs.Steps.{Steps, ◌>>=◌, fetch_bytes, consult_key, stop_if}
use Rattle.rules.specs.Access.{real_of, key_test, access, store_test, logical_fetch}
use Rattle.rules.specs.Call.{Call, operation_byte, expanded, changed, Completion}
use Rattle.rules.specs.Theorems.Answers.{table, listed, Possible, without_result}
use Rattle.rules.proofs.Computing.{walking}
use Rattle.rules.proofs.Within.{Within, Any, within_then}

-- ---- endings

-- an ending with which an instruction stops short of completion
pub record Stops (op : ℕ) (e : Ending) : Type 0 where
  pub possible : Possible op e
  pub short : eqb (numbers e).number 0 ≡ false

-- one that carries no address
pub possible : {op : ℕ} {e : Ending} → listed (table op) (numbers e).number (numbers e).code ≡ true
    → (numbers e).address ≡ 0 → Possible op e
possible l z = record { in_table = l; logical = omega arith; elsewhere = λ t. z }

pub stops : {op : ℕ} {e : Ending} → listed (table op) (numbers e).number (numbers e).code ≡ true
    → (numbers e).address ≡ 0 → eqb (numbers e).number 0 ≡ false → Stops op e
stops l z n = record { possible = possible l z; short = n }

pub stops_expanded : (op : ℕ) → Stops op Expanded → Stops op refuse → (c : Call) → Stops op (expanded c)
stops_expanded op h k c = go (c.installed && bit 32 6 c.guest.cr6)
  where
    go : (b : Bool) → Stops op (cond b Expanded refuse)
    go true = h
    go false = k

-- the exceptions of an access to an address all have E
pub record Exceptions (E : Ending → Type 0) (a : ℕ) : Type 0 where
  pub addressing : E (Interruption Addressing)
  pub protection : E (Interruption Protection)
  pub specification : E (Interruption TranslationSpecification)
  pub segment : E (Interruption (SegmentTranslation a))
  pub page : E (Interruption (PageTranslation a))

-- ---- accesses

pub real_of-within : (E : Ending → Type 0) (g : Guest) (a : ℕ) → Exceptions E a → Within E Any (real_of g a) 2
unfolding walking
real_of-within E g a x = (
  λ t. (
    λ t1. x.specification,
    λ t1. (
      λ t2. x.segment,
      λ t2. (
        x.addressing,
        λ segment. (
          λ t3. x.segment,
          λ t3. (
            λ t4. x.specification,
            λ t4. (
              λ t5. x.page,
              λ t5. (x.addressing, λ page. (λ t6. x.page, λ t6. (λ t7. x.specification, λ t7. tt))),
            ),
          ),
        ),
      ),
    ),
  ),
  λ t. tt,
)

pub access_within : (E : Ending → Type 0) (passes : ℕ → ℕ → Bool) (g : Guest) (a : ℕ) → Exceptions E a
    → Within E Any (access passes g a) 3
unfolding access key_test consult_key stop_if ◌>>=◌
access_within E passes g a x =
    within_then E (λ real. Unit {0}) Any (λ r j k l h. tt) (real_of g a) _ 2 1 3 (omega arith)
    (real_of-within E g a x) (λ real t. (x.addressing, λ k. (λ t. x.protection, λ t. tt)))

pub store_test-within : (E : Ending → Type 0) (g : Guest) (a : ℕ) → Exceptions E a → Within E Any (store_test g a) 3
unfolding store_test stop_if ◌>>=◌
store_test-within E g a x = (λ t. x.protection, λ t. access_within E _ g a x)

pub logical_fetch-within : (E : Ending → Type 0) (g : Guest) (a n : ℕ) → Exceptions E a
    → Within E Any (logical_fetch g a n) 4
unfolding logical_fetch fetch_bytes
logical_fetch-within E g a n x =
    within_then E (λ real. Unit {0}) Any (λ r j k l h. tt) (access _ g a) _ 3 1 4 (omega arith)
    (access_within E _ g a x) (λ real t. (x.addressing, λ v. tt))

-- ---- instructions

-- a record that, moved on, differs from the call's by the instruction's result alone
abbrev pub Advanced : (op : ℕ) → Call → Guest → Type 0
Advanced op c g =
    let n = length_of (operation_byte c) in
    without_result op c (advance g n) ≡ without_result op c (advance c.guest n)

-- a completion: nothing changed but the result, and no more writes than references left
pub record Completes (op : ℕ) (c : Call) (k : Completion) (left : ℕ) : Type 0 where
  pub possible : Possible op Completed
  pub advanced : Advanced op c (changed c k.change)
  pub written : length k.writes ≤ left

pub completes : {op : ℕ} {c : Call} {k : Completion} {left : ℕ} → listed (table op) 0 0 ≡ true
    → Advanced op c (changed c k.change) → length k.writes ≤ left → Completes op c k left
completes l a w = record { possible = possible l refl; advanced = a; written = w }

pub completes_more : (op : ℕ) (c : Call) (k : Completion) (i j : ℕ) → i ≤ j → Completes op c k i → Completes op c k j
completes_more op c k i j l h = record {
  possible = h.possible;
  advanced = h.advanced;
  written = let w : length k.writes ≤ i = h.written in omega arith;
}

abbrev pub Fits : (op : ℕ) → Call → Steps Completion → ℕ → Type 0
Fits op c p n = Within (Stops op) (Completes op c) p n

-- p, whose result does not matter, and then f
pub fits_then : {A : Type 0} (op : ℕ) (c : Call) (p : Steps A) (f : A → Steps Completion) (j n m : ℕ) → j + n ≤ m
    → Within (Stops op) Any p j → ((v : A) → Fits op c (f v) n) → Fits op c (p >>= f) m
fits_then op c p f j n m l h g =
    within_then (Stops op) (λ v. Unit {0}) (Completes op c) (completes_more op c) p f j n m l h (λ v t. g v)

-- the exceptions of an access to a 24-bit address, where the table lists them
abbrev pub Lists : (op code : ℕ) → Type 0
Lists op code = listed (table op) 1 code ≡ true

pub exceptions : (op a : ℕ) → a < 2 ^ 24 → Lists op 4 × Lists op 5 × Lists op 16 × Lists op 17 × Lists op 18
    → Exceptions (Stops op) a
exceptions op a l h = record {
  protection = stops h.0 refl refl;
  addressing = stops h.1 refl refl;
  segment = record {
    possible = record { in_table = h.2; logical = l; elsewhere = λ t. absurd (true≢false t) };
    short = refl;
  };
  page = record {
    possible = record { in_table = h.3; logical = l; elsewhere = λ t. absurd (true≢false t) };
    short = refl;
  };
  specification = stops h.4 refl refl;
}
