-- STORE CONTROL: how it can end, and at most 85 references.
use Rattle.std.proofs.Common.{
  ◌≡◌,
  ℕ,
  zero,
  suc,
  ◌+◌,
  ◌*◌,
  ◌^◌,
  ◌<◌,
  ◌≤◌,
  List,
  [],
  ◌∷◌,
  ◌++◌,
  length,
  refl,
  ◌∙◌,
  suc-mul,
  arith,
  length-append,
}
use Rattle.rules.specs.Machine.{◌⊕◌}
use Rattle.rules.specs.Guest.{Guest, instruction_address}
use Rattle.rules.specs.Steps.{Steps, ◌>>=◌, fetch_bytes, stop_if}
use Rattle.rules.specs.Access.{second_halfword}
use Rattle.rules.specs.ControlFields.{address_in}
use Rattle.rules.specs.Call.{Call, r1, r3, complete, complete_as}
use Rattle.rules.specs.StoreControl.{
  register_count,
  gather,
  virtual_registers,
  operand_words,
  word_stores,
  control_block,
  word_operand,
  store_control,
}
use Rattle.rules.proofs.Within.{Within, Any, within_then}
use Rattle.rules.proofs.Fits.{
  completes,
  Stops,
  stops,
  Exceptions,
  store_test-within,
  logical_fetch-within,
  Completes,
  completes_more,
  Fits,
  exceptions,
}

stctl_exceptions : (a : ℕ) → a < 2 ^ 24 → Exceptions (Stops 0xb6) a
stctl_exceptions a l = exceptions 0xb6 a l (refl, refl, refl, refl, refl)

-- so many values
abbrev Many : ℕ → List ℕ → Type 0
Many n xs = length xs ≡ n

append_many : (n : ℕ) (xs : List ℕ) (x : ℕ) → Many n xs → Many (suc n) (xs ++ x ∷ [])
append_many n xs x h = length-append xs (x ∷ []) ∙ (let g : length xs + 1 ≡ suc n = omega arith in g)

-- a step of k references, n times, where each place has P
module _ (p : ℕ → Steps ℕ) (next : ℕ → ℕ) (P : ℕ → Type 0) (k : ℕ)
    (each : (x : ℕ) → P x → Within (Stops 0xb6) Any (p x) k) (on : (x : ℕ) → P x → P (next x)) where
  gather_within : (found : List ℕ) (x n i all : ℕ) → P x → n + i ≡ all → Many i found
      → Within (Stops 0xb6) (λ xs j. Many all xs) (gather p next found x n) (n * k)
  unfolding gather
  gather_within found x zero i all h e f = omega arith
  gather_within found x (suc n) i all h e f =
      within_then (Stops 0xb6) (λ v. Unit {0}) (λ xs j. Many all xs) (λ xs j k l h. h) (p x) _
      k (n * k) (suc n * k) (rw suc-mul (omega arith)) (each x h)
      (λ v t. gather_within (found ++ v ∷ []) (next x) n (suc i) all (on x h) (omega arith) (append_many i found v f))

registers_within : (ecblok r n : ℕ) → Within (Stops 0xb6) (λ xs j. Many n xs) (virtual_registers ecblok r n) (n * 1)
unfolding fetch_bytes
registers_within ecblok r n =
    gather_within _ _ (λ r. Unit {0}) 1 (λ r t. (stops refl refl refl, λ v. tt)) (λ r t. t) [] r n 0 n tt
    (omega arith) refl

operands_within : (g : Guest) (a n : ℕ) → a < 2 ^ 24
    → Within (Stops 0xb6) (λ xs j. Many n xs) (operand_words g a n) (n * 3)
operands_within g a n l =
    gather_within _ _ (λ a. a < 2 ^ 24) 3 (λ a l. store_test-within (Stops 0xb6) g a (stctl_exceptions a l))
    (λ a l. omega arith) [] a n 0 n l (omega arith) refl

word_stores-few : (reals values : List ℕ) → length (word_stores reals values) ≤ length reals
word_stores-few [] values = omega arith
word_stores-few (real ∷ reals) [] = omega arith
word_stores-few (real ∷ reals) (value ∷ values) = let h = word_stores-few reals values in omega arith

store_registers-fits : (c : Call) (ecblok a : ℕ) → a < 2 ^ 24
    → let n = register_count (r1 c) (r3 c) in
    Fits 0xb6 c
    (virtual_registers ecblok (r1 c) n
    >>= λ values. operand_words c.guest a n >>= λ reals. complete (word_stores reals values)) 80
unfolding complete_as
store_registers-fits c ecblok a l =
    let n = register_count (r1 c) (r3 c) in
    let E = Stops 0xb6 in
    let G = Completes 0xb6 c in
    within_then E (Many n) G (completes_more 0xb6 c) (virtual_registers ecblok (r1 c) n) _
    (n * 1) (n * 4) 80 (omega arith)
    (registers_within ecblok (r1 c) n)
    (λ values h. within_then E (Many n) G (completes_more 0xb6 c) (operand_words c.guest a n) _
    (n * 3) n (n * 4) (omega arith)
    (operands_within c.guest a n l)
    (λ reals k. completes refl refl (let w = word_stores-few reals values in omega arith)))

word_operand-within : (g : Guest) → Within (Stops 0xb6) (λ a k. a < 2 ^ 24) (word_operand g) 4
unfolding ◌>>=◌ stop_if word_operand
word_operand-within g =
    within_then (Stops 0xb6) (λ v. Unit {0}) (λ a k. a < 2 ^ 24) (λ a j k l h. h) (second_halfword g) _ 4 0 4
    (omega arith)
    (logical_fetch-within _ g (instruction_address g ⊕ 2) 2 (stctl_exceptions _ (omega arith)))
    (λ second t. (λ t. stops refl refl refl, λ t. omega arith))

pub store_control-fits : (c : Call) → Fits 0xb6 c (store_control c) 85
unfolding ◌>>=◌ fetch_bytes stop_if control_block store_control
store_control-fits c = (
  λ t. stops refl refl refl,
  λ t. (
    stops refl refl refl,
    λ creg.
        within_then (Stops 0xb6) (λ a. a < 2 ^ 24) (Completes 0xb6 c) (completes_more 0xb6 c)
        (word_operand c.guest) _ 4 80 84 (omega arith) (word_operand-within c.guest)
        (λ a l. store_registers-fits c (address_in creg) a l),
  ),
)
