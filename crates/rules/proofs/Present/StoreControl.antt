-- STORE CONTROL: each operand word was tested, and is on a word, so in one block.
use Rattle.std.proofs.Common.{◌≡◌, ℕ, zero, suc, ◌%◌, ◌<◌, List, [], ◌∷◌, ◌++◌, ◌∙◌, arith, eqb-true}
use borrow.Author.Tests.{not-false}
use Rattle.rules.specs.Machine.{◌⊕◌}
use Rattle.rules.specs.Guest.{Guest, effective}
use Rattle.rules.specs.Steps.{◌>>=◌, stop_if}
use Rattle.rules.specs.Access.{store_test, second_halfword}
use Rattle.rules.specs.Call.{Call, r1, r3, complete, complete_as}
use Rattle.rules.specs.StoreControl.{
  register_count,
  gather,
  virtual_registers,
  operand_words,
  word_stores,
  control_block,
  word_operand,
  store_control,
}
use Rattle.rules.specs.Theorems.Isolation.{All}
use Rattle.rules.proofs.All.{all_append}
use Rattle.rules.proofs.Gives.{Gives, gives_then, gives_after}
use Rattle.rules.proofs.Items.{last_there}
use Rattle.rules.proofs.Present.{Sized, Inside, AllInside, store_test-gives}

module _ (s k : ℕ) (z : Sized s k) where
  -- a word's real address
  abbrev Aligned : ℕ → Type 0
  Aligned real = (real < s) × (real % 4 ≡ 0)

  gather_gives : (g : Guest) (reals : List ℕ) (a n : ℕ) → a % 4 ≡ 0 → All Aligned reals
      → Gives s k (All Aligned) (gather (store_test g) (λ a. a ⊕ 4) reals a n)
  unfolding gather
  gather_gives g reals a zero w h = h
  gather_gives g reals a (suc n) w h =
      gives_then s k Aligned (All Aligned) (store_test g a) _
      (store_test-gives s k z g a Aligned (λ real there same. (there, same ∙ w)))
      (λ real r. gather_gives g (reals ++ real ∷ []) (a ⊕ 4) n (omega arith)
      (all_append Aligned reals (real ∷ []) h (r, tt)))

  word_stores-inside : (reals values : List ℕ) → All Aligned reals → All (Inside s k) (word_stores reals values)
  word_stores-inside [] values h = tt
  word_stores-inside (real ∷ reals) [] h = tt
  word_stores-inside (real ∷ reals) (value ∷ values) h =
      let there : real < s = h.0.0 in
      let aligned : real % 4 ≡ 0 = h.0.1 in
      let blocks = z.blocks in
      let most = z.most in
      (last_there 3 s real (omega arith) (omega arith), word_stores-inside reals values h.1)

  store_words-inside : (c : Call) (ecblok a : ℕ) → a % 4 ≡ 0
      → let n = register_count (r1 c) (r3 c) in
      Gives s k (AllInside s k)
      (virtual_registers ecblok (r1 c) n
      >>= λ values. operand_words c.guest a n >>= λ reals. complete (word_stores reals values))
  unfolding complete_as
  store_words-inside c ecblok a w =
      let n = register_count (r1 c) (r3 c) in
      gives_after s k (AllInside s k) (virtual_registers ecblok (r1 c) n) _
      (λ values. gives_then s k (All Aligned) (AllInside s k) (operand_words c.guest a n) _
      (gather_gives c.guest [] a n w tt)
      (λ reals h. word_stores-inside reals values h))

  word_operand-gives : (g : Guest) → Gives s k (λ a. a % 4 ≡ 0) (word_operand g)
  unfolding ◌>>=◌ stop_if word_operand
  word_operand-gives g =
      gives_after s k (λ a. a % 4 ≡ 0) (second_halfword g) _
      (λ second. (λ t. tt, λ t. eqb-true (effective g second % 4) 0 (not-false _ t)))

  pub store_control-inside : (c : Call) → Gives s k (AllInside s k) (store_control c)
  unfolding store_control
  store_control-inside c =
      gives_after s k (AllInside s k) (control_block c.guest) _
      (λ ecblok. gives_then s k (λ a. a % 4 ≡ 0) (AllInside s k) (word_operand c.guest) _
      (word_operand-gives c.guest) (λ a w. store_words-inside c ecblok a w))
