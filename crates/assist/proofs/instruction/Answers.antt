use Rattle.std.proofs.Common.{◌≡◌, ℕ, inl, inr, Some, None, is_some, unwrap_or, true≢false, rules, sym, ap, ◌∙◌, subst}
use Rattle.std.proofs.lemmas.Bool.Decides.{eqb_tells}
use Rattle.rules.specs.declared.mask_change.MaskChange.TheVariants.{And, Or}
use Rattle.rules.specs.declared.call.Call.{Call}
use Rattle.rules.specs.declared.mask_change.MaskChange.{MaskChange}
use Rattle.rules.specs.Machine.{Machine}
use Rattle.rules.specs.Call.{operation}
use Rattle.rules.specs.StoreThenMask.{store_then}
use Rattle.rules.specs.Attempt.{instruction}
use Rattle.storage.specs.Answers.{seen, finish}
use Rattle.assist.specs.Changes.{change_by}
use Rattle.assist.proofs.instruction.Goals as goal

-- one of the two that change a mask
module _ (c : Call) (m : Machine) where
  changed_by : (o : ℕ) (x y : MaskChange) → operation c ≡ o → change_by o ≡ Some x → Some y ≡ change_by o
      → seen (store_then y c) m ≡ seen (instruction c) m → seen (store_then x c) m ≡ seen (instruction c) m
  changed_by o x y e h k = subst (λ z. seen (store_then z c) m ≡ seen (instruction c) m)
      (ap (λ z. unwrap_or z And) (k ∙ h))

  either_change : (o : ℕ) {x : MaskChange} → operation c ≡ o → change_by o ≡ Some x
      → seen (store_then x c) m ≡ seen (instruction c) m
  unfolding instruction seen
  either_change o {x} e h = elim (eqb_tells o 0xac) [
    | inl a ↦ changed_by o x And e h (sym (ap change_by a.1)) (simp (e ∙ a.1))
    | inr a ↦ elim (eqb_tells o 0xad) [
      | inl b ↦ changed_by o x Or e h (sym (ap change_by b.1)) (simp (e ∙ b.1))
      | inr b ↦
          let none : change_by o ≡ None = simp (a.0, b.0) in
          absurd (true≢false (ap is_some (sym h ∙ none)))
    ]
  ]

pub returns-in-Some : goal.returns-in-Some
returns-in-Some c =
    c.store_then.ensures
    ∙ ap finish
    (either_change c.args.call _ _ (sym c.operation-operation.ensures) (sym c.mask_change.ensures ∙ c.in-Some.is))

pub returns-in-128 : goal.returns-in-128
unfolding instruction seen
returns-in-128 c = simp (sym c.operation-operation.ensures ∙ c.in-128.is) c.set_system_mask.ensures

pub returns-in-182 : goal.returns-in-182
unfolding instruction seen
returns-in-182 c = simp (sym c.operation-operation.ensures ∙ c.in-182.is) c.store_control.ensures

pub returns-in-8 : goal.returns-in-8
unfolding instruction seen
returns-in-8 c = simp (sym c.operation-operation.ensures ∙ c.in-8.is) c.set_storage_key.ensures

pub returns-in-9 : goal.returns-in-9
unfolding instruction seen
returns-in-9 c = simp (sym c.operation-operation.ensures ∙ c.in-9.is) c.insert_storage_key.ensures

pub returns-in-177 : goal.returns-in-177
unfolding instruction seen
returns-in-177 c = simp (sym c.operation-operation.ensures ∙ c.in-177.is) c.load_real_address.ensures

pub returns-in_default-operation : goal.returns-in_default-operation
unfolding instruction seen
returns-in_default-operation c = search rules
