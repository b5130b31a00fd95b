-- Wrong programs that document 01 names, "Wrong turns to shut out" and the impostors of "What a reader may hold us to":
-- each gives at some call another answer than the definition, in what anybody can see.
use Rattle.std.specs.Prelude.{◌≡◌, ℕ, ◌+◌, ◌*◌, ◌%◌, not, ◌&&◌, List, [], ◌∷◌, ◌++◌, length, ◌==◌}
use Rattle.rules.specs.Machine.{Machine, ◌⊕◌}
use Rattle.rules.specs.Writes.{store, perform}
use Rattle.rules.specs.References.{Reference, wrote}
use Rattle.rules.specs.Recording.{noted_all}
use Rattle.rules.specs.Guest.{assists_control, effective, advance}
use Rattle.rules.specs.Endings.{Ending, Completed, refuse}
use Rattle.rules.specs.Steps.{Steps, done, branch, ◌>>=◌, ◌>>◌, stop_if, ending_as}
use Rattle.rules.specs.Run.{ended, gave, either, run}
use Rattle.rules.specs.Access.{store_test, second_halfword}
use Rattle.rules.specs.ControlFields.{control_halfword, miccreg, micvpsw, address_in, pending}
use Rattle.rules.specs.Masks.{mask_in, extended_in}
use Rattle.rules.specs.Call.{Call, expanded, operation, r1, r3, immediate, Completion, complete}
use Rattle.rules.specs.SetSystemMask.{mask_operand, mask_needs_expanded, mask_refused}
use Rattle.rules.specs.StoreControl.{register_count, virtual_registers}
use Rattle.rules.specs.StoreThenMask.{And, new_mask, needs_expanded}
use Rattle.rules.specs.Attempt.{
  admitted,
  instruction,
  Result,
  answered,
  conclude,
  attempt,
}
use Rattle.rules.specs.Calls.{left}
use Rattle.rules.specs.Theorems.Samples.{compared}

abbrev pub Program : Type 0
Program = Machine → Call → Result

pub record Differs (wrong : Program) : Type 0 where
  pub machine : Machine
  pub call : Call
  pub differ : compared (wrong machine call) ≡ compared (attempt machine call) → ⊥

abbrev pub admitted_on : {A : Type 0} → Machine → (Call → Steps A) → Call → Steps A
admitted_on m = admitted (length m.storage) (length m.keys)

-- the attempt, with another reading program for one operation code
abbrev pub attempt_with : (op : ℕ) → (Call → Steps Completion) → Program
attempt_with op wrong m c =
    let r = run (admitted_on m (λ c. branch (operation c == op) (wrong c) (instruction c)) c) m in
    conclude m c r.references r.outcome

-- ---- the wrong turns

-- SSM with MICVPSW whole, its pending bit too, as the address
unfoldable pub pending_in_address : Call → Steps Completion
pending_in_address c = do
  new ← mask_operand c.guest
  vpsw ← micvpsw 7 c.guest
  first ← control_halfword 8 vpsw
  let ec = extended_in first
  stop_if (ec && mask_needs_expanded (pending vpsw) (mask_in first) new) (expanded c)
  stop_if (not ec && mask_refused (pending vpsw) (mask_in first) new) refuse
  complete (store vpsw 1 new ∷ [])

-- STCTL that stores each word as soon as its own test has passed: the values, from an address on
unfoldable pub store_each : Call → List Reference → (address : ℕ) → List ℕ → Machine → Result
store_each c rs address [] m = answered Completed (advance c.guest 4) rs m
store_each c rs address (value ∷ values) m =
    let test = run (store_test c.guest address) m in
    elim test.outcome [
      | ended e ↦ answered e c.guest (rs ++ test.references) (noted_all m test.references)
      | gave real ↦
          let made = rs ++ test.references ++ wrote real 4 ∷ [] in
          store_each c made (address ⊕ 4) values (perform (noted_all m test.references) (store real 4 value))
    ]

pub record Operand : Type 0 where
  pub address : ℕ
  pub values : List ℕ

unfoldable pub registers_to_store : Call → Steps Operand
registers_to_store c = do
  let g = c.guest
  stop_if (not (assists_control g)) refuse
  creg ← miccreg 2 g
  second ← second_halfword g
  stop_if (not (effective g second % 4 == 0)) refuse
  values ← virtual_registers (address_in creg) (r1 c) (register_count (r1 c) (r3 c))
  done (record { address = effective g second; values = values })

unfoldable pub store_early : Program
store_early m c =
    let r = run (admitted_on m registers_to_store c) m in
    elim r.outcome [
      | ended e ↦ answered e c.guest r.references (noted_all m r.references)
      | gave operand ↦
          store_each c r.references operand.address operand.values (noted_all m r.references)
    ]

unfoldable pub stored_before_tested : Program
stored_before_tested m c = either (operation c == 0xb6) (λ t. store_early m c) (λ t. attempt m c)

-- STNSM, steps 1 to 4, and then what finishes it, from the address of the virtual PSW, its first halfword, and the
-- masks
unfoldable pub store_then_and_by : (Call → (vpsw first old new : ℕ) → Steps Completion) → Call → Steps Completion
store_then_and_by finish c = do
  stop_if (not (assists_control c.guest)) refuse
  vpsw ← micvpsw 2 c.guest
  first ← control_halfword 3 (address_in vpsw)
  let old = mask_in first
  let new = new_mask And old (immediate c)
  stop_if (needs_expanded And (extended_in first) (pending vpsw) old new) (expanded c)
  finish c (address_in vpsw) first old new

-- reporting the second halfword's exception as itself
unfoldable pub exception_as_itself : Call → Steps Completion
exception_as_itself = store_then_and_by λ c vpsw first old new. do
  second ← second_halfword c.guest
  real ← store_test c.guest (effective c.guest second)
  complete (store real 1 old ∷ store vpsw 1 new ∷ [])

-- writing the whole halfword of the virtual PSW
unfoldable pub whole_halfword : Call → Steps Completion
whole_halfword = store_then_and_by λ c vpsw first old new. do
  second ← ending_as (λ e. refuse) (second_halfword c.guest)
  real ← store_test c.guest (effective c.guest second)
  complete (store real 1 old ∷ store vpsw 2 (new * 256 + first % 256) ∷ [])

-- ---- the impostors

-- one that gives one ending to all
abbrev pub always_ends : Ending → Program
always_ends e m c = answered e c.guest [] m

-- one that completes and stores nothing
abbrev pub stores_nothing : Program
stores_nothing m c =
    record { answer = (attempt m c).answer; references = (attempt m c).references; after = m }

-- one with an invented count
abbrev pub invents_count : ℕ → Program
invents_count n m c = record {
  answer = record { ending = (attempt m c).answer.ending; count = n; guest = (attempt m c).answer.guest };
  references = (attempt m c).references;
  after = (attempt m c).after;
}

-- one that performs a list's first call and only pretends later
abbrev pub first_call_only : Machine → List Call → Machine
first_call_only m [] = m
first_call_only m (c ∷ cs) = (attempt m c).after

pub record DiffersOnList (wrong : Machine → List Call → Machine) : Type 0 where
  pub machine : Machine
  pub calls : List Call
  pub differ : wrong machine calls ≡ left machine calls → ⊥

pub record WrongProgramsDiffer : Type 0 where
  pub pending_in_address : Differs (attempt_with 0x80 pending_in_address)
  pub stored_before_tested : Differs stored_before_tested
  pub exception_as_itself : Differs (attempt_with 0xac exception_as_itself)
  pub whole_halfword : Differs (attempt_with 0xac whole_halfword)
  pub always_ends : (e : Ending) → Differs (always_ends e)
  pub stores_nothing : Differs stores_nothing
  pub invents_count : (n : ℕ) → Differs (invents_count n)
  pub first_call_only : DiffersOnList first_call_only
