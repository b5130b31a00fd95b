-- The wrong programs, each computed beside the definition at one call.
use Rattle.std.proofs.Common.{◌≡◌, ℕ, Bool, true, false, eqb, [], ◌∷◌, get_or, sym, refl, ap, ◌∙◌, arith, eqb-true}
use borrow.Author.Tests.{eqb-false}
use Rattle.rules.specs.Machine.{Machine}
use Rattle.rules.specs.Writes.{store}
use Rattle.rules.specs.Endings.{Ending}
use Rattle.rules.specs.Call.{Call}
use Rattle.rules.specs.Theorems.Samples.{machine_with, guest_with, call_of, call_with, vpsw_at, ec, bc}
use Rattle.rules.specs.Theorems.WrongPrograms.{
  Program,
  Differs,
  DiffersOnList,
  WrongProgramsDiffer,
  attempt_with,
  pending_in_address,
  store_each,
  registers_to_store,
  store_early,
  stored_before_tested,
  store_then_and_by,
  exception_as_itself,
  whole_halfword,
  always_ends,
  stores_nothing,
  invents_count,
  first_call_only,
}
use Rattle.rules.proofs.Computing.{computing}

-- what is looked at
abbrev byte_at : ℕ → Machine → ℕ
byte_at a m = get_or m.storage a 0

-- BC, pending, old FF, new 00: completes; with the pending bit in the address the virtual PSW is not in storage
pending_in_address_lem : Differs (attempt_with 0x80 pending_in_address)
unfolding computing pending_in_address
pending_in_address_lem = record {
  machine = machine_with (vpsw_at true 0x18 ∷ store 0x18 2 (bc 0xff) ∷ []);
  call = call_with 0x8000 0 true;
  differ = λ h. let z : ◌≡◌ {A = ℕ} 3 0 = ap (λ s. s.ending.number) h in omega arith;
}

-- two words at FFC, at the end of storage: code 5, and nothing is stored
stored_before_tested_lem : Differs stored_before_tested
unfolding computing store_each registers_to_store store_early stored_before_tested
stored_before_tested_lem = record {
  machine = machine_with (store 0x1e 2 0x0ffc ∷ []);
  call = call_with 0xb601 0 true;
  differ = λ h. let z : ◌≡◌ {A = ℕ} 1 0 = ap (λ s. byte_at 0xfff s.after) h in omega arith;
}

-- STNSM in the last halfword of storage: refused
exception_as_itself_lem : Differs (attempt_with 0xac exception_as_itself)
unfolding computing store_then_and_by exception_as_itself
exception_as_itself_lem = record {
  machine = machine_with [];
  call = call_of (guest_with 0xffe 0 0x80000008) 0xacff true;
  differ = λ h. let z : ◌≡◌ {A = ℕ} 5 2 = ap (λ s. s.ending.code) h in omega arith;
}

-- STNSM whose operand is the second byte of the virtual PSW: the old mask stays there
whole_halfword_lem : Differs (attempt_with 0xac whole_halfword)
unfolding computing store_then_and_by whole_halfword
whole_halfword_lem = record {
  machine = machine_with (store 0x18 2 (ec 0x07) ∷ store 0x1e 2 0x0019 ∷ []);
  call = call_with 0xacff 0 true;
  differ = λ h. let z : ◌≡◌ {A = ℕ} 8 7 = ap (λ s. byte_at 0x19 s.after) h in omega arith;
}

-- ---- the impostors

-- SSM, EC, old 04, new 07: completes
abbrev edge : Machine
edge = machine_with (store 0x18 2 (ec 0x04) ∷ store 0x20 1 0x07 ∷ [])

abbrev ssm : Call
ssm = call_with 0x8000 0 true

-- one that leaves all as it was there
unchanged : (wrong : Program) → (wrong edge ssm).after ≡ edge → Differs wrong
unfolding computing
unchanged wrong e = record {
  machine = edge;
  call = ssm;
  differ = λ h.
      let z : ◌≡◌ {A = ℕ} 4 7 = sym (ap (byte_at 0x18) e) ∙ ap (λ s. byte_at 0x18 s.after) h in
      omega arith;
}

always_ends_lem : (e : Ending) → Differs (always_ends e)
always_ends_lem e = unchanged (always_ends e) refl

stores_nothing_lem : Differs stores_nothing
stores_nothing_lem = unchanged stores_nothing refl

-- the count of that edge is 9, and with an odd instruction address 0
invents_count_lem : (n : ℕ) → Differs (invents_count n)
unfolding computing
invents_count_lem n = go (eqb n 9) refl
  where
    go : (b : Bool) → eqb n 9 ≡ b → Differs (invents_count n)
    go true e = record {
      machine = edge;
      call = call_of (guest_with 0x1d 0 0x80000008) 0x8000 true;
      differ = λ h. let z : n ≡ 0 = ap (λ s. s.count) h in let y = eqb-true n 9 e in omega arith;
    }
    go false e = record {
      machine = edge;
      call = ssm;
      differ = λ h. let z : n ≡ 9 = ap (λ s. s.count) h in eqb-false n 9 e z;
    }

-- SSM, and then STNSM, which makes the mask 04 again
first_call_only_lem : DiffersOnList first_call_only
unfolding computing
first_call_only_lem = record {
  machine = edge;
  calls = ssm ∷ call_with 0xacfc 0 true ∷ [];
  differ = λ h. let z : ◌≡◌ {A = ℕ} 7 4 = ap (byte_at 0x18) h in omega arith;
}

pub wrong_programs_differ : WrongProgramsDiffer
wrong_programs_differ = record {
  pending_in_address = pending_in_address_lem;
  stored_before_tested = stored_before_tested_lem;
  exception_as_itself = exception_as_itself_lem;
  whole_halfword = whole_halfword_lem;
  always_ends = always_ends_lem;
  stores_nothing = stores_nothing_lem;
  invents_count = invents_count_lem;
  first_call_only = first_call_only_lem;
}
