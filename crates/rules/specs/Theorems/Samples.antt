-- A small machine with a guest's control blocks and tables, on which the edges are computed.
use Rattle.std.specs.Prelude.{◌≡◌, ℕ, zero, suc, ◌+◌, ◌-◌, ◌*◌, ◌^◌, Bool, cond, List, [], ◌∷◌, ◌++◌, map, replicate}
use Rattle.rules.specs.Machine.{Machine}
use Rattle.rules.specs.Writes.{Write, store, put}
use Rattle.rules.specs.Guest.{Guest, instruction_address}
use Rattle.rules.specs.Endings.{Numbers, numbers}
use Rattle.rules.specs.Call.{Call}
use Rattle.rules.specs.Attempt.{Result, attempt}

-- virtual control registers from r on, each holding its number plus one
abbrev registers_from : (at r n : ℕ) → List Write
registers_from at r zero = []
registers_from at r (suc n) = store at 4 (r + 1) ∷ registers_from (at + 4) (r + 1) n

-- a machine that holds what some writes put there (nothing is recorded)
abbrev pub holding : Machine → List Write → Machine
holding m [] = m
holding m (w ∷ ws) = holding (put m w) ws

-- MICBLOK at 08; the virtual PSW at 18; an instruction at 1C, whose second halfword names the operand at 20; ECBLOK at
-- 60; a segment table at C0, a page table at D0, a swap table at E0, all for frame 0. Then what a case has of its own.
abbrev pub machine_of : (bytes : ℕ) (keys : List ℕ) → List Write → Machine
machine_of bytes keys own = holding (record { storage = replicate bytes 0; keys = keys })
    (store 0x08 4 0xc0
    ∷ store 0x0c 4 0x60
    ∷ store 0x10 4 0x18
    ∷ store 0x1e 2 0x20
    ∷ store 0xc0 4 0xd0
    ∷ store 0xcc 4 0xe0
    ∷ registers_from 0x60 0 16 ++ own)

-- in two blocks, each with key 00
abbrev pub machine_with : List Write → Machine
machine_with = machine_of 4096 (0x00 ∷ 0x00 ∷ [])

-- The EC mode and the problem state, key zero, the instruction at an address; general register 1 holds 3F, and general
-- register 2 an address.
abbrev pub guest_with : (instruction r2 cr6 : ℕ) → Guest
guest_with instruction r2 cr6 = record {
  psw = 2 ^ 51 + 2 ^ 48 + instruction;
  general = 0 ∷ 0x3f ∷ r2 ∷ replicate 13 0;
  cr0 = 0;
  cr1 = 0;
  cr6 = cr6;
}

abbrev pub call_of : Guest → (first : ℕ) (installed : Bool) → Call
call_of guest first installed = record { guest = guest; first = first; installed = installed }

-- a call of the guest whose MICBLOK is at 08, with the instruction at 1C: whether the expanded assist is installed, and
-- whether bit 6 of control register 6 switches it on
abbrev pub call_by : (first r2 : ℕ) (installed on : Bool) → Call
call_by first r2 installed on = call_of (guest_with 0x1c r2 (cond on 0x82000008 0x80000008)) first installed

-- both, or neither
abbrev pub call_with : (first r2 : ℕ) (expanded : Bool) → Call
call_with first r2 expanded = call_by first r2 expanded expanded

-- a call with bit 3 of control register 0 one
abbrev pub protecting : Call → Call
protecting c = call_of
    (record {
      psw = c.guest.psw;
      general = c.guest.general;
      cr0 = c.guest.cr0 + 2 ^ 28;
      cr1 = c.guest.cr1;
      cr6 = c.guest.cr6;
    })
    c.first c.installed

-- a call with DAT on, 4K pages and 1M segments, by the segment table at C0
abbrev pub translating : Call → Call
translating c = call_of
    (record {
      psw = c.guest.psw + 2 ^ 58;
      general = c.guest.general;
      cr0 = c.guest.cr0 + 0x00900000;
      cr1 = 0xc0;
      cr6 = c.guest.cr6;
    })
    c.first c.installed

-- MICVPSW, with or without its pending bit
abbrev pub vpsw_at : (pending : Bool) (address : ℕ) → Write
vpsw_at pending address = store 0x10 4 (cond pending 0x80000000 0 + address)

-- the first halfword of a virtual PSW in the EC mode, and in the BC mode, whose byte 0 is given
abbrev pub ec : ℕ → ℕ
ec old = old * 256 + 8

abbrev pub bc : ℕ → ℕ
bc old = old * 256

-- what is compared: the ending's numbers, the count, the record handed back, every byte and every key
pub record Compared : Type 0 where
  pub ending : Numbers
  pub count : ℕ
  pub guest : Guest
  pub after : Machine

abbrev pub compared : Result → Compared
compared r = record {
  ending = numbers r.answer.ending;
  count = r.answer.count;
  guest = r.answer.guest;
  after = r.after;
}

-- one row of a table: a call on a machine, and what it is to give
pub record Row : Type 0 where
  pub machine : Machine
  pub call : Call
  pub gives : Compared

-- every row of a table gives what it is to give
abbrev pub Hold : List Row → Type 0
Hold rows = map (λ r. compared (attempt r.machine r.call)) rows ≡ map (λ r. r.gives) rows

-- a record with another instruction address
abbrev pub moved_to : Guest → (next : ℕ) → Guest
moved_to g next = record {
  psw = g.psw - instruction_address g + next;
  general = g.general;
  cr0 = g.cr0;
  cr1 = g.cr1;
  cr6 = g.cr6;
}

-- a row that completes: the record, what is put in storage, and all keys afterwards
abbrev pub completes_with : Machine → Call → (count : ℕ) → Guest → (stores : List Write) (keys : List ℕ) → Row
completes_with m c count guest stores keys = record {
  machine = m;
  call = c;
  gives = record {
    ending = record { number = 0; code = 0; address = 0 };
    count = count;
    guest = guest;
    after = record { storage = (holding m stores).storage; keys = keys };
  };
}

-- one in whose record the instruction address alone is another
abbrev pub completes : Machine → Call → (count next : ℕ) → (stores : List Write) (keys : List ℕ) → Row
completes m c count next = completes_with m c count (moved_to c.guest next)

-- a row that ends otherwise, and leaves record and storage as they were: all keys afterwards
abbrev pub ends_with : Machine → Call → (number code count : ℕ) → (keys : List ℕ) → Row
ends_with m c number code count keys = record {
  machine = m;
  call = c;
  gives = record {
    ending = record { number = number; code = code; address = 0 };
    count = count;
    guest = c.guest;
    after = record { storage = m.storage; keys = keys };
  };
}
