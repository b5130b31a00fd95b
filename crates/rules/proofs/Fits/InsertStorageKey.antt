-- INSERT STORAGE KEY: how it can end, and at most 8 references.
use Rattle.std.proofs.Common.{
  ◌≡◌,
  ℕ,
  ◌+◌,
  ◌*◌,
  ◌≤◌,
  Bool,
  true,
  false,
  ltb,
  List,
  length,
  Option,
  Some,
  None,
  get_or,
  set,
  refl,
  ap,
  ◌∙◌,
  arith,
  get_or-set_same,
  set-set,
  ltb-false,
  ltb-true,
}
use lib.Seq.{set_out}
use Rattle.operations.specs.Operations.{length_of}
use Rattle.rules.specs.Bits.{bits, word}
use Rattle.rules.specs.Guest.{advance, with_byte}
use Rattle.rules.specs.Endings.{FieldMissing}
use Rattle.rules.specs.Call.{Call, operation_byte, r1}
use Rattle.rules.specs.SwapTables.{FoundPage, places, assists_keys, segment_table, find_page}
use Rattle.rules.specs.InsertStorageKey.{insert_key, insert_block_key, insert_by, insert_storage_key}
use Rattle.rules.proofs.Computing.{fetching}
use Rattle.rules.proofs.Within.{within_more}
use Rattle.rules.proofs.Fits.{
  Advanced,
  Completes,
  completes,
  completes_more,
  Stops,
  stops,
  Fits,
  fits_then,
}
use Rattle.rules.proofs.Fits.SwapTables.{WayListed, segment_table-within, find_page-within}

way : WayListed 0x09 places
way = record {
  refused = stops refl refl refl;
  table = stops refl refl refl;
  segment = stops refl refl refl;
  swaps = stops refl refl refl;
  swap = stops refl refl refl;
  page = stops refl refl refl;
}

-- ---- the record: a register's byte is replaced, and nothing else

abbrev joined : (x byte : ℕ) → ℕ
joined x byte = word 0 23 x * 256 + bits 8 0 7 byte

-- a byte replaced twice is replaced once
twice : (l : List ℕ) (r byte : ℕ)
    → let once = set l r (joined (get_or l r 0) byte) in
    set once r (joined (get_or once r 0) 0) ≡ set l r (joined (get_or l r 0) 0)
twice l r byte = go (ltb r (length l)) refl
  where
    x : ℕ
    x = joined (get_or l r 0) byte

    go : (b : Bool) → ltb r (length l) ≡ b
        → set (set l r x) r (joined (get_or (set l r x) r 0) 0) ≡ set l r (joined (get_or l r 0) 0)
    go true e =
        let inside = ltb-true r (length l) e in
        let y = get_or l r 0 in
        set-set l r x (joined (get_or (set l r x) r 0) 0)
        ∙ ap (λ z. set l r (joined z 0)) (get_or-set_same l r x 0 inside)
        ∙ ap (set l r) (let z : joined (joined y byte) 0 ≡ joined y 0 = omega arith in z)
    go false e =
        let past : length l ≤ r = ltb-false r (length l) e in
        ap (λ s. set s r (joined (get_or s r 0) 0)) (set_out l r x past)

advanced : (c : Call) (byte : ℕ) → Advanced 0x09 c (with_byte c.guest (r1 c) byte)
advanced c byte =
    let g = c.guest in
    let psw = (advance g (length_of (operation_byte c))).psw in
    ap (λ l. record { psw = psw; general = l; cr0 = g.cr0; cr1 = g.cr1; cr6 = g.cr6 })
    (twice g.general (r1 c) byte)

-- ---- the instruction

insert_key-fits : (c : Call) (p : FoundPage) (tried marks : ℕ) → Stops 0x09 (FieldMissing (tried + 1))
    → Stops 0x09 (FieldMissing (tried + 2)) → Fits 0x09 c (insert_key c.guest p tried marks) 2
unfolding fetching insert_key
insert_key-fits c p tried marks h k =
    (h, λ vpsw. (k, λ first. completes refl (advanced c _) (omega arith)))

insert_block_key-fits : (c : Call) (p : FoundPage) (block : ℕ) → Fits 0x09 c (insert_block_key c.guest p block) 3
unfolding fetching insert_block_key
insert_block_key-fits c p block =
    (stops refl refl refl, λ key. insert_key-fits c p _ _ (stops refl refl refl) (stops refl refl refl))

insert_by-fits : (c : Call) (p : FoundPage) (block : Option ℕ) → Fits 0x09 c (insert_by c.guest p block) 3
insert_by-fits c p None =
    within_more (Stops 0x09) (Completes 0x09 c) (completes_more 0x09 c) (insert_key c.guest p _ 0) 2 3 (omega arith)
    (insert_key-fits c p _ 0 (stops refl refl refl) (stops refl refl refl))
insert_by-fits c p (Some block) = insert_block_key-fits c p block

pub insert_storage_key-fits : (c : Call) → Fits 0x09 c (insert_storage_key c) 8
unfolding fetching insert_storage_key
insert_storage_key-fits c =
    fits_then 0x09 c (segment_table (assists_keys c) places c.guest) _ 1 7 8 (omega arith)
    (segment_table-within 0x09 places way _ c.guest)
    (λ rseg. fits_then 0x09 c (find_page places rseg _) _ 4 3 7 (omega arith) (find_page-within 0x09 places way rseg _)
    (λ p. insert_by-fits c p p.block))
