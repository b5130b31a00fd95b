-- DEMAND 3. Two guests whose lists of calls keep to their own parts of one storage do not notice each other, in
-- whatever order the calls of both lists are made. One theorem over two whole lists and every order.
-- Document 01, "What a reader may hold us to", as document 02, R-13, restates it.
use Rattle.std.specs.Prelude.{◌≡◌, ℕ, ◌/◌, ◌<◌, ◌||◌, List, [], ◌∷◌, length, slice_index}
use Rattle.rules.specs.Machine.{Machine, addresses}
use Rattle.rules.specs.References.{
  Reference,
  fetched,
  consulted,
  ForProtection,
  Whole,
  wrote,
  key_set,
  bytes_of,
  keys_of,
}
use Rattle.rules.specs.Call.{Call}
use Rattle.rules.specs.Calls.{answers, left, references}
use Rattle.rules.specs.Theorems.ReferenceBits.{SameButReference, is_referred, touched}

-- P holds of every element
abbrev pub All : {A : Type 0} → (A → Type 0) → List A → Type 0
All P [] = Unit {0}
All P (x ∷ xs) = P x × All P xs

-- document 01's "part": any choice of byte addresses and key numbers
pub record Part : Type 1 where
  pub bytes : ℕ → Type 0
  pub keys : ℕ → Type 0

-- a part of whole blocks, with their keys
pub record WholeBlocks (part : Part) : Type 0 where
  pub key : (a : ℕ) → part.bytes a → part.keys (a / 2048)
  pub byte : (a : ℕ) → part.keys (a / 2048) → part.bytes a

-- an entry consults nothing in a part: it names (document 01's "consults") no byte and no key of it, stores and key
-- settings included
pub record Clear (part : Part) (r : Reference) : Type 0 where
  pub bytes : All (λ a. part.bytes a → ⊥) (bytes_of r)
  pub keys : All (λ k. part.keys k → ⊥) (keys_of r)

-- an entry stores and sets keys only in a part (the reference bits that a fetch records are left aside)
abbrev pub StoresIn : Part → Reference → Type 0
StoresIn part (fetched a n) = Unit {0}
StoresIn part (consulted u b) = Unit {0}
StoresIn part (wrote a n) = All part.bytes (addresses a n)
StoresIn part (key_set b) = part.keys b

-- an entry reads a reference bit only in a part: a key consulted for protection shows none
abbrev pub ReadsBitIn : Part → Reference → Type 0
ReadsBitIn part (fetched a n) = Unit {0}
ReadsBitIn part (consulted ForProtection b) = Unit {0}
ReadsBitIn part (consulted Whole b) = part.keys b
ReadsBitIn part (wrote a n) = Unit {0}
ReadsBitIn part (key_set b) = Unit {0}

-- an entry keeps to its own part, and off the other's
pub record Keeps (own other : Part) (r : Reference) : Type 0 where
  pub consults : Clear other r
  pub stores : StoresIn own r
  pub reads_bit : ReadsBitIn own r

-- the third list is the first and the second, each in its own order
pub data Interleaving : List Call → List Call → List Call → Type 0 where
  over : Interleaving [] [] []
  one : {c : Call} {us vs ws : List Call} → Interleaving us vs ws → Interleaving (c ∷ us) vs (c ∷ ws)
  two : {c : Call} {us vs ws : List Call} → Interleaving us vs ws → Interleaving us (c ∷ vs) (c ∷ ws)

-- what the calls of both lists gave, in the order in which the third makes them
abbrev pub arrange : {X : Type 0} {us vs ws : List Call} → Interleaving us vs ws → List X → List X → List X
arrange over xs ys = []
arrange (one i) [] ys = []
arrange (one i) (x ∷ xs) ys = x ∷ arrange i xs ys
arrange (two i) xs [] = []
arrange (two i) xs (y ∷ ys) = y ∷ arrange i xs ys

-- two machines hold the same in a part
pub record SameIn (part : Part) (m m' : Machine) : Type 0 where
  pub bytes : (a : ℕ) → part.bytes a → slice_index m'.storage a ≡ slice_index m.storage a
  pub keys : (k : ℕ) → part.keys k → slice_index m'.keys k ≡ slice_index m.keys k

-- the part that is in neither
abbrev pub outside : Part → Part → Part
outside p q = record {
  bytes = λ a. (p.bytes a → ⊥) × (q.bytes a → ⊥);
  keys = λ k. (p.keys k → ⊥) × (q.keys k → ⊥);
}

pub record SameSizes (m m' : Machine) : Type 0 where
  pub storage : length m'.storage ≡ length m.storage
  pub keys : length m'.keys ≡ length m.keys

-- On machine m, the calls ws are us and vs in some order.
pub record Isolated (p q : Part) (m : Machine) (us vs ws : List Call) (order : Interleaving us vs ws) : Type 0 where
  -- each call gets the answer that it got alone: the ending with all that it carries, the count, the record
  pub answer : answers m ws ≡ arrange order (answers m us) (answers m vs)
  -- each part ends as its list alone left it
  pub first : SameIn p (left m us) (left m ws)
  pub second : SameIn q (left m vs) (left m ws)
  -- the rest is as at the start, but for reference bits
  pub bytes : (a : ℕ) → (outside p q).bytes a → slice_index (left m ws).storage a ≡ slice_index m.storage a
  pub keys : (k : ℕ) → (outside p q).keys k → SameButReference (slice_index m.keys k) (slice_index (left m ws).keys k)
  -- and such a bit ends as one exactly if it was one or either list, run alone, set it
  pub reference_bit : (k : ℕ) → (outside p q).keys k → k < length m.keys
      → is_referred (slice_index (left m ws).keys k)
      ≡ (is_referred (slice_index m.keys k) || touched k (references m us) || touched k (references m vs))
  pub sizes : SameSizes m (left m ws)

-- Each list, run alone from the start, consults nothing in the other's part, stores and sets keys only in its own, and
-- reads reference bits only there. (The parts may overlap: what is in both, neither list then stores or consults.)
abbrev pub GuestsIsolated : Type 1
GuestsIsolated =
    (p q : Part) → WholeBlocks p → WholeBlocks q
    → (m : Machine) (us vs ws : List Call) (order : Interleaving us vs ws)
    → All (Keeps p q) (references m us)
    → All (Keeps q p) (references m vs)
    → Isolated p q m us vs ws order
