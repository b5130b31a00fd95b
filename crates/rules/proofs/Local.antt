-- Locality: a reading program sees nothing but what its references name.
use Rattle.std.proofs.Common.{
  ◌≡◌,
  ℕ,
  ◌+◌,
  ◌*◌,
  Bool,
  true,
  false,
  ltb,
  List,
  [],
  ◌∷◌,
  length,
  get_or,
  sym,
  refl,
  ap,
  ◌∙◌,
}
use Rattle.rules.specs.Endings.{Ending}
use Rattle.rules.specs.Machine.{Machine, addresses, value_at, has, value}
use Rattle.rules.specs.References.{seen_as, Reference, fetched, consulted, wrote, key_set, bytes_of}
use Rattle.rules.specs.Recording.{recorded, noted}
use Rattle.rules.specs.Steps.{Steps, done, stop, fetch, key, branch}
use Rattle.rules.specs.Run.{Run, run, item}
use Rattle.rules.specs.Theorems.Isolation.{All, SameSizes}
use Rattle.rules.proofs.All.{all_map}
use Rattle.rules.proofs.Recording.{length_recorded, seen_recorded}

-- two machines show the same in a key that is consulted
abbrev pub SameKey : (keys keys' : List ℕ) → Reference → Type 0
SameKey s s' (fetched a n) = Unit {0}
SameKey s s' (consulted u b) = seen_as u (get_or s' b 0) ≡ seen_as u (get_or s b 0)
SameKey s s' (wrote a n) = Unit {0}
SameKey s s' (key_set b) = Unit {0}

-- two machines hold the same in every byte that an entry names, and show the same in its key
pub record Agree (m m' : Machine) (r : Reference) : Type 0 where
  pub bytes : All (λ a. get_or m'.storage a 0 ≡ get_or m.storage a 0) (bytes_of r)
  pub keys : SameKey m.keys m'.keys r

value_same : (s s' at : List ℕ) (v : ℕ) → All
    (λ a. get_or s' a 0 ≡ get_or s a 0) at → value_at s' at v ≡ value_at s at v
value_same s s' [] v h = refl
value_same s s' (a ∷ at) v h =
    ap (λ b. value_at s' at (v * 256 + b)) h.0 ∙ value_same s s' at (v * 256 + get_or s a 0) h.1

item_same : {A : Type 0} (P : Reference → Type 0) (b : Bool) (r : Reference) (e : Ending) (v v' : ℕ) (k k' : ℕ → Run A)
    → All P (item b r e v k).references → (P r → v' ≡ v) → (All P (k v).references → k' v ≡ k v)
    → item b r e v' k' ≡ item b r e v k
item_same P false r e v v' k k' h f g = refl
item_same P true r e v v' k k' h f g =
    ap (λ x. record { outcome = x.outcome; references = r ∷ x.references }) (ap k' (f h.0) ∙ g h.1)

-- and still do when both have recorded an entry
noted_sizes : (m m' : Machine) (r : Reference) → SameSizes m m' → SameSizes (noted m r) (noted m' r)
noted_sizes m m' r s = record {
  storage = s.storage;
  keys = length_recorded m'.keys r ∙ s.keys ∙ sym (length_recorded m.keys r);
}

noted_key : (s s' : List ℕ) (r x : Reference) → length s' ≡ length s → SameKey s s' x
    → SameKey (recorded s r) (recorded s' r) x
noted_key s s' r (fetched a n) l h = tt
noted_key s s' r (consulted u b) l h = seen_recorded u s s' r b l h
noted_key s s' r (wrote a n) l h = tt
noted_key s s' r (key_set b) l h = tt

noted_agrees : (m m' : Machine) (r : Reference) → SameSizes m m' → (x : Reference) → Agree m m' x
    → Agree (noted m r) (noted m' r) x
noted_agrees m m' r s x g =
    record { bytes = g.bytes; keys = noted_key m.keys m'.keys r x s.keys g.keys }

pub local : {A : Type 0} (p : Steps A) (m m' : Machine) → SameSizes m m' → All (Agree m m') (run p m).references
    → run p m' ≡ run p m
local (done a) m m' s h = refl
local (stop e) m m' s h = refl
local (fetch a n e next) m m' s h =
    let r = fetched a n in
    let v = value m.storage a n in
    ap (λ l. item (has l a n) r e (value m'.storage a n) (λ v. run (next v) (noted m' r))) s.storage
    ∙ item_same (Agree m m') (has (length m.storage) a n) r e v _
    (λ v. run (next v) (noted m r)) (λ v. run (next v) (noted m' r)) h
    (λ g. value_same m.storage m'.storage (addresses a n) 0 g.bytes)
    (λ g. local (next v) (noted m r) (noted m' r) (noted_sizes m m' r s)
    (all_map (Agree m m') (Agree (noted m r) (noted m' r)) (noted_agrees m m' r s)
    (run (next v) (noted m r)).references g))
local (key u b e next) m m' s h =
    let v = seen_as u (get_or m.keys b 0) in
    ap (λ l. item (ltb b l) (consulted u b) e (seen_as u (get_or m'.keys b 0)) (λ v. run (next v) m')) s.keys
    ∙ item_same (Agree m m') (ltb b (length m.keys)) (consulted u b) e v _
    (λ v. run (next v) m) (λ v. run (next v) m') h
    (λ g. g.keys)
    (λ g. local (next v) m m' s g)
local (branch true p q) m m' s h = local p m m' s h
local (branch false p q) m m' s h = local q m m' s h
