-- What a reading program records: its entries are fetches and keys consulted, so of the keys it changes reference bits
-- alone, those of the blocks that its entries touch.
use Rattle.std.proofs.Common.{
  ◌≡◌,
  ℕ,
  ◌<◌,
  Bool,
  true,
  false,
  ◌||◌,
  ltb,
  List,
  [],
  ◌∷◌,
  length,
  get_or,
  sym,
  ap,
  ◌∙◌,
  subst,
  lt-ltb,
}
use mathlib.Core.Bool.{or_assoc, or-false}
use Rattle.rules.specs.Endings.{Ending}
use Rattle.rules.specs.Machine.{Machine, addresses, has, value}
use Rattle.rules.specs.References.{seen_as, Reference, fetched, consulted, wrote, key_set}
use Rattle.rules.specs.Recording.{noted, noted_all}
use Rattle.rules.specs.Steps.{Steps, done, stop, fetch, key, branch}
use Rattle.rules.specs.Run.{Run, item, run}
use Rattle.rules.specs.Theorems.Isolation.{All}
use Rattle.rules.specs.Theorems.ReferenceBits.{SameButReference, is_referred, touches, touched}
use Rattle.rules.proofs.Recording.{on_key, on_all, same_refl, same_fetched, bit_fetched, noted_all-at}

abbrev pub Reads : Reference → Type 0
Reads (fetched a n) = Unit {0}
Reads (consulted u b) = Unit {0}
Reads (wrote a n) = ⊥
Reads (key_set b) = ⊥

item_reads : {A : Type 0} (b : Bool) (r : Reference) (e : Ending) (v : ℕ) (k : ℕ → Run A) → Reads r
    → All Reads (k v).references → All Reads (item b r e v k).references
item_reads false r e v k h g = tt
item_reads true r e v k h g = (h, g)

pub run_reads : {A : Type 0} (p : Steps A) (m : Machine) → All Reads (run p m).references
run_reads (done a) m = tt
run_reads (stop e) m = tt
run_reads (fetch a n e next) m =
    let v = value m.storage a n in
    let m' = noted m (fetched a n) in
    item_reads (has (length m.storage) a n) (fetched a n) e v (λ v. run (next v) m') tt (run_reads (next v) m')
run_reads (key u b e next) m =
    let v = seen_as u (get_or m.keys b 0) in
    item_reads (ltb b (length m.keys)) (consulted u b) e v (λ v. run (next v) m) tt (run_reads (next v) m)
run_reads (branch true p q) m = run_reads p m
run_reads (branch false p q) m = run_reads q m

module _ (size k : ℕ) where
  same_all : (rs : List Reference) (x y : ℕ) → All Reads rs → SameButReference x y
      → SameButReference x (on_all size k rs y)
  same_all [] x y h s = s
  same_all (fetched a n ∷ rs) x y h s =
      same_all rs x (on_key size k (fetched a n) y) h.1 (same_fetched size k (addresses a n) x y s)
  same_all (consulted u b ∷ rs) x y h s = same_all rs x y h.1 s
  same_all (wrote a n ∷ rs) x y h s = absurd h.0
  same_all (key_set b ∷ rs) x y h s = absurd h.0

  bit_all : (rs : List Reference) (x : ℕ) → ltb k size ≡ true → All Reads rs
      → is_referred (on_all size k rs x) ≡ (is_referred x || touched k rs)
  bit_all [] x t h = sym (or-false (is_referred x))
  bit_all (fetched a n ∷ rs) x t h =
      let r = fetched a n in
      bit_all rs (on_key size k r x) t h.1
      ∙ ap (λ z. z || touched k rs) (bit_fetched size k (addresses a n) x t)
      ∙ or_assoc (is_referred x) (touches k r) (touched k rs)
  bit_all (consulted u b ∷ rs) x t h = bit_all rs x t h.1
  bit_all (wrote a n ∷ rs) x t h = absurd h.0
  bit_all (key_set b ∷ rs) x t h = absurd h.0

module _ (m : Machine) (rs : List Reference) (h : All Reads rs) (k : ℕ) where
  pub read_same : SameButReference (get_or m.keys k 0) (get_or (noted_all m rs).keys k 0)
  read_same =
      let x = get_or m.keys k 0 in
      subst (SameButReference x) (sym (noted_all-at m rs k)) (same_all (length m.keys) k rs x x h (same_refl x))

  pub read_bit : k < length m.keys
      → is_referred (get_or (noted_all m rs).keys k 0) ≡ (is_referred (get_or m.keys k 0) || touched k rs)
  read_bit l =
      ap is_referred (noted_all-at m rs k)
      ∙ bit_all (length m.keys) k rs (get_or m.keys k 0) (lt-ltb k (length m.keys) l) h
