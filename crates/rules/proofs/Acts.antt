-- What a guest whose part is p does, beside one whose part is q, to each key by itself: by an entry, by a write, and by
-- a whole attempt.
use Rattle.std.proofs.Common.{
  ◌≡◌,
  ℕ,
  ◌/◌,
  Bool,
  true,
  false,
  cond,
  ◌&&◌,
  ◌||◌,
  eqb,
  ltb,
  List,
  [],
  ◌∷◌,
  map,
  length,
  get_or,
  sym,
  refl,
  ap,
  ◌∙◌,
  subst,
  length-set,
  eqb-true,
}
use mathlib.Core.Bool.{or_assoc, or-false}
use Rattle.rules.specs.Machine.{Machine, addresses}
use Rattle.rules.specs.References.{Reference, fetched, consulted, wrote, key_set}
use Rattle.rules.specs.Recording.{referred, changed, noted_all}
use Rattle.rules.specs.Writes.{Write, store, set_key, entry, put, perform, perform_all}
use Rattle.rules.specs.Run.{Outcome, ended, gave}
use Rattle.rules.specs.Call.{Call, Completion}
use Rattle.rules.specs.Attempt.{conclude}
use Rattle.rules.specs.Theorems.ReferenceBits.{SameButReference, is_referred, any_in, touches, touched}
use Rattle.rules.specs.Theorems.Isolation.{All, Part, WholeBlocks, Keeps}
use Rattle.rules.proofs.All.{all_left, all_right, all_map}
use Rattle.rules.proofs.Puts.{set_at}
use Rattle.rules.proofs.Recording.{
  on,
  on_key,
  on_all,
  recorded_at,
  length_recorded,
  same_refl,
  same_both,
  same_fetched,
  bit_fetched,
  noted_all-at,
  noted_all-length,
  touched_append,
}

-- ---- that an access does not touch a block

missed : (P : ℕ → Type 0) (i k : ℕ) (c : Bool) (v x : ℕ) → P i → (P k → ⊥) → cond (eqb i k && c) v x ≡ x
missed P i k c v x h g = go (eqb i k) refl
  where
    go : (b : Bool) → eqb i k ≡ b → cond (b && c) v x ≡ x
    go true e = absurd (g (subst P (eqb-true i k e) h))
    go false e = refl

on_missed : (P : ℕ → Type 0) (f : ℕ → ℕ) (size k : ℕ) (at : List ℕ) (x : ℕ) → All (λ a. P (a / 2048)) at → (P k → ⊥)
    → on f size k at x ≡ x
on_missed P f size k [] x h g = refl
on_missed P f size k (a ∷ at) x h g =
    ap (on f size k at) (missed P (a / 2048) k (ltb k size) (f x) x h.0 g) ∙ on_missed P f size k at x h.1 g

none_in : (P : ℕ → Type 0) (k : ℕ) (at : List ℕ) → All (λ a. P (a / 2048)) at → (P k → ⊥) → any_in k at ≡ false
none_in P k [] h g = refl
none_in P k (a ∷ at) h g = go (eqb (a / 2048) k) refl (none_in P k at h.1 g)
  where
    go : (b : Bool) → eqb (a / 2048) k ≡ b → any_in k at ≡ false → (b || any_in k at) ≡ false
    go true e n = absurd (g (subst P (eqb-true (a / 2048) k e) h.0))
    go false e n = n

-- ---- the writes of an attempt, and the whole of it

abbrev on_put : (size k : ℕ) → Write → ℕ → ℕ
on_put size k (store a n v) x = x
on_put size k (set_key b v) x = cond (eqb b k && ltb k size) v x

abbrev on_writes : (size k : ℕ) → List Write → ℕ → ℕ
on_writes size k [] x = x
on_writes size k (w ∷ ws) x = on_writes size k ws (on_key size k (entry w) (on_put size k w x))

abbrev pub effect : (size k : ℕ) → List Reference → Outcome Completion → ℕ → ℕ
effect size k rs (ended e) x = on_all size k rs x
effect size k rs (gave c) x = on_writes size k c.writes (on_all size k rs x)

put_length : (m : Machine) (w : Write) → length (put m w).keys ≡ length m.keys
put_length m (store a n v) = refl
put_length m (set_key b v) = length-set m.keys b v

put_at : (m : Machine) (w : Write) (k : ℕ)
    → get_or (put m w).keys k 0 ≡ on_put (length m.keys) k w (get_or m.keys k 0)
put_at m (store a n v) k = refl
put_at m (set_key b v) k = set_at m.keys b v k

perform_length : (m : Machine) (w : Write) → length (perform m w).keys ≡ length m.keys
perform_length m w = length_recorded (put m w).keys (entry w) ∙ put_length m w

perform_at : (m : Machine) (w : Write) (k : ℕ)
    → let n = length m.keys in
    get_or (perform m w).keys k 0 ≡ on_key n k (entry w) (on_put n k w (get_or m.keys k 0))
perform_at m w k =
    recorded_at (put m w).keys (entry w) k
    ∙ ap (λ n. on_key n k (entry w) (get_or (put m w).keys k 0)) (put_length m w)
    ∙ ap (on_key (length m.keys) k (entry w)) (put_at m w k)

performed_length : (m : Machine) (ws : List Write) → length (perform_all m ws).keys ≡ length m.keys
performed_length m [] = refl
performed_length m (w ∷ ws) = performed_length (perform m w) ws ∙ perform_length m w

performed_at : (m : Machine) (ws : List Write) (k : ℕ)
    → get_or (perform_all m ws).keys k 0 ≡ on_writes (length m.keys) k ws (get_or m.keys k 0)
performed_at m [] k = refl
performed_at m (w ∷ ws) k =
    performed_at (perform m w) ws k
    ∙ ap (λ n. on_writes n k ws (get_or (perform m w).keys k 0)) (perform_length m w)
    ∙ ap (on_writes (length m.keys) k ws) (perform_at m w k)

module _ (m : Machine) (call : Call) (rs : List Reference) where
  pub concluded_length : (o : Outcome Completion) → length (conclude m call rs o).after.keys ≡ length m.keys
  concluded_length (ended e) = noted_all-length m rs
  concluded_length (gave c) = performed_length (noted_all m rs) c.writes ∙ noted_all-length m rs

  pub concluded_at : (o : Outcome Completion) (k : ℕ)
      → get_or (conclude m call rs o).after.keys k 0 ≡ effect (length m.keys) k rs o (get_or m.keys k 0)
  concluded_at (ended e) k = noted_all-at m rs k
  concluded_at (gave c) k =
      performed_at (noted_all m rs) c.writes k
      ∙ ap (λ n. on_writes n k c.writes (get_or (noted_all m rs).keys k 0)) (noted_all-length m rs)
      ∙ ap (on_writes (length m.keys) k c.writes) (noted_all-at m rs k)

-- ---- what is done to a key beside the other guest

-- e is done to key k, of so many; t: an entry touches its block
pub record Acts (p q : Part) (size k : ℕ) (t : Bool) (e : ℕ → ℕ) : Type 0 where
  pub apart : q.keys k → (x : ℕ) → e x ≡ x
  pub keeps : (p.keys k → ⊥) → (x y : ℕ) → SameButReference x y → SameButReference x (e y)
  pub both : (x y : ℕ) → SameButReference x y → SameButReference (e x) (e y)
  pub reference_bit : ltb k size ≡ true → (p.keys k → ⊥) → (x : ℕ) → is_referred (e x) ≡ (is_referred x || t)

module _ (p q : Part) (wp : WholeBlocks p) (wq : WholeBlocks q) (size k : ℕ) where
  acts_none : Acts p q size k false (λ x. x)
  acts_none = record {
    apart = λ g x. refl;
    keeps = λ g x y l. l;
    both = λ x y l. l;
    reference_bit = λ l g x. sym (or-false (is_referred x));
  }

  acts_then : (t u : Bool) (e f : ℕ → ℕ) → Acts p q size k t e → Acts p q size k u f
      → Acts p q size k (t || u) (λ x. f (e x))
  acts_then t u e f a b = record {
    apart = λ g x. b.apart g (e x) ∙ a.apart g x;
    keeps = λ g x y l. b.keeps g x (e y) (a.keeps g x y l);
    both = λ x y l. b.both (e x) (e y) (a.both x y l);
    reference_bit = λ l g x.
        b.reference_bit l g (e x) ∙ ap (λ z. z || u) (a.reference_bit l g x) ∙ or_assoc (is_referred x) t u;
  }

  -- one that leaves every key outside p as it was
  acts_own : (t : Bool) (e : ℕ → ℕ) → (q.keys k → (x : ℕ) → e x ≡ x) → ((p.keys k → ⊥) → (x : ℕ) → e x ≡ x)
      → ((p.keys k → ⊥) → t ≡ false)
      → ((x y : ℕ) → SameButReference x y → SameButReference (e x) (e y)) → Acts p q size k t e
  acts_own t e apart outside untouched both = record {
    apart = apart;
    keeps = λ g x y l. subst (SameButReference x) (sym (outside g y)) l;
    both = both;
    reference_bit = λ l g x.
        ap is_referred (outside g x) ∙ sym (or-false (is_referred x)) ∙ ap (λ z. is_referred x || z) (sym
        (untouched g));
  }

  clear_blocks : (at : List ℕ) → All (λ a. q.bytes a → ⊥) at → All (λ a. q.keys (a / 2048) → ⊥) at
  clear_blocks at h =
      all_map (λ a. q.bytes a → ⊥) (λ a. q.keys (a / 2048) → ⊥) (λ a n g. n (wq.byte a g)) at h

  acts_entry : (r : Reference) → Keeps p q r → Acts p q size k (touches k r) (on_key size k r)
  acts_entry (fetched a n) h = record {
    apart = λ g x. on_missed (λ j. q.keys j → ⊥) referred size k (addresses a n) x
        (clear_blocks (addresses a n) h.consults.bytes) (λ z. z g);
    keeps = λ g x y l. same_fetched size k (addresses a n) x y l;
    both = same_both size k (fetched a n);
    reference_bit = λ l g x. bit_fetched size k (addresses a n) x l;
  }
  acts_entry (consulted u b) h = acts_none
  acts_entry (wrote a n) h =
      let own = all_map p.bytes (λ a. p.keys (a / 2048)) wp.key (addresses a n) h.stores in
      acts_own (touches k (wrote a n)) (on_key size k (wrote a n))
      (λ g x. on_missed (λ j. q.keys j → ⊥) changed size k (addresses a n) x
      (clear_blocks (addresses a n) h.consults.bytes) (λ z. z g))
      (λ g x. on_missed p.keys changed size k (addresses a n) x own g)
      (none_in p.keys k (addresses a n) own)
      (same_both size k (wrote a n))
  acts_entry (key_set b) h = acts_none

  same_cond : (b : Bool) (v x y : ℕ) → SameButReference x y → SameButReference (cond b v x) (cond b v y)
  same_cond true v x y l = same_refl v
  same_cond false v x y l = l

  acts_put : (w : Write) → Keeps p q (entry w) → Acts p q size k false (on_put size k w)
  acts_put (store a n v) h = acts_none
  acts_put (set_key b v) h =
      let here = ltb k size in
      acts_own false (on_put size k (set_key b v))
      (λ g x. missed (λ j. q.keys j → ⊥) b k here v x h.consults.keys.0 (λ z. z g))
      (λ g x. missed p.keys b k here v x h.stores g)
      (λ g. refl)
      (λ x y l. same_cond (eqb b k && here) v x y l)

  acts_all : (rs : List Reference) → All (Keeps p q) rs → Acts p q size k (touched k rs) (on_all size k rs)
  acts_all [] h = acts_none
  acts_all (r ∷ rs) h =
      acts_then (touches k r) (touched k rs) (on_key size k r) (on_all size k rs) (acts_entry r h.0)
      (acts_all rs h.1)

  acts_writes : (ws : List Write) → All (Keeps p q) (map entry ws)
      → Acts p q size k (touched k (map entry ws)) (on_writes size k ws)
  acts_writes [] h = acts_none
  acts_writes (w ∷ ws) h =
      let r = entry w in
      acts_then (touches k r) (touched k (map entry ws)) (λ x. on_key size k r (on_put size k w x))
      (on_writes size k ws)
      (acts_then false (touches k r) (on_put size k w) (on_key size k r) (acts_put w h.0) (acts_entry r h.0))
      (acts_writes ws h.1)

  pub acts_effect : (m : Machine) (call : Call) (rs : List Reference) (o : Outcome Completion)
      → All (Keeps p q) (conclude m call rs o).references
      → Acts p q size k (touched k (conclude m call rs o).references) (effect size k rs o)
  acts_effect m call rs (ended e) h = acts_all rs h
  acts_effect m call rs (gave c) h =
      let made = map entry c.writes in
      subst (λ t. Acts p q size k t (effect size k rs (gave c))) (sym (touched_append k rs made))
      (acts_then (touched k rs) (touched k made) (on_all size k rs) (on_writes size k c.writes)
      (acts_all rs (all_left (Keeps p q) rs made h))
      (acts_writes c.writes (all_right (Keeps p q) rs made h)))
