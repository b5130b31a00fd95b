-- Three machines of demand 3: one list's alone, the other's alone, and both lists'. What holds of them together, and
-- that it still holds when one guest has put bytes, or done something to the keys.
use Rattle.std.proofs.Common.{
  ◌≡◌,
  ℕ,
  Bool,
  true,
  false,
  ◌||◌,
  ltb,
  List,
  [],
  ◌∷◌,
  map,
  length,
  get_or,
  sym,
  refl,
  ap,
  ◌∙◌,
  subst,
}
use mathlib.Core.Bool.{or_comm}
use Rattle.rules.specs.Machine.{Machine, addresses}
use Rattle.rules.specs.References.{Reference}
use Rattle.rules.specs.Recording.{noted_all}
use Rattle.rules.specs.Writes.{Write, store, set_key, entry}
use Rattle.rules.specs.Run.{Outcome, ended, gave}
use Rattle.rules.specs.Call.{Call, Completion}
use Rattle.rules.specs.Attempt.{conclude}
use Rattle.rules.specs.Theorems.ReferenceBits.{SameButReference, is_referred}
use Rattle.rules.specs.Theorems.Isolation.{All, Part, Keeps}
use Rattle.rules.proofs.All.{all_right, all_append, all_both}
use Rattle.rules.proofs.Puts.{
  Put,
  puts,
  length_puts,
  puts_both,
  puts_other,
  bytes_put,
  in_storage,
  performed_storage,
}
use Rattle.rules.proofs.Recording.{same_refl, noted_all-storage}
use Rattle.rules.proofs.Acts.{Acts}

-- ---- storage: what an attempt puts there

-- in the one and not in the other
abbrev minus : (P Q : ℕ → Type 0) → ℕ → Type 0
minus P Q x = P x × (Q x → ⊥)

abbrev pub storage_puts : Outcome Completion → List Put
storage_puts (ended e) = []
storage_puts (gave c) = in_storage c.writes

pub concluded_storage : (m : Machine) (call : Call) (rs : List Reference) (o : Outcome Completion)
    → (conclude m call rs o).after.storage ≡ puts m.storage (storage_puts o)
concluded_storage m call rs (ended e) = noted_all-storage m rs
concluded_storage m call rs (gave c) =
    performed_storage (noted_all m rs) c.writes ∙ ap (λ s. puts s (in_storage c.writes)) (noted_all-storage m rs)

module _ (p q : Part) where
  abbrev pub Bytes : ℕ → Type 0
  Bytes = minus p.bytes q.bytes

  places : (P : ℕ → Type 0) (at : List ℕ) (v : ℕ) → All P at → All (λ x. P x.place) (bytes_put at v)
  places P [] v h = tt
  places P (a ∷ at) v h = (h.0, places P at v h.1)

  writes_bytes : (ws : List Write) → All (Keeps p q) (map entry ws) → All (λ x. Bytes x.place) (in_storage ws)
  writes_bytes [] h = tt
  writes_bytes (store a n v ∷ ws) h =
      all_append (λ x. Bytes x.place) (bytes_put (addresses a n) v) (in_storage ws)
      (places Bytes (addresses a n) v
      (all_both p.bytes (λ x. q.bytes x → ⊥) (addresses a n) h.0.stores h.0.consults.bytes))
      (writes_bytes ws h.1)
  writes_bytes (set_key b v ∷ ws) h = writes_bytes ws h.1

  pub put_bytes : (m : Machine) (call : Call) (rs : List Reference) (o : Outcome Completion)
      → All (Keeps p q) (conclude m call rs o).references → All (λ x. Bytes x.place) (storage_puts o)
  put_bytes m call rs (ended e) h = tt
  put_bytes m call rs (gave c) h = writes_bytes c.writes (all_right (Keeps p q) rs (map entry c.writes) h)

-- ---- the machines. a: the one guest's alone; b: the other's alone; c: both guests'

-- the bytes: what the one may put has P, what the other may put has Q
pub record HeldBytes (P Q : ℕ → Type 0) (a b c : List ℕ) : Type 0 where
  pub first : length c ≡ length a
  pub second : length c ≡ length b
  pub mine : (x : ℕ) → (Q x → ⊥) → get_or c x 0 ≡ get_or a x 0
  pub yours : (x : ℕ) → (P x → ⊥) → get_or c x 0 ≡ get_or b x 0

-- the keys
pub record HeldKeys (p q : Part) (a b c : List ℕ) : Type 0 where
  pub first : length c ≡ length a
  pub second : length c ≡ length b
  pub mine : (k : ℕ) → p.keys k → get_or c k 0 ≡ get_or a k 0
  pub yours : (k : ℕ) → q.keys k → get_or c k 0 ≡ get_or b k 0
  pub like_mine : (k : ℕ) → (q.keys k → ⊥) → SameButReference (get_or a k 0) (get_or c k 0)
  pub like_yours : (k : ℕ) → (p.keys k → ⊥) → SameButReference (get_or b k 0) (get_or c k 0)
  pub reference_bit : (k : ℕ) → ltb k (length c) ≡ true → (p.keys k → ⊥) → (q.keys k → ⊥)
      → is_referred (get_or c k 0) ≡ (is_referred (get_or a k 0) || is_referred (get_or b k 0))

pub record Together (p q : Part) (a b c : Machine) : Type 0 where
  pub bytes : HeldBytes (Bytes p q) (Bytes q p) a.storage b.storage c.storage
  pub keys : HeldKeys p q a.keys b.keys c.keys

pub start : (p q : Part) (m : Machine) → Together p q m m m
start p q m = record {
  bytes = record { first = refl; second = refl; mine = λ x n. refl; yours = λ x n. refl };
  keys = record {
    first = refl;
    second = refl;
    mine = λ k h. refl;
    yours = λ k h. refl;
    like_mine = λ k h. same_refl (get_or m.keys k 0);
    like_yours = λ k h. same_refl (get_or m.keys k 0);
    reference_bit = λ k l g h. twice (is_referred (get_or m.keys k 0));
  };
}
  where
    twice : (b : Bool) → b ≡ (b || b)
    twice true = refl
    twice false = refl

pub turned : (p q : Part) (a b c : Machine) → Together p q a b c → Together q p b a c
turned p q a b c t = record {
  bytes = record { first = t.bytes.second; second = t.bytes.first; mine = t.bytes.yours; yours = t.bytes.mine };
  keys = record {
    first = t.keys.second;
    second = t.keys.first;
    mine = t.keys.yours;
    yours = t.keys.mine;
    like_mine = t.keys.like_yours;
    like_yours = t.keys.like_mine;
    reference_bit = λ k l g h.
        t.keys.reference_bit k l h g ∙ or_comm (is_referred (get_or a.keys k 0)) (is_referred (get_or b.keys k 0));
  };
}

pub bytes_put_lem : (P Q : ℕ → Type 0) (a b c : List ℕ) (xs : List Put) → All (λ x. P x.place) xs → HeldBytes P Q a b c
    → HeldBytes P Q (puts a xs) b (puts c xs)
bytes_put_lem P Q a b c xs h t = record {
  first = length_puts c xs ∙ t.first ∙ sym (length_puts a xs);
  second = length_puts c xs ∙ t.second;
  mine = λ x n. puts_both a c xs x t.first (t.mine x n);
  yours = λ x n. puts_other P c xs x h n ∙ t.yours x n;
}

-- e is done to each key of a and of c; touch: an entry touches its block
module _ (p q : Part) (a b c a' c' : List ℕ) (touch : ℕ → Bool) (e : ℕ → ℕ → ℕ)
    (acts : (k : ℕ) → Acts p q (length c) k (touch k) (e k))
    (la : length a' ≡ length a) (lc : length c' ≡ length c)
    (fa : (k : ℕ) → get_or a' k 0 ≡ e k (get_or a k 0)) (fc : (k : ℕ) → get_or c' k 0 ≡ e k (get_or c k 0))
  where
    exchange : (x y z : Bool) → ((x || y) || z) ≡ ((x || z) || y)
    exchange true y z = refl
    exchange false y z = or_comm y z

    bit_done : HeldKeys p q a b c → (k : ℕ) → ltb k (length c) ≡ true → (p.keys k → ⊥) → (q.keys k → ⊥)
        → is_referred (get_or c' k 0) ≡ (is_referred (get_or a' k 0) || is_referred (get_or b k 0))
    bit_done t k l g h =
        let x = is_referred (get_or a k 0) in
        let y = is_referred (get_or b k 0) in
        ap is_referred (fc k)
        ∙ (acts k).reference_bit l g (get_or c k 0)
        ∙ ap (λ z. z || touch k) (t.reference_bit k l g h)
        ∙ exchange x y (touch k)
        ∙ sym (ap (λ z. z || y) (ap is_referred (fa k) ∙ (acts k).reference_bit l g (get_or a k 0)))

    pub keys_done : HeldKeys p q a b c → HeldKeys p q a' b c'
    keys_done t = record {
      first = lc ∙ t.first ∙ sym la;
      second = lc ∙ t.second;
      mine = λ k h. fc k ∙ ap (e k) (t.mine k h) ∙ sym (fa k);
      yours = λ k h. fc k ∙ (acts k).apart h (get_or c k 0) ∙ t.yours k h;
      like_mine = λ k h. rw (fa k, fc k) ((acts k).both (get_or a k 0) (get_or c k 0) (t.like_mine k h));
      like_yours = λ k h. rw (fc k) ((acts k).keeps h (get_or b k 0) (get_or c k 0) (t.like_yours k h));
      reference_bit = λ k l g h. bit_done t k (subst (λ n. ltb k n ≡ true) lc l) g h;
    }
