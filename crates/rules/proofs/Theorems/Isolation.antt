-- Demand 3. Three machines are followed: one list's alone, the other's alone, and both lists'. Outside what one list
-- may put, the third agrees with the other's, but for reference bits; so each call reads the same as alone (locality),
-- and does the same.
use Rattle.std.proofs.Common.{
  ◌≡◌,
  ℕ,
  Bool,
  true,
  false,
  ◌||◌,
  ltb,
  List,
  [],
  ◌∷◌,
  map,
  length,
  get_or,
  sym,
  refl,
  ap,
  ◌∙◌,
  subst,
  lt-ltb,
}
use mathlib.Core.Bool.{or_assoc, or-false}
use Rattle.rules.specs.Machine.{Machine}
use Rattle.rules.specs.Writes.{entry}
use Rattle.rules.specs.References.{
  Reference,
  fetched,
  consulted,
  ForProtection,
  Whole,
  wrote,
  key_set,
  bytes_of,
}
use Rattle.rules.specs.Run.{Outcome, ended, gave, run}
use Rattle.rules.specs.Call.{Call, Completion}
use Rattle.rules.specs.Attempt.{program, conclude, reading, attempt}
use Rattle.rules.specs.Calls.{answers, left, references}
use Rattle.rules.specs.Theorems.ReferenceBits.{is_referred, touched}
use Rattle.rules.specs.Theorems.Isolation.{
  All,
  Part,
  WholeBlocks,
  Keeps,
  Interleaving,
  over,
  one,
  two,
  arrange,
  GuestsIsolated,
}
use Rattle.rules.proofs.All.{all_left, all_right, all_map}
use Rattle.rules.proofs.Recording.{same_trans, touched_append}
use Rattle.rules.proofs.Acts.{effect, acts_effect, concluded_length, concluded_at}
use Rattle.rules.proofs.Together.{
  Bytes,
  storage_puts,
  concluded_storage,
  put_bytes,
  Together,
  start,
  turned,
  bytes_put_lem,
  keys_done,
}
use Rattle.rules.proofs.Local.{SameKey, Agree, local}

-- ---- one call

module _ (p q : Part) (wp : WholeBlocks p) (wq : WholeBlocks q) (a b c : Machine) (t : Together p q a b c) where
  concluded_together : (call : Call) (rs : List Reference) (o : Outcome Completion)
      → All (Keeps p q) (conclude a call rs o).references
      → Together p q (conclude a call rs o).after b (conclude c call rs o).after
  concluded_together call rs o h = record {
    bytes = rw (concluded_storage a call rs o, concluded_storage c call rs o)
        (bytes_put_lem (Bytes p q) (Bytes q p) a.storage b.storage c.storage (storage_puts o)
        (put_bytes p q a call rs o h) t.bytes);
    keys =
        let size = length c.keys in
        keys_done p q a.keys b.keys c.keys (conclude a call rs o).after.keys
        (conclude c call rs o).after.keys
        (λ k. touched k (conclude a call rs o).references) (λ k. effect size k rs o)
        (λ k. acts_effect p q wp wq size k a call rs o h) (concluded_length a call rs o) (concluded_length c call rs o)
        (λ k. concluded_at a call rs o k ∙ ap (λ n. effect n k rs o (get_or a.keys k 0)) (sym t.keys.first))
        (concluded_at c call rs o) t.keys;
  }

  same_key : (r : Reference) → Keeps p q r → SameKey a.keys c.keys r
  same_key (fetched x n) h = tt
  same_key (consulted ForProtection k) h = (t.keys.like_mine k h.consults.keys.0).left
  same_key (consulted Whole k) h = t.keys.mine k h.reads_bit
  same_key (wrote x n) h = tt
  same_key (key_set k) h = tt

  agrees : (r : Reference) → Keeps p q r → Agree a c r
  agrees r h = record {
    bytes = all_map (λ x. q.bytes x → ⊥) (λ x. get_or c.storage x 0 ≡ get_or a.storage x 0)
        (λ x n. t.bytes.mine x (λ y. n y.0)) (bytes_of r) h.consults.bytes;
    keys = same_key r h;
  }

  -- what is read is part of what the call refers to
  reads : (P : Reference → Type 0) (call : Call) (rs : List Reference) (o : Outcome Completion)
      → All P (conclude a call rs o).references → All P rs
  reads P call rs (ended e) h = h
  reads P call rs (gave k) h = all_left P rs (map entry k.writes) h

  same_answer : (call : Call) (rs : List Reference) (o : Outcome Completion)
      → (conclude c call rs o).answer ≡ (conclude a call rs o).answer
  same_answer call rs (ended e) = refl
  same_answer call rs (gave k) = refl

  module _ (x : Call) (h : All (Keeps p q) (attempt a x).references) where
    same_reading : reading c x ≡ reading a x
    same_reading =
        ap (λ l. run (program l (length c.keys) x) c) t.bytes.first
        ∙ ap (λ l. run (program (length a.storage) l x) c) t.keys.first
        ∙ local (program (length a.storage) (length a.keys) x) a c
        (record { storage = t.bytes.first; keys = t.keys.first })
        (all_map (Keeps p q) (Agree a c) agrees (reading a x).references
        (reads (Keeps p q) x (reading a x).references (reading a x).outcome h))

    -- so the attempt beside the other guest is the one alone, concluded there
    same_attempt : attempt c x ≡ conclude c x (reading a x).references (reading a x).outcome
    same_attempt = ap (λ r. conclude c x r.references r.outcome) same_reading

    call_answer : (attempt c x).answer ≡ (attempt a x).answer
    call_answer = rw same_attempt (same_answer x (reading a x).references (reading a x).outcome)

    call_together : Together p q (attempt a x).after b (attempt c x).after
    call_together = rw same_attempt (concluded_together x (reading a x).references (reading a x).outcome h)

-- ---- every order

record Ends (p q : Part) (a b c : Machine) (us vs ws : List Call) (i : Interleaving us vs ws) : Type 0 where
  answered : answers c ws ≡ arrange i (answers a us) (answers b vs)
  together : Together p q (left a us) (left b vs) (left c ws)

every : (p q : Part) → WholeBlocks p → WholeBlocks q → (a b c : Machine) {us vs ws : List Call}
    (i : Interleaving us vs ws) → Together p q a b c → All (Keeps p q) (references a us)
    → All (Keeps q p) (references b vs) → Ends p q a b c us vs ws i
every p q wp wq a b c over t h k = record { answered = refl; together = t }
every p q wp wq a b c (one {c = x} {us = us} i) t h k =
    let rs = (attempt a x).references in
    let later = references (attempt a x).after us in
    let now = all_left (Keeps p q) rs later h in
    let r = every p q wp wq (attempt a x).after b (attempt c x).after i (call_together p q wp wq a b c t x now)
    (all_right (Keeps p q) rs later h) k in
    record { answered = λ j. call_answer p q wp wq a b c t x now j ∷ r.answered j; together = r.together }
every p q wp wq a b c (two {c = x} {vs = vs} i) t h k =
    let rs = (attempt b x).references in
    let later = references (attempt b x).after vs in
    let now = all_left (Keeps q p) rs later k in
    let t' = turned p q a b c t in
    let b' = (attempt b x).after in
    let c' = (attempt c x).after in
    let r = every p q wp wq a b' c' i (turned q p b' a c' (call_together q p wq wp b a c t' x now)) h
    (all_right (Keeps q p) rs later k) in
    record { answered = λ j. call_answer q p wq wp b a c t' x now j ∷ r.answered j; together = r.together }

-- ---- a list alone: its reference bits outside its part

module _ (p q : Part) (wp : WholeBlocks p) (wq : WholeBlocks q) where
  bit_alone : (m : Machine) (us : List Call) → All (Keeps p q) (references m us) → (k : ℕ) → (p.keys k → ⊥)
      → ltb k (length m.keys) ≡ true
      → is_referred (get_or (left m us).keys k 0) ≡ (is_referred (get_or m.keys k 0) || touched k (references m us))
  bit_alone m [] h k n l = sym (or-false (is_referred (get_or m.keys k 0)))
  bit_alone m (x ∷ us) h k n l =
      let rs = (attempt m x).references in
      let m' = (attempt m x).after in
      let later = references m' us in
      let made = (reading m x).references in
      let o = (reading m x).outcome in
      let old = is_referred (get_or m.keys k 0) in
      let size = concluded_length m x made o in
      let acts = acts_effect p q wp wq (length m.keys) k m x made o (all_left (Keeps p q) rs later h) in
      bit_alone m' us (all_right (Keeps p q) rs later h) k n (subst (λ z. ltb k z ≡ true) (sym size) l)
      ∙ ap (λ z. z || touched k later)
      (ap is_referred (concluded_at m x made o k) ∙ acts.reference_bit l n (get_or m.keys k 0))
      ∙ or_assoc old (touched k rs) (touched k later)
      ∙ ap (λ z. old || z) (sym (touched_append k rs later))

-- beside none: what a list leaves outside its part
beside_none : (us : List Call) → Interleaving us [] us
beside_none [] = over
beside_none (c ∷ us) = one (beside_none us)

joined : (x y z : Bool) → ((x || y) || (x || z)) ≡ ((x || y) || z)
joined true y z = refl
joined false y z = refl

pub guests_isolated : GuestsIsolated
guests_isolated p q wp wq m us vs ws order h k =
    let e = every p q wp wq m m m order (start p q m) h k in
    let t = e.together in
    let alone = (every p q wp wq m m m (beside_none us) (start p q m) h tt).together in
    record {
      answer = e.answered;
      first = record { bytes = λ x y. t.bytes.mine x (λ z. z.1 y); keys = t.keys.mine };
      second = record { bytes = λ x y. t.bytes.yours x (λ z. z.1 y); keys = t.keys.yours };
      bytes = λ x n. t.bytes.mine x (λ z. n.1 z.0) ∙ alone.bytes.yours x (λ z. n.0 z.0);
      keys = λ x n.
          same_trans (get_or m.keys x 0) (get_or (left m us).keys x 0) (get_or (left m ws).keys x 0)
          (alone.keys.like_yours x n.0) (t.keys.like_mine x n.1);
      reference_bit = λ x n l.
          let there = lt-ltb x (length m.keys) l in
          let size = t.keys.first ∙ alone.keys.second in
          let old = is_referred (get_or m.keys x 0) in
          t.keys.reference_bit x (subst (λ z. ltb x z ≡ true) (sym size) there) n.0 n.1
          ∙ ap (λ z. z || is_referred (get_or (left m vs).keys x 0)) (bit_alone p q wp wq m us h x n.0 there)
          ∙ ap (λ z. (old || touched x (references m us)) || z) (bit_alone q p wq wp m vs k x n.1 there)
          ∙ joined old (touched x (references m us)) (touched x (references m vs));
      sizes = record {
        storage = t.bytes.first ∙ alone.bytes.second;
        keys = t.keys.first ∙ alone.keys.second;
      };
    }
