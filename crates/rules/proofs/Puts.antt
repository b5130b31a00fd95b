-- Values put at places of a list, one after the other: what a list of writes does to storage.
use Rattle.std.proofs.Common.{
  ◌≡◌,
  ℕ,
  ◌<◌,
  ◌≤◌,
  Bool,
  true,
  false,
  cond,
  ◌&&◌,
  eqb,
  ltb,
  List,
  [],
  ◌∷◌,
  ◌++◌,
  length,
  get_or,
  set,
  sym,
  refl,
  ap,
  ◌∙◌,
  subst,
  length-set,
  get_or-set_other,
  get_or-set_same,
  ltb-false,
  ltb-true,
  eqb-true,
}
use lib.Seq.{set_out}
use borrow.Author.Tests.{eqb-false}
use Rattle.rules.specs.Machine.{Machine, addresses, byte_of, stored}
use Rattle.rules.specs.Writes.{Write, store, set_key, perform, perform_all}
use Rattle.rules.specs.Theorems.Isolation.{All}

pub record Put : Type 0 where
  pub place : ℕ
  pub value : ℕ

abbrev pub puts : List ℕ → List Put → List ℕ
puts s [] = s
puts s (x ∷ xs) = puts (set s x.place x.value) xs

pub puts_append : (s : List ℕ) (xs ys : List Put) → puts s (xs ++ ys) ≡ puts (puts s xs) ys
puts_append s [] ys = refl
puts_append s (x ∷ xs) ys = puts_append (set s x.place x.value) xs ys

pub length_puts : (s : List ℕ) (xs : List Put) → length (puts s xs) ≡ length s
length_puts s [] = refl
length_puts s (x ∷ xs) = length_puts (set s x.place x.value) xs ∙ length-set s x.place x.value

-- place a, of so many, is set where i is a
pub set_at : (s : List ℕ) (i v a : ℕ) → get_or (set s i v) a 0 ≡ cond (eqb i a && ltb a (length s)) v (get_or s a 0)
set_at s i v a = go (eqb i a) (ltb a (length s)) refl refl
  where
    go : (b c : Bool) → eqb i a ≡ b → ltb a (length s) ≡ c → get_or (set s i v) a 0 ≡ cond (b && c) v (get_or s a 0)
    go true true e l =
        let inside : i < length s = subst (λ j. j < length s) (sym (eqb-true i a e)) (ltb-true a (length s) l) in
        subst (λ j. get_or (set s i v) j 0 ≡ v) (eqb-true i a e) (get_or-set_same s i v 0 inside)
    go true false e l =
        let outside : length s ≤ i = subst (λ j. length s ≤ j) (sym (eqb-true i a e)) (ltb-false a (length s) l) in
        ap (λ t. get_or t a 0) (set_out s i v outside)
    go false c e l = get_or-set_other s i a v 0 (λ h. eqb-false i a e (sym h))

set_both : (s s' : List ℕ) (i v a : ℕ) → length s' ≡ length s → get_or s' a 0 ≡ get_or s a 0
    → get_or (set s' i v) a 0 ≡ get_or (set s i v) a 0
set_both s s' i v a l h =
    set_at s' i v a
    ∙ ap (λ n. cond (eqb i a && ltb a n) v (get_or s' a 0)) l
    ∙ ap (cond (eqb i a && ltb a (length s)) v) h
    ∙ sym (set_at s i v a)

-- put into two lists of one length that hold the same at a place
pub puts_both : (s s' : List ℕ) (xs : List Put) (a : ℕ) → length s' ≡ length s → get_or s' a 0 ≡ get_or s a 0
    → get_or (puts s' xs) a 0 ≡ get_or (puts s xs) a 0
puts_both s s' [] a l h = h
puts_both s s' (x ∷ xs) a l h =
    puts_both (set s x.place x.value) (set s' x.place x.value) xs a
    (length-set s' x.place x.value ∙ l ∙ sym (length-set s x.place x.value))
    (set_both s s' x.place x.value a l h)

-- put at places that all have P: a place that has not is left as it was
pub puts_other : (P : ℕ → Type 0) (s : List ℕ) (xs : List Put) (a : ℕ) → All (λ x. P x.place) xs → (P a → ⊥)
    → get_or (puts s xs) a 0 ≡ get_or s a 0
puts_other P s [] a h n = refl
puts_other P s (x ∷ xs) a h n =
    puts_other P (set s x.place x.value) xs a h.1 n
    ∙ get_or-set_other s x.place a x.value 0 (λ e. n (subst P (sym e) h.0))

-- ---- a list of writes

abbrev pub bytes_put : (at : List ℕ) (v : ℕ) → List Put
bytes_put [] v = []
bytes_put (a ∷ rest) v = record { place = a; value = byte_of (length rest) v } ∷ bytes_put rest v

stored_puts : (s at : List ℕ) (v : ℕ) → stored s at v ≡ puts s (bytes_put at v)
stored_puts s [] v = refl
stored_puts s (a ∷ rest) v = stored_puts (set s a (byte_of (length rest) v)) rest v

abbrev pub in_storage : List Write → List Put
in_storage [] = []
in_storage (store a n v ∷ ws) = bytes_put (addresses a n) v ++ in_storage ws
in_storage (set_key b v ∷ ws) = in_storage ws

pub performed_storage : (m : Machine) (ws : List Write) → (perform_all m ws).storage ≡ puts m.storage (in_storage ws)
performed_storage m [] = refl
performed_storage m (store a n v ∷ ws) =
    performed_storage (perform m (store a n v)) ws
    ∙ ap (λ s. puts s (in_storage ws)) (stored_puts m.storage (addresses a n) v)
    ∙ sym (puts_append m.storage (bytes_put (addresses a n) v) (in_storage ws))
performed_storage m (set_key b v ∷ ws) = performed_storage (perform m (set_key b v)) ws
