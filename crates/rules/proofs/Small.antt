-- The numbers of an attempt's answer are small: demand 1 lists every number, code and step.
use Rattle.std.proofs.Common.{
  ◌≡◌,
  ℕ,
  ◌^◌,
  ◌<◌,
  Bool,
  true,
  false,
  cond,
  ◌&&◌,
  ◌||◌,
  eqb,
  ltb,
  List,
  [],
  ◌∷◌,
  sym,
  refl,
  ⊎_elim,
  true≢false,
  arith,
  ltb-true,
  eqb-true,
}
use Rattle.operations.proofs.Junctions.{both_true, either_true}
use Rattle.rules.specs.Endings.{Ending, numbers}
use Rattle.rules.specs.Theorems.Answers.{Line, table, among, listed, Possible}

-- each number of a list is below 256, and each number and code of a table
abbrev below : List ℕ → Bool
below [] = true
below (x ∷ xs) = ltb x 256 && below xs

abbrev small : List Line → Bool
small [] = true
small (l ∷ ls) = ltb l.number 256 && (below l.codes && small ls)

among_below : (xs : List ℕ) (n : ℕ) → below xs ≡ true → among xs n ≡ true → n < 256
among_below [] n h k = absurd (true≢false (sym k))
among_below (x ∷ xs) n h k =
    let b = both_true (ltb x 256) (below xs) h in
    ⊎_elim (λ e. let e = eqb-true x n e in let l = ltb-true x 256 b.0 in omega arith) (among_below xs n b.1)
    (either_true (eqb x n) (among xs n) k)

listed_small : (ls : List Line) (number code : ℕ) → small ls ≡ true → listed ls number code ≡ true
    → (number < 256) × (code < 256)
listed_small [] number code h k = absurd (true≢false (sym k))
listed_small (l ∷ ls) number code h k =
    let b = both_true (ltb l.number 256) (below l.codes && small ls) h in
    let d = both_true (below l.codes) (small ls) b.1 in
    ⊎_elim
    (λ e. let f = both_true (eqb l.number number) (among l.codes code) e in
    let g = eqb-true l.number number f.0 in
    let i = ltb-true l.number 256 b.0 in
    (omega arith, among_below l.codes code d.0 f.1))
    (listed_small ls number code d.1)
    (either_true (eqb l.number number && among l.codes code) (listed ls number code) k)

small_cond : (b : Bool) (x y : List Line) → small x ≡ true → small y ≡ true → small (cond b x y) ≡ true
small_cond true x y h k = h
small_cond false x y h k = k

table_small : (op : ℕ) → small (table op) ≡ true
table_small op =
    small_cond (eqb op 0x80) _ _ refl
    (small_cond (eqb op 0xb6) _ _ refl
    (small_cond (eqb op 0xac || eqb op 0xad) _ _ refl
    (small_cond (eqb op 0x08) _ _ refl
    (small_cond (eqb op 0x09) _ _ refl
    (small_cond (eqb op 0xb213) _ _ refl
    (small_cond (eqb op 0xb1) _ _ refl refl))))))

pub record Small (e : Ending) : Type 0 where
  pub number : (numbers e).number < 2 ^ 8
  pub code : (numbers e).code < 2 ^ 8
  pub address : (numbers e).address < 2 ^ 24

pub answer_small : (op : ℕ) (e : Ending) → Possible op e → Small e
answer_small op e p =
    let l = listed_small (table op) (numbers e).number (numbers e).code (table_small op) p.in_table in
    record { number = l.0; code = l.1; address = p.logical }
