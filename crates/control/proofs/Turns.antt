-- Words gathered one after the other: the loop, and what its answer says to the stage that asked for them.
use Rattle.std.proofs.Common.{
  ◌≡◌,
  ℕ,
  suc,
  ◌+◌,
  ◌-◌,
  ◌<◌,
  ◌≤◌,
  List,
  [],
  ◌∷◌,
  ◌++◌,
  length,
  take,
  set,
  Ok,
  Err,
  IsErrAnd,
  refl,
  sym,
  ap,
  ◌∙◌,
  arith,
}
use Rattle.std.proofs.lemmas.Result.{err_from_is_err_and}
use native.Mathlib.Numerals.{add-one}
use native.Mathlib.Nat.{sub_self, sub-zero}
use lib.ListN.{length-set}
use lib.Seq.{take-suc-set}
use Rattle.rules.specs.declared.endings.Ending.{Ending}
use Rattle.rules.specs.Machine.{Machine}
use Rattle.rules.specs.Steps.{Steps, ◌>>=◌}
use Rattle.rules.specs.StoreControl.{gather}
use Rattle.storage.specs.declared.steps.Counted.{Counted}
use Rattle.storage.specs.Answers.{Step, machine, told, went, seen, later}
use Rattle.storage.proofs.Laws.{Runs, begin, settles}
use Rattle.storage.proofs.Stages.{Asked, asks_after, handed}
use Rattle.control.specs.Gathered.{first_words}

-- ---- the loop

-- its invariant: the first i words are there, and the others are to come, from x on
pub record Gathering (p : ℕ → Steps ℕ) (next : ℕ → ℕ) (t : Steps (List ℕ)) (n : ℕ) (storage keys₀ keys words : List ℕ)
    (count x i : ℕ) : Type 0 where
  pub within : i ≤ n
  pub room : length words ≡ 16
  pub kept : length keys ≡ length keys₀
  pub runs : Runs (machine storage keys₀) t count (machine storage keys) (gather p next (take i words) x (n - i))

pub gathering_none : (p : ℕ → Steps ℕ) (next : ℕ → ℕ) (x n : ℕ) (s ks words : List ℕ) → length words ≡ 16
    → Gathering p next (gather p next [] x n) n s ks ks words 0 x 0
gathering_none p next x n s ks words h = record {
  within = omega arith;
  room = h;
  kept = refl;
  runs = simp sub-zero (begin (machine s ks) (gather p next [] x n));
}

module _ (p : ℕ → Steps ℕ) (next : ℕ → ℕ) {t : Steps (List ℕ)} {n : ℕ} {s ks₀ ks words : List ℕ} {c x i : ℕ}
    (g : Gathering p next t n s ks₀ ks words c x i) where
  -- one step more is wanted
  pub wanted : i < n
      → Runs (machine s ks₀) t c (machine s ks)
      (p x >>= λ v. gather p next (take i words ++ v ∷ []) (next x) (n - (i + 1)))
  unfolding gather
  wanted inside = let e : n - i ≡ suc (n - (i + 1)) = omega arith in rw e at g.runs

  -- it was asked, and its answer told after the references before it
  abbrev pub asked_turn : i < n → (r r' : Step ℕ) (s' ks' : List ℕ) → r' ≡ later c r
      → told r s' ks' ≡ seen (p x) (machine s ks)
      → Asked {S = Unit {0}} (λ u. machine s ks₀) (λ u. t) ℕ
  asked_turn inside r r' s' ks' e f = asks_after tt _ _ (wanted inside) r r' s' ks' e f

  -- and was made
  pub gathering_more : {ks' : List ℕ} {d : ℕ} (v y : ℕ) → i < n → n ≤ 16 → length ks' ≡ length ks
      → Runs (machine s ks₀) t d (machine s ks') (gather p next (take i words ++ v ∷ []) y (n - (i + 1)))
      → Gathering p next t n s ks₀ ks' (set words i v) d y (i + 1)
  gathering_more v y inside small e h =
      let room = g.room in
      let l : take i words ++ v ∷ [] ≡ take (i + 1) (set words i v) =
      rw add-one (sym (take-suc-set words i v (omega arith))) in
      record { within = omega arith; room = simp length-set room; kept = e ∙ g.kept; runs = rw l at h }

  -- no more are wanted
  pub gathering_all : n ≤ i → went (take n words) c (machine s ks) ≡ seen t (machine s ks₀)
  unfolding gather
  gathering_all l =
      let w = g.within in let e : i ≡ n = omega arith in settles _ (rw (e, sub_self) at g.runs)

-- a step ended, and with it the loop
pub gathering_ended : {S : Type 0} {entry : S → Machine} {stage : S → Steps (List ℕ)} (a : Asked entry stage ℕ) (n : ℕ)
    {x : Counted Ending} (out : Step (List ℕ)) → a.answer ≡ Err x → IsErrAnd out (λ y. y ≡ x)
    → told (first_words n out) a.storage a.keys ≡ seen (stage a.start) (entry a.start)
gathering_ended a n out e f =
    let p = err_from_is_err_and out f in
    ap (λ y. told (first_words n y) a.storage a.keys) p.1
    ∙ sym (ap (λ y. told y a.storage a.keys) p.1) ∙ handed a out e f

-- ---- the stage that asked for the words

pub first_later : (n c : ℕ) (r : Step (List ℕ)) → first_words n (later c r) ≡ later c (first_words n r)
first_later n c (Ok words) = refl
first_later n c (Err e) = refl
