-- Walks beside the reading program: what `Stages` of the storage crate has for a step, here for a walk.
use Rattle.std.proofs.Common.{◌≡◌, ℕ, ◌+◌, ◌%◌, ◌^◌, true≢false, sym, refl, ap, ◌∙◌, arith}
use Rattle.std.proofs.Common.{List, Option, Some, None, Ok, Err, IsErrAnd, is_ok}
use Rattle.std.proofs.lemmas.Result.{err_from_is_err_and}
use mathlib.Core.Path.{fun_ext}
use Rattle.rules.specs.declared.endings.Ending.{Ending}
use Rattle.rules.specs.declared.tables.Format.{Format}
use Rattle.rules.specs.declared.tables.TableFault.{TableFault}
use Rattle.rules.specs.Machine.{Machine}
use Rattle.rules.specs.Steps.{Steps, done, stop, fetch, key, branch, ◌>>=◌}
use Rattle.rules.specs.Translation.{format_of, Walk, found, fault, onward, found_or}
use Rattle.storage.specs.declared.steps.Counted.{Counted}
use Rattle.storage.specs.Answers.{machine, went, over, Step, counted, told, seen, later}
use Rattle.storage.proofs.Laws.{more, Runs, begin, fresh, goes, ends, settles, halts}
use Rattle.storage.proofs.Stages.{Asked, ended}
use Rattle.access.specs.Walks.{WalkEnd, Walked, Ended, Fault, over_walk, told_walk, as_walk, ended_by, formatted}

-- what is made of an entry, after any program that gives it
pub entry_given : (s ks : List ℕ) (p : Steps ℕ) (m : Machine) (x : Counted ℕ) (k : ℕ → Steps Walk)
    → told (Ok x) s ks ≡ seen p m → Runs m (p >>= k) x.count (machine s ks) (k x.value)
entry_given s ks p m x k h = goes p k (begin m _) (fresh p m h)

-- what the `?` hands on is what ended the walk's step
pub walk_handed : (w out : Walked) (s ks : List ℕ) {x : Counted WalkEnd} → w ≡ Err x → IsErrAnd out (λ y. y ≡ x)
    → told_walk out s ks ≡ told_walk w s ks
walk_handed w out s ks e f =
    let p = err_from_is_err_and out f in
    ap (λ y. told_walk y s ks) (p.1 ∙ ap Err p.2 ∙ sym e)

-- the reading of an entry ended the walk
module _ {S : Type 0} {entry : S → Machine} {stage : S → Steps Walk} where
  pub read_handed : (a : Asked entry stage ℕ) (w out : Walked) {x : Counted WalkEnd} → w ≡ as_walk a.answer → w ≡ Err x
      → IsErrAnd out (λ y. y ≡ x) → told_walk out a.storage a.keys ≡ seen (stage a.start) (entry a.start)
  read_handed a w out {x} f e h = walk_handed w out a.storage a.keys e h ∙ go a.answer refl
    where
      go : (r : Step ℕ) → a.answer ≡ r → told_walk w a.storage a.keys ≡ seen (stage a.start) (entry a.start)
      go (Ok v) g = absurd (true≢false (ap is_ok (sym (f ∙ ap as_walk g) ∙ e)))
      go (Err y) g = ap (λ z. told_walk z a.storage a.keys) (f ∙ ap as_walk g) ∙ ended a g

-- and it gave the value
pub read_given : (r : Step ℕ) (w : Walked) {x : Counted ℕ} → w ≡ as_walk r → w ≡ Ok x → r ≡ Ok x
read_given (Ok v) w {x} f e = ap (λ r. elim r as (λ r. Step ℕ) [ Ok y ↦ Ok y | Err y ↦ Ok x ]) (sym f ∙ e)
read_given (Err y) w f e = absurd (true≢false (ap is_ok (sym e ∙ f)))

-- a walk, with the ending that each fault gives
pub walk_ended : (on : TableFault → Ending) (w : Walked) (r : Step ℕ) (s ks : List ℕ) (p : Steps Walk) (m : Machine)
    → r ≡ ended_by on w → told_walk w s ks ≡ seen p m → told r s ks ≡ seen (p >>= found_or on) m
walk_ended on w r s ks p m e h = ap (λ x. told x s ks) e ∙ go w h
  where
    by : (x : WalkEnd) (n : ℕ) → over_walk x n (machine s ks) ≡ seen p m
        → told (ended_by on (Err (counted x n))) s ks ≡ seen (p >>= found_or on) m
    by (Fault x at) n h = halts (on x) (goes p (found_or on) (begin m (p >>= found_or on)) (fresh p m h))
    by (Ended e) n h = ends p (found_or on) (begin m (p >>= found_or on)) (fresh p m h)

    go : (w : Walked) → told_walk w s ks ≡ seen p m → told (ended_by on w) s ks ≡ seen (p >>= found_or on) m
    go (Ok x) h = settles x.value (goes p (found_or on) (begin m (p >>= found_or on)) (fresh p m h))
    go (Err x) h = by x.value x.count h

-- ---- a walk whose faults are endings is its two halves, each with them

pub walk_halves : (on : TableFault → Ending) (next : ℕ → Steps Walk) (p : Steps Walk)
    → ((p >>= onward next) >>= found_or on) ≡ ((p >>= found_or on) >>= λ v. next v >>= found_or on)
unfolding ◌>>=◌
walk_halves on next (done (found v)) = refl
walk_halves on next (done (fault x at)) = refl
walk_halves on next (stop e) = refl
walk_halves on next (fetch a n e k) = ap (fetch a n e) (fun_ext (λ v. walk_halves on next (k v)))
walk_halves on next (key u b e k) = ap (key u b e) (fun_ext (λ v. walk_halves on next (k v)))
walk_halves on next (branch b p q) =
    ap (λ x. branch b x ((q >>= onward next) >>= found_or on)) (walk_halves on next p)
    ∙ ap (branch b ((p >>= found_or on) >>= λ v. next v >>= found_or on)) (walk_halves on next q)

-- ---- the format, after n references

module _ {A : Type 0} {m m' : Machine} {t : Steps A} {n : ℕ} (e : Ending) (cr0 : ℕ) (k : Format → Steps A)
    (h : Runs m t n m' (format_of e cr0 >>= k)) (r : Option Format)
    (so : formatted e r m' ≡ seen (format_of e cr0) m') where
  told_format : {x : Option Format} → r ≡ x → more n (formatted e x m') ≡ more n (seen (format_of e cr0) m')
  told_format q = ap (λ y. more n (formatted e y m')) (sym q) ∙ ap (more n) so

  same : n ≡ (n + 0) % 2 ^ 32
  same = let small = h.small in omega arith

  pub formed : {f : Format} → r ≡ Some f → Runs m t n m' (k f)
  formed {f} q = goes (format_of e cr0) k h (ap (λ c. went f c m') same ∙ told_format q)

  pub unformed : r ≡ None → over e n m' ≡ seen t m
  unformed q = ends (format_of e cr0) k h (ap (λ c. over e c m') same ∙ told_format q)

-- ---- a walk whose first part gave this

told_later : (n : ℕ) (w : Walked) (s ks : List ℕ) → told_walk (later n w) s ks ≡ more n (told_walk w s ks)
told_later n (Ok x) s ks = refl
told_later n (Err x) s ks = by x.value x.count
  where
    by : (e : WalkEnd) (c : ℕ) → over_walk e ((n + c) % 2 ^ 32) (machine s ks) ≡ more n (over_walk e c (machine s ks))
    by (Fault x at) c = refl
    by (Ended e) c = refl

-- a last part's answer, told after the references before it, is the walk's
pub walk_after : {m m' : Machine} {t : Steps Walk} {n : ℕ} (p : Steps Walk) → Runs m t n m' p → (w w' : Walked)
    (s ks : List ℕ) → w' ≡ later n w → told_walk w s ks ≡ seen p m' → told_walk w' s ks ≡ seen t m
walk_after {n = n} p h w w' s ks e f =
    ap (λ x. told_walk x s ks) e ∙ told_later n w s ks ∙ ap (more n) f ∙ sym h.so

module _ (p : Steps Walk) (next : ℕ → Steps Walk) (m : Machine) (w : Walked) (s ks : List ℕ)
    (h : told_walk w s ks ≡ seen p m) where
  gave : {v : Walked} → w ≡ v → told_walk v s ks ≡ more 0 (seen p m)
  gave e = ap (λ x. told_walk x s ks) (sym e) ∙ fresh p m h

  -- it goes on with what was found
  pub went_on : {x : Counted ℕ} → w ≡ Ok x → Runs m (p >>= onward next) x.count (machine s ks) (next x.value)
  went_on e = goes p (onward next) (begin m (p >>= onward next)) (gave e)

  -- it ends with what is wrong, or with an ending
  pub stopped_short : {x : Counted WalkEnd} (out : Walked) → w ≡ Err x → IsErrAnd out (λ y. y ≡ x)
      → told_walk out s ks ≡ seen (p >>= onward next) m
  stopped_short {x} out e f = walk_handed w out s ks e f ∙ ap (λ y. told_walk y s ks) e ∙ by x.value x.count (gave e)
    where
      by : (x : WalkEnd) (n : ℕ) → over_walk x n (machine s ks) ≡ more 0 (seen p m)
          → over_walk x n (machine s ks) ≡ seen (p >>= onward next) m
      by (Fault x at) n g = settles (fault x at) (goes p (onward next) (begin m (p >>= onward next)) g)
      by (Ended e) n g = ends p (onward next) (begin m (p >>= onward next)) g
