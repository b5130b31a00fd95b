-- A run, step by step: what the code's answers, and the machine that each call leaves, say of a reading program.
use Rattle.std.proofs.Common.{◌≡◌, ℕ, ◌+◌, ◌%◌, ◌^◌, ◌<◌, Bool, true, false, List, length, Ok, Err}
use Rattle.std.proofs.Common.{sym, refl, ap, ◌∙◌, subst, arith}
use Rattle.rules.specs.declared.endings.Ending.{Ending}
use Rattle.rules.specs.declared.record_change.RecordChange.{RecordChange}
use Rattle.rules.specs.declared.record_change.RecordChange.TheVariants.{Unchanged}
use Rattle.rules.specs.Endings.{refuse}
use Rattle.rules.specs.Machine.{Machine}
use Rattle.rules.specs.Writes.{Write, perform_all}
use Rattle.rules.specs.Steps.{Steps, done, stop, branch, ◌>>=◌, stop_if, ending_as}
use Rattle.rules.specs.Call.{Completion, complete_as, complete}
use Rattle.rules.specs.Recording.{noted_all}
use Rattle.rules.specs.Run.{Outcome, ended, gave, View, view}
use Rattle.rules.proofs.Bind.{following, view_bind, ended_as, run_ending_as}
use Rattle.rules.proofs.Gives.{Gives, IfGave, run_gives}
use Rattle.storage.specs.Answers.{machine, went, over, Step, counted, told, seen, later, refused, Finished, finished, finish, completion_as, completion}

-- after n references more
abbrev pub more : {A : Type 0} → ℕ → View A → View A
more n x = record { outcome = x.outcome; count = (n + x.count) % 2 ^ 32; left = x.left }

-- from t on m, after n references, u on m' is what is left
pub record Runs {A : Type 0} (m : Machine) (t : Steps A) (n : ℕ) (m' : Machine) (u : Steps A) : Type 0 where
  pub so : seen t m ≡ more n (seen u m')
  pub small : n < 2 ^ 32

abbrev recounted : {A : Type 0} → View A → ℕ → View A
recounted x n = record { outcome = x.outcome; count = n; left = x.left }

more_zero : {A : Type 0} (p : Steps A) (m : Machine) → seen p m ≡ more 0 (seen p m)
unfolding seen
more_zero p m =
    let c = (view p m).count in
    ap (recounted (seen p m)) (let e : c % 2 ^ 32 ≡ (0 + c % 2 ^ 32) % 2 ^ 32 = omega arith in e)

pub begin : {A : Type 0} → (m : Machine) (t : Steps A) → Runs m t 0 m t
begin m t = record { so = more_zero t m; small = omega arith }

-- ---- what a call's answer says

pub fresh : {A : Type 0} (p : Steps A) (m : Machine) {x : View A} → x ≡ seen p m → x ≡ more 0 (seen p m)
fresh p m f = f ∙ more_zero p m

told_later : {A : Type 0} (n : ℕ) (r : Step A) (s ks : List ℕ) → told (later n r) s ks ≡ more n (told r s ks)
told_later n (Ok x) s ks = refl
told_later n (Err e) s ks = refl

pub waited : {A : Type 0} (r r' : Step A) (n : ℕ) (s ks : List ℕ) (p : Steps A) (m : Machine) → r' ≡ later n r
    → told r s ks ≡ seen p m → told r' s ks ≡ more n (seen p m)
waited r r' n s ks p m e f = ap (λ x. told x s ks) e ∙ told_later n r s ks ∙ ap (more n) f

-- what p gave has what all that it gives has: so the answer of a fetch says that what was fetched is there
pub gave_only : {A : Type 0} (Q : A → Type 0) (p : Steps A) (m : Machine) (n : ℕ) {v : A} {c : ℕ} {l : Machine}
    → went v c l ≡ more n (seen p m) → Gives (length m.storage) (length m.keys) Q p → Q v
unfolding seen
gave_only Q p m n f h =
    subst (IfGave Q) (sym (ap (λ x. x.outcome) f)) (run_gives Q p m (length m.keys) refl h)

-- every ending refused
abbrev recast : {A : Type 0} → View A → View A
recast x = record { outcome = ended_as (λ e. refuse) x.outcome; count = x.count; left = x.left }

told_refused : {A : Type 0} (r : Step A) (s ks : List ℕ) → told (refused r) s ks ≡ recast (told r s ks)
told_refused (Ok x) s ks = refl
told_refused (Err e) s ks = refl

pub refuses : {A : Type 0} (r r' : Step A) (s ks : List ℕ) (p : Steps A) (m : Machine)
    → r' ≡ refused r → told r s ks ≡ seen p m → told r' s ks ≡ seen (ending_as (λ e. refuse) p) m
unfolding seen
refuses r r' s ks p m e f =
    ap (λ x. told x s ks) e ∙ told_refused r s ks ∙ ap recast f
    ∙ ap (λ x. record {
      outcome = x.outcome;
      count = length x.references % 2 ^ 32;
      left = noted_all m x.references;
    })
    (sym (run_ending_as (λ e. refuse) p m))

-- ---- the steps

-- what came out of p, and then what k makes of it
abbrev pursued : {A B : Type 0} → Outcome A → ℕ → Machine → (A → Steps B) → View B
pursued (ended e) n m k = over e n m
pursued (gave a) n m k = more n (seen (k a) m)

pursued_counted : {A B : Type 0} (o : Outcome A) (n : ℕ) (m : Machine) (k : A → Steps B)
    → let x = following o n m (λ a l. view (k a) l) in recounted x (x.count % 2 ^ 32) ≡ pursued o (n % 2 ^ 32) m k
unfolding seen
pursued_counted (ended e) n m k = refl
pursued_counted (gave a) n m k =
    let c = (view (k a) m).count in
    ap (recounted (seen (k a) m)) (let e : (n + c) % 2 ^ 32 ≡ (n % 2 ^ 32 + c % 2 ^ 32) % 2 ^ 32 = omega arith in e)

more_pursued : {A B : Type 0} (n : ℕ) (o : Outcome A) (c : ℕ) (m : Machine) (k : A → Steps B)
    → more n (pursued o c m k) ≡ pursued o ((n + c) % 2 ^ 32) m k
unfolding seen
more_pursued n (ended e) c m k = refl
more_pursued n (gave a) c m k =
    let d = (seen (k a) m).count in
    ap (recounted (seen (k a) m))
    (let e : (n + (c + d) % 2 ^ 32) % 2 ^ 32 ≡ ((n + c) % 2 ^ 32 + d) % 2 ^ 32 = omega arith in e)

fits : {A : Type 0} (n : ℕ) (x y : View A) → x ≡ more n y → x.count < 2 ^ 32
fits n x y f = let e = ap (λ z. z.count) f in omega arith

module _ {A : Type 0} {m m' : Machine} {t : Steps A} {n : ℕ} where
  bound : {B : Type 0} (p : Steps B) (k : B → Steps A) (x : View B) → Runs m t n m' (p >>= k)
      → x ≡ more n (seen p m') → seen t m ≡ pursued x.outcome x.count x.left k
  unfolding seen
  bound p k x h f =
      h.so
      ∙ ap (λ y. more n (recounted y (y.count % 2 ^ 32))) (view_bind p k m')
      ∙ ap (more n) (pursued_counted (view p m').outcome (view p m').count (view p m').left k)
      ∙ more_pursued n (view p m').outcome ((view p m').count % 2 ^ 32) (view p m').left k
      ∙ ap (λ y. pursued y.outcome y.count y.left k) (sym f)

  -- p gives a value, and k goes on with it
  pub goes : {B : Type 0} (p : Steps B) (k : B → Steps A) {v : B} {c : ℕ} {l : Machine} → Runs m t n m' (p >>= k)
      → went v c l ≡ more n (seen p m') → Runs m t c l (k v)
  goes p k {v} {c} {l} h f = record { so = bound p k (went v c l) h f; small = fits n (went v c l) (seen p m') f }

  -- p ends, and with it the whole
  pub ends : {B : Type 0} (p : Steps B) (k : B → Steps A) {e : Ending} {c : ℕ} {l : Machine} → Runs m t n m' (p >>= k)
      → over e c l ≡ more n (seen p m') → over e c l ≡ seen t m
  ends p k {e} {c} {l} h f = sym (bound p k (over e c l) h f)

  -- a test that passes, and one that stops
  pub pass : (b : Bool) (e : Ending) (k : Unit {0} → Steps A) → Runs m t n m' (stop_if b e >>= k) → b ≡ false
      → Runs m t n m' (k tt)
  unfolding seen stop_if ◌>>=◌
  pass b e k h f = record { so = h.so ∙ ap (λ b. more n (seen (stop_if b e >>= k) m')) f; small = h.small }

  pub stops : (b : Bool) (e : Ending) (k : Unit {0} → Steps A) → Runs m t n m' (stop_if b e >>= k) → b ≡ true
      → over e n m' ≡ seen t m
  unfolding seen stop_if ◌>>=◌
  stops b e k h f =
      let small = h.small in
      sym (h.so ∙ ap (λ b. more n (seen (stop_if b e >>= k) m')) f
      ∙ ap (λ c. over e c m') (let z : (n + 0 % 2 ^ 32) % 2 ^ 32 ≡ n = omega arith in z))

  -- a choice
  pub chosen : (b : Bool) (p q : Steps A) → Runs m t n m' (branch b p q) → b ≡ true → Runs m t n m' p
  unfolding seen
  chosen b p q h f = record { so = h.so ∙ ap (λ b. more n (seen (branch b p q) m')) f; small = h.small }

  pub rejected : (b : Bool) (p q : Steps A) → Runs m t n m' (branch b p q) → b ≡ false → Runs m t n m' q
  unfolding seen
  rejected b p q h f = record { so = h.so ∙ ap (λ b. more n (seen (branch b p q) m')) f; small = h.small }

  -- nothing is left to do
  pub settles : (a : A) → Runs m t n m' (done a) → went a n m' ≡ seen t m
  unfolding seen
  settles a h =
      let small = h.small in
      sym (h.so ∙ ap (λ c. went a c m') (let z : (n + 0 % 2 ^ 32) % 2 ^ 32 ≡ n = omega arith in z))

  -- the program stops
  pub halts : (e : Ending) → Runs m t n m' (stop e) → over e n m' ≡ seen t m
  unfolding seen
  halts e h =
      let small = h.small in
      sym (h.so ∙ ap (λ c. over e c m') (let z : (n + 0 % 2 ^ 32) % 2 ^ 32 ≡ n = omega arith in z))

-- ---- the last step, before which no reference was made: its answer is the stage's

pub last : {A : Type 0} {m m' : Machine} {t u : Steps A} → Runs m t 0 m' u → {x : View A} → x ≡ seen u m' → x ≡ seen t m
last {m' = m'} {u = u} h f = fresh u m' f ∙ sym h.so

-- ---- the last step: its answer, told after the references before it, is the stage's

pub last_after : {A : Type 0} {m m' : Machine} {t : Steps A} {n : ℕ} {p : Steps A} → Runs m t n m' p → (r r' : Step A)
    (s ks : List ℕ) → r' ≡ later n r → told r s ks ≡ seen p m' → told r' s ks ≡ seen t m
last_after {m' = m'} {n = n} {p = p} h r r' s ks e f = waited r r' n s ks p m' e f ∙ sym h.so

-- ---- an instruction's answer

-- an ending is told as an instruction's answer, and finishes it
pub over_finished : {v : View Completion} {e : Ending} {c : ℕ} (s ks : List ℕ) → over e c (machine s ks) ≡ v
    → finished (Err (counted e c)) s ks ≡ finish v
over_finished s ks f = ap finish f

-- the writes were made, and this is changed in the record
pub completes_as : {m m' : Machine} {t : Steps Completion} {n : ℕ} (change : RecordChange) {x : Step RecordChange}
    (s ks : List ℕ) (ws : List Write) → Runs m t n m' (complete_as change ws) → x ≡ completion_as change n (length ws)
    → machine s ks ≡ perform_all m' ws → finished x s ks ≡ finish (seen t m)
unfolding complete_as
completes_as {m} {m'} {t} {n} change s ks ws runs a b =
    ap (λ y. finished y s ks) a
    ∙ ap (λ l. record { answer = completion_as change n (length ws); after = l }) b
    ∙ ap finish (settles (record { change = change; writes = ws }) runs)

-- and where that is nothing
pub completes : {m m' : Machine} {t : Steps Completion} {n : ℕ} {x : Step RecordChange} (s ks : List ℕ)
    (ws : List Write) → Runs m t n m' (complete ws) → x ≡ completion n (length ws) → machine s ks ≡ perform_all m' ws
    → finished x s ks ≡ finish (seen t m)
completes = completes_as Unchanged

-- a later stage's answer handed on
abbrev deferred : ℕ → Finished → Finished
deferred n f = record { answer = later n f.answer; after = f.after }

finish_more : (n : ℕ) (v : View Completion) → finish (more n v) ≡ deferred n (finish v)
finish_more n v = go v.outcome v.count v.left
  where
    go : (o : Outcome Completion) (i : ℕ) (l : Machine)
        → let v : View Completion = record { outcome = o; count = i; left = l } in
        finish (more n v) ≡ deferred n (finish v)
    go (ended e) i l = refl
    go (gave k) i l =
        ap (λ z. record { answer = Ok (counted k.change z); after = perform_all l k.writes })
        (let z : ((n + i) % 2 ^ 32 + length k.writes) % 2 ^ 32 ≡ (n + (i + length k.writes) % 2 ^ 32) % 2 ^ 32 =
        omega arith in z)

pub finishes : {m m' : Machine} {t u : Steps Completion} {n : ℕ} {x y : Step RecordChange} (s ks : List ℕ)
    → Runs m t n m' u → y ≡ later n x → finished x s ks ≡ finish (seen u m')
    → finished y s ks ≡ finish (seen t m)
finishes {m} {m'} {t} {u} {n} s ks h a f =
    ap (λ y. finished y s ks) a ∙ ap (deferred n) f ∙ sym (finish_more n (seen u m')) ∙ ap finish (sym h.so)

-- and one that goes on before any reference
pub continues : {m m' : Machine} {t u : Steps Completion} {x : Step RecordChange} (s ks : List ℕ) → Runs m t 0 m' u
    → finished x s ks ≡ finish (seen u m') → finished x s ks ≡ finish (seen t m)
continues {m} {m'} {t} {u} s ks h f = f ∙ ap finish (more_zero u m' ∙ sym h.so)
