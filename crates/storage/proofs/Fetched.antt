-- A fetch answers as the item was found, and is recorded where it was.
use Rattle.std.proofs.Common.{◌≡◌, ℕ, ◌%◌, ◌^◌, Bool, true, false, cond, List, length, Option, Some, None, refl, ap, ◌∙◌}
use Rattle.rules.specs.declared.endings.Ending.{Ending}
use Rattle.rules.specs.Machine.{Machine, has, value}
use Rattle.rules.specs.References.{fetched}
use Rattle.rules.specs.Recording.{recorded, noted, noted_all}
use Rattle.rules.specs.Steps.{done, fetch_bytes}
use Rattle.rules.specs.Run.{View, item, run}
use Rattle.storage.specs.Items.{item_at}
use Rattle.storage.specs.Answers.{machine, went, over, told, seen, fetched_as}

-- what was found, and the machine where it was there; else the machine as it was
abbrev answered : Option ℕ → Ending → (there before : Machine) → View ℕ
answered None e m m' = over e 0 m'
answered (Some v) e m m' = went v 1 m

module _ (s ks : List ℕ) (a n : ℕ) (e : Ending) where
  abbrev before : Machine
  before = machine s ks

  abbrev after : Machine
  after = noted before (fetched a n)

  seen_found : answered (item_at s a n) e after before ≡ seen (fetch_bytes a n e) before
  unfolding item_at fetch_bytes seen
  seen_found = go (has (length s) a n)
    where
      go : (b : Bool)
          → let r = item b (fetched a n) e (value s a n) (λ v. run (done v) after) in
          answered (cond b (Some (value s a n)) None) e after before
          ≡ record {
            outcome = r.outcome;
            count = length r.references % 2 ^ 32;
            left = noted_all before r.references;
          }
      go true = refl
      go false = refl

  -- the item is there
  pub fetches : {v : ℕ} (ks' : List ℕ) → Some v ≡ item_at s a n → ks' ≡ recorded ks (fetched a n)
      → told (fetched_as (Some v) e) s ks' ≡ seen (fetch_bytes a n e) before
  fetches {v} ks' f r =
      ap (λ ks. went v 1 (machine s ks)) r ∙ ap (λ o. answered o e after before) f ∙ seen_found

  -- and it is not
  pub misses : None ≡ item_at s a n → told (fetched_as None e) s ks ≡ seen (fetch_bytes a n e) before
  misses f = ap (λ o. answered o e after before) f ∙ seen_found
