-- What the sizes of pages and segments bound, once over the four formats. The check finds these bounds alone where the
-- code needs them; they are stated for a reader (docs/DECISIONS.md).
use Rattle.std.proofs.Common.{◌≡◌, ℕ, ◌+◌, ◌*◌, ◌/◌, ◌%◌, ◌^◌, ◌<◌, ◌≤◌, ◌⊎◌, inl, inr, arith}

abbrev Segment : ℕ → Type 0
Segment s = (s ≡ 65536) ⊎ (s ≡ 1048576)

abbrev Page : ℕ → Type 0
Page p = (p ≡ 2048) ⊎ (p ≡ 4096)

pub segment_offset : (a s : ℕ) → a < 2 ^ 32 → Segment s → 4 * (a / s) < 2 ^ 32
segment_offset a s h (inl e) = rw e (omega arith)
segment_offset a s h (inr e) = rw e (omega arith)

pub page_index_lem : (a s p : ℕ) → Segment s → Page p → a % s / p ≤ 512
page_index_lem a s p (inl e) (inl f) = rw (e, f) (omega arith)
page_index_lem a s p (inl e) (inr f) = rw (e, f) (omega arith)
page_index_lem a s p (inr e) (inl f) = rw (e, f) (omega arith)
page_index_lem a s p (inr e) (inr f) = rw (e, f) (omega arith)

pub frames : (p : ℕ) → Page p → 0 < 2 ^ 24 / p
frames p (inl e) = rw e (omega arith)
frames p (inr e) = rw e (omega arith)

pub real_address_lem : (x a p : ℕ) → Page p → x % (2 ^ 24 / p) * p + a % p < 2 ^ 24
real_address_lem x a p (inl e) = simp e (omega arith)
real_address_lem x a p (inr e) = simp e (omega arith)

-- the four leftmost bits of the page index
pub leftmost_four : (a s : ℕ) → Segment s → a / (s / 16) % 16 ≡ a % s / (s / 16)
leftmost_four a s (inl e) = simp e (omega arith)
leftmost_four a s (inr e) = simp e (omega arith)
