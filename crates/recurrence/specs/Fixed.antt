-- What the recurrence is to find: document 01, 'The figures'.
use Rattle.std.specs.Prelude.{◌≡◌, ℕ, ◌+◌, ◌≤◌, ◌<◌}

-- R is the smallest positive t with f(t) = t
pub record Smallest (f : ℕ → ℕ) (R : ℕ) : Type 0 where
  pub positive : 1 ≤ R
  pub fixed : f R ≡ R
  pub least : (t : ℕ) → 1 ≤ t → f t ≡ t → R ≤ t

-- no positive t up to d has f(t) = t
abbrev pub NoneUpTo : ℕ → (ℕ → ℕ) → Type 0
NoneUpTo d f = (t : ℕ) → 1 ≤ t → f t ≡ t → d < t

-- f(t) was worked out m times, from t on: t becomes f(t) until f(t) = t or f(t) is above d, the last time included
pub data Took (f : ℕ → ℕ) (d : ℕ) : ℕ → ℕ → Type 0 where
  settles : {t : ℕ} → f t ≡ t → Took f d t 1
  passes : {t : ℕ} → d < f t → Took f d t 1
  goes_on : {t m : ℕ} → (f t ≡ t → ⊥) → f t ≤ d → Took f d (f t) m → Took f d t (m + 1)
