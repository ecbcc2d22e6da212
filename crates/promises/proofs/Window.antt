-- A window of t ticks holds no more of a row's releases than `arrivals` counts.
use mathlib.Core.Path.{◌≡◌, refl, ap}
use Prim.Native.Nat.{ℕ, zero, suc, ◌+◌, ◌-◌, ◌*◌, ◌≤◌, ◌<◌}
use native.Mathlib.Nat.{mul-le-mul_right}
use native.Mathlib.Omega.{arith}
use Rattle.table.specs.Paper.{Row}
use Rattle.recurrence.specs.Figures.{arrivals}
use Rattle.recurrence.proofs.Arrivals.{arrivals-mono, arrivals-step}
use Rattle.promises.proofs.Supply.{sum_from}

-- b is what a row releases in each tick: at most C, and nothing for T ticks behind a release
pub record Spaced (T C : ℕ) (b : ℕ → ℕ) : Type 0 where
  pub small : (u : ℕ) → b u ≤ C
  pub apart : (u v : ℕ) → u < v → v < u + T → 0 < b u → b v ≡ 0

module _ (r : Row) (C : ℕ) (b : ℕ → ℕ) (some : 1 ≤ r.period) (h : Spaced r.period C b) where
  window-from : (t s g : ℕ) → ((u : ℕ) → s ≤ u → u < s + g → b u ≡ 0) → sum_from b s t ≤ arrivals r (t - g) * C
  window-from zero s g quiet = omega arith
  window-from (suc t) s (suc g) quiet =
      let e : t - g ≡ suc t - suc g = omega arith in
      let ih : sum_from b (suc s) t ≤ arrivals r (t - g) * C = window-from t (suc s) g (λ u lo hi. quiet u (omega arith) (omega arith)) in
      omega (arith, ap (λ k. arrivals r k * C) e, quiet s (omega arith) (omega arith))
  window-from (suc t) s zero quiet = go (b s) refl (window-from t (suc s))
    where
      go : (k : ℕ) → b s ≡ k → ((g : ℕ) → ((u : ℕ) → suc s ≤ u → u < suc s + g → b u ≡ 0) → sum_from b (suc s) t ≤ arrivals r (t - g) * C) →
          b s + sum_from b (suc s) t ≤ arrivals r (suc t - 0) * C
      go zero e ih =
          omega (arith, ih 0 (λ u lo hi. absurd (omega arith)), mul-le-mul_right C (arrivals-mono r some (t - 0) (suc t - 0) (omega arith)))
      go (suc k) e ih =
          let z : suc t - 0 ≡ suc t = omega arith in
          let y : t - (r.period - 1) ≡ suc t - r.period = omega arith in
          omega (
            arith,
            ih (r.period - 1) (λ u lo hi. h.apart s u lo (omega arith) (omega arith)),
            ap (λ n. arrivals r n * C) z,
            ap (λ n. n * C) (arrivals-step r some t),
            ap (λ n. arrivals r n * C) y,
            h.small s,
          )

  -- what a row releases in any t ticks is at most its C for each release counted
  pub window : (s t : ℕ) → sum_from b s t ≤ arrivals r t * C
  window s t =
      let e : t - 0 ≡ t = omega arith in
      omega (arith, window-from t s 0 (λ u lo hi. absurd (omega arith)), ap (λ n. arrivals r n * C) e)
