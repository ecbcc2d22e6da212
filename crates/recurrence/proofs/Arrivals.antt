-- Laws of `arrivals`. Only this file opens `arrivals` and `ceiling`.
use Rattle.std.specs.Prelude.{if◌then◌else◌}
use mathlib.Core.Path.{◌≡◌, refl, sym, ap, ◌∙◌}
use mathlib.Core.Bool.{Bool, true, false}
use Prim.Native.Nat.{ℕ, zero, suc, ◌+◌, ◌-◌, ◌*◌, ◌/◌, ◌%◌, ◌≤◌, ◌<◌}
use native.Mathlib.Nat.{add-div_right, div-lt_iff_lt-mul, mul_comm, le-div_iff_mul-le, div-mul-le_self, div-eq_of_lt, mod-add-div, mod-lt, add-mul-div_left}
use native.Mathlib.Decide.{dec_le}
use native.Mathlib.Omega.{arith}
use lib.Dec.{eqb}
use borrow.Author.Tests.{eqb-true, eqb-false}
use Rattle.table.specs.Paper.{Row}
use Rattle.recurrence.specs.Figures.{ceiling, arrivals}

module _ (n : ℕ) (some : 1 ≤ n) where
  pub ceiling-zero : ceiling 0 n ≡ 0
  unfolding ceiling
  ceiling-zero = div-eq_of_lt (omega arith)

  ceiling-mono : (s t : ℕ) → s ≤ t → ceiling s n ≤ ceiling t n
  unfolding ceiling
  ceiling-mono s t le = (le-div_iff_mul-le some).1 (omega (arith, div-mul-le_self (s + (n - 1)) n))

  ceiling-suc : (t : ℕ) → ceiling (suc t) n ≡ suc (t / n)
  unfolding ceiling
  ceiling-suc t =
      let e : suc t + (n - 1) ≡ t + n = omega arith in
      omega (arith, ap (λ k. k / n) e, add-div_right t some)

  pub ceiling-step : (t : ℕ) → ceiling (suc t) n ≡ suc (ceiling (suc t - n) n)
  unfolding ceiling
  ceiling-step t = go (dec_le n (suc t))
    where
      go : Dec (n ≤ suc t) → ceiling (suc t) n ≡ suc (ceiling (suc t - n) n)
      go (yes le) =
          let e : suc t - n + (n - 1) ≡ t = omega arith in
          ceiling-suc t ∙ ap suc (sym (ap (λ k. k / n) e))
      go (no nle) =
          let z : suc t - n ≡ 0 = omega arith in
          ceiling-suc t ∙ ap suc (div-eq_of_lt (omega arith) ∙ sym ceiling-zero ∙ sym (ap (λ k. ceiling k n) z))

  ceiling-next : (t : ℕ) (b : Bool) → eqb (t % n) 0 ≡ b → ceiling (suc t) n ≡ ceiling t n + (if b then 1 else 0)
  unfolding ceiling
  ceiling-next t true e =
      let r : t % n ≡ 0 = eqb-true (t % n) 0 e in
      let z : t + (n - 1) ≡ (n - 1) + n * (t / n) = omega (arith, mod-add-div t n) in
      let y : (n - 1) / n ≡ 0 = div-eq_of_lt (omega arith) in
      omega (arith, ceiling-suc t, ap (λ k. k / n) z, add-mul-div_left (n - 1) (t / n) some)
  ceiling-next t false e =
      let r : 0 < t % n = omega (arith, eqb-false (t % n) 0 e) in
      let z : t + (n - 1) ≡ (t % n - 1) + n + n * (t / n) = omega (arith, mod-add-div t n) in
      let y : (t % n - 1) / n ≡ 0 = div-eq_of_lt (omega (arith, mod-lt t some)) in
      omega (arith, ceiling-suc t, ap (λ k. k / n) z, add-mul-div_left (t % n - 1 + n) (t / n) some, add-div_right (t % n - 1) some)

module _ (r : Row) (some : 1 ≤ r.period) where
  -- no tick, no release
  pub arrivals-zero : arrivals r 0 ≡ 0
  unfolding arrivals
  arrivals-zero = ceiling-zero r.period some

  -- a longer window counts no fewer
  pub arrivals-mono : (s t : ℕ) → s ≤ t → arrivals r s ≤ arrivals r t
  unfolding arrivals
  arrivals-mono = ceiling-mono r.period some

  -- one release, and the next T later
  pub arrivals-step : (t : ℕ) → arrivals r (suc t) ≡ suc (arrivals r (suc t - r.period))
  unfolding arrivals
  arrivals-step = ceiling-step r.period some

  -- one tick longer, a window counts one more exactly where T divides its length before
  pub arrivals-next : (t : ℕ) → arrivals r (suc t) ≡ arrivals r t + (if eqb (t % r.period) 0 then 1 else 0)
  unfolding arrivals
  arrivals-next t = ceiling-next r.period some t (eqb (t % r.period) 0) refl

  -- at most one release a tick
  pub arrivals-most : (t : ℕ) → arrivals r t ≤ t
  arrivals-most zero = omega (arith, arrivals-zero)
  arrivals-most (suc t) = go (eqb (t % r.period) 0) (arrivals-next t) (arrivals-most t)
    where
      go : (b : Bool) → arrivals r (suc t) ≡ arrivals r t + (if b then 1 else 0) → arrivals r t ≤ t → arrivals r (suc t) ≤ suc t
      go true e h = omega arith
      go false e h = omega arith

  -- so many periods reach less than one beyond the window
  pub arrivals-reach : (t : ℕ) → arrivals r t * r.period ≤ t + (r.period - 1)
  unfolding arrivals ceiling
  arrivals-reach t = div-mul-le_self (t + (r.period - 1)) r.period

  -- a count of releases holds up to the instant that many periods reach
  pub arrivals-held : (s t : ℕ) → s ≤ t → t ≤ arrivals r s * r.period → arrivals r t ≡ arrivals r s
  unfolding arrivals ceiling
  arrivals-held s t le h =
      let m = arrivals r s in
      let a : t + (r.period - 1) < suc m * r.period = omega (arith, h) in
      let b : arrivals r t < suc m = (div-lt_iff_lt-mul some).1 a in
      omega (arith, arrivals-mono s t le)

  -- beyond it, what is left of the window counts afresh
  arrivals-passed : (s t : ℕ) → s ≤ t → arrivals r s * r.period < t → arrivals r t ≡ arrivals r s + ceiling (t - arrivals r s * r.period) r.period
  unfolding arrivals ceiling
  arrivals-passed s t le h =
      let m = arrivals r s in
      let x = t - m * r.period + (r.period - 1) in
      let e : t + (r.period - 1) ≡ x + r.period * m = omega (arith, mul_comm m r.period, h) in
      omega (arith, ap (λ k. k / r.period) e, add-mul-div_left x m some)

  -- so a window is counted on from any instant before its end
  pub arrivals-on : (s t : ℕ) → s ≤ t → arrivals r t ≡ arrivals r s + ceiling (t - arrivals r s * r.period) r.period
  arrivals-on s t le = go (dec_le t (arrivals r s * r.period))
    where
      go : Dec (t ≤ arrivals r s * r.period) → arrivals r t ≡ arrivals r s + ceiling (t - arrivals r s * r.period) r.period
      go (yes h) =
          let z : t - arrivals r s * r.period ≡ 0 = omega arith in
          omega (arith, arrivals-held s t le h, ap (λ k. ceiling k r.period) z, ceiling-zero r.period some)
      go (no h) = arrivals-passed s t le (omega arith)

-- releases depend on T alone
pub arrivals-same : (r q : Row) → r.period ≡ q.period → (t : ℕ) → arrivals r t ≡ arrivals q t
unfolding arrivals
arrivals-same r q e t = ap (ceiling t) e
