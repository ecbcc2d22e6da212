-- The processor time that is left for a row, by what is taken above it. No table and no machine.
use Rattle.std.specs.Prelude.{if◌then◌else◌}
use mathlib.Core.Path.{◌≡◌, refl, ap}
use mathlib.Core.Bool.{Bool, true, false}
use Prim.Native.Nat.{ℕ, zero, suc, ◌+◌, ◌-◌, ◌≤◌, ◌<◌}
use native.Mathlib.Omega.{arith}

-- 1 where the test holds
abbrev pub bit : Bool → ℕ
bit b = if b then 1 else 0

-- a, added over the t ticks from s on
abbrev pub sum_from : (ℕ → ℕ) → ℕ → ℕ → ℕ
sum_from a s zero = 0
sum_from a s (suc t) = a s + sum_from a (suc s) t

-- two sums at once
pub sum-add : (a b : ℕ → ℕ) (t s : ℕ) → sum_from (λ u. a u + b u) s t ≡ sum_from a s t + sum_from b s t
sum-add a b zero s = refl
sum-add a b (suc t) s = omega (arith, sum-add a b t (suc s))

-- nothing in each tick is nothing in all
pub sum-none : (t s : ℕ) → sum_from (λ u. 0) s t ≡ 0
sum-none zero s = refl
sum-none (suc t) s = omega (arith, sum-none t (suc s))

-- one tick more at the end, the tick u
pub sum-last : (a : ℕ → ℕ) (t s u : ℕ) → u ≡ s + t → sum_from a s (suc t) ≡ sum_from a s t + a u
sum-last a zero s u e =
    let z : u ≡ s = omega arith in
    omega (arith, ap a z)
sum-last a (suc t) s u e = omega (arith, sum-last a t (suc s) u (omega arith))

-- how many of the t ticks from s on are free, where p tells which are
abbrev pub idle : (ℕ → Bool) → ℕ → ℕ → ℕ
idle p s t = sum_from (λ u. bit (p u)) s t

-- no tick from s up to x is free
pub data Busy (p : ℕ → Bool) : ℕ → ℕ → Type 0 where
  here : {x : ℕ} → Busy p x x
  more : {s x : ℕ} → Busy p s x → p x ≡ false → Busy p s (suc x)

-- before x lies an instant s with no free tick up to x, and from s on at most `taken t` of any t ticks are not free
pub record Start (p : ℕ → Bool) (taken : ℕ → ℕ) (x : ℕ) : Type 0 where
  pub s : ℕ
  pub busy : Busy p s x
  pub bound : (t : ℕ) → t ≤ idle p s t + taken t

-- what is taken above a row is bounded: each instant has such a start
abbrev pub Bounded : (ℕ → Bool) → (ℕ → ℕ) → Type 0
Bounded p taken = (x : ℕ) → Start p taken x

idle-longer : (p : ℕ → Bool) (s t : ℕ) → idle p s t ≤ idle p s (suc t)
idle-longer p s zero = omega arith
idle-longer p s (suc t) = omega (arith, idle-longer p (suc s) t)

idle-later : (p : ℕ → Bool) (t : ℕ) {s x : ℕ} → Busy p s x → idle p s t ≤ idle p x t
idle-later p t here = omega arith
idle-later p t (more {x = y} b e) = omega (arith, idle-later p t b, idle-longer p y t, ap bit e)

-- any R ticks have c free ones, where c and what is taken in R ticks fit into R
pub supply : (p : ℕ → Bool) (taken : ℕ → ℕ) → Bounded p taken → (c R : ℕ) → c + taken R ≤ R → (x : ℕ) → c ≤ idle p x R
supply p taken b c R h x = omega (arith, (b x).bound R, idle-later p R (b x).busy)

-- rows that always have their work ready are one server: left is what they have left before a tick, a what is released in it
pub record Server (p : ℕ → Bool) (a : ℕ → ℕ) : Type 0 where
  pub left : ℕ → ℕ
  pub begins : left 0 ≡ 0
  pub next : (u : ℕ) → left (suc u) ≡ (left u + a u) - 1
  pub idles : (u : ℕ) → p u ≡ true → left u + a u ≡ 0
  pub works : (u : ℕ) → p u ≡ false → 0 < left u + a u

module _ (p : ℕ → Bool) (a : ℕ → ℕ) (v : Server p a) where
  one-tick : (u : ℕ) (b : Bool) → p u ≡ b → suc (v.left (suc u)) ≡ bit b + (v.left u + a u)
  one-tick u true e = omega (arith, v.next u, v.idles u e)
  one-tick u false e = omega (arith, v.next u, v.works u e)

  -- t ticks from s up to u, and what is left at u, are the free ticks, what was left at s and what was released
  pub balance : (t s u : ℕ) → u ≡ s + t → t + v.left u ≡ idle p s t + (v.left s + sum_from a s t)
  balance zero s u e =
      let z : u ≡ s = omega arith in
      omega (arith, ap v.left z)
  balance (suc t) s u e = omega (arith, balance t (suc s) u (omega arith), one-tick s (p s) refl)

  record Empty (x : ℕ) : Type 0 where
    s : ℕ
    busy : Busy p s x
    empty : v.left s ≡ 0

  last_empty : (x : ℕ) → Empty x
  last_empty zero = record { s = 0; busy = here; empty = v.begins }
  last_empty (suc x) = go (p x) refl (last_empty x)
    where
      go : (b : Bool) → p x ≡ b → Empty x → Empty (suc x)
      go true e h = record { s = suc x; busy = here; empty = omega (arith, v.next x, v.idles x e) }
      go false e h = record { s = h.s; busy = more h.busy e; empty = h.empty }

  -- a server takes no more than is released, counted from the last instant at which it had nothing left
  pub server-bounded : (taken : ℕ → ℕ) → ((s t : ℕ) → sum_from a s t ≤ taken t) → Bounded p taken
  server-bounded taken h x =
      let z = last_empty x in
      record { s = z.s; busy = z.busy; bound = λ t. omega (arith, balance t z.s (z.s + t) refl, h z.s t, z.empty) }
