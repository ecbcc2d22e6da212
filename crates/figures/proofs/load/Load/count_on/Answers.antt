-- `count_on` meets its contract: one release chosen or not, and the rest divided out, is all that came in since.
use mathlib.Core.Path.{◌≡◌, ap, ◌∙◌}
use mathlib.Core.Logic.{◌⊎◌, inl, inr}
use Prim.Native.Nat.{ℕ, ◌+◌, ◌*◌, ◌≤◌, ◌<◌}
use native.Mathlib.Omega.{arith}
use Rattle.recurrence.specs.Figures.{ceiling}
use Rattle.figures.specs.Count.{more_of}
use Rattle.figures.proofs.Counting.{more-none, more-quotient, chosen}
use Rattle.figures.proofs.load.Load.count_on.Goals.{Joined-upto-t, then-held-t, else-held-t, then-upto-t, else-upto-t}
use Rattle.figures.proofs.load.Load.count_on.Goals as goal

-- what both branches come to
both : (period held work t u a v b : ℕ) → 1 ≤ period → ((held < t) × (u ≡ held + period) × (a ≡ work)) ⊎ ((t ≤ held) × (u ≡ held) × (a ≡ 0))
    → ((u < t) × (v ≡ u + more_of u period t * period) × (b ≡ a + more_of u period t * work)) ⊎ ((t ≤ u) × (v ≡ u) × (b ≡ a))
    → (v ≡ held + more_of held period t * period) × (b ≡ more_of held period t * work)
both period held work t u a v b some first (inl (h, p, q)) =
    let f = chosen period some held work t u a first in
    (omega (arith, f.0, p), omega (arith, f.1, q))
both period held work t u a v b some first (inr (h, p, q)) =
    let f = chosen period some held work t u a first in
    let z = more-none period some u t h in
    (omega (arith, f.0, p, ap (λ n. n * period) z), omega (arith, f.1, q, ap (λ n. n * work) z))

-- what is counted on, and what those releases ask for
counted : (c : Joined-upto-t)
    → let s = c.args.self.now in
    (c.if-upto-t.upto ≡ s.until + more_of s.until s.period c.args.t * s.period) × (c.if-upto-t.add ≡ more_of s.until s.period c.args.t * s.work)
unfolding more_of ceiling
counted c =
    let s = c.args.self.now in
    both s.period s.until s.work c.args.t c.if-held-t.upto c.if-held-t.add c.if-upto-t.upto c.if-upto-t.add s.some
    (elim c.if-held-t.branch [ then-held-t w ↦ inl (w.if-held-t.true, w.upto-is, w.add-is) | else-held-t w ↦ inr (w.if-held-t.false, w.upto-is, w.add-is) ])
    (elim c.if-upto-t.branch [
      | then-upto-t w ↦ (
          let more = more-quotient s.period s.some c.if-held-t.upto c.args.t w.if-upto-t.true in
          inl (w.if-upto-t.true, w.upto-is ∙ ap (λ n. c.if-held-t.upto + n * s.period) more, w.add-is ∙ ap (λ n. c.if-held-t.add + n * s.work) more)
          )
      | else-upto-t w ↦ inr (w.if-upto-t.false, w.upto-is, w.add-is)
    ])

pub returns-clause-until : goal.returns-clause-until
returns-clause-until c = (counted (goal.at.returns-clause-until c).Joined-upto-t).0

pub returns-clause-asked : goal.returns-clause-asked
returns-clause-asked c = (counted (goal.at.returns-clause-asked c).Joined-upto-t).1
