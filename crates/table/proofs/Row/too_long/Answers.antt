-- `Row::too_long` meets its contract: what is left of D falls short of the times that are left exactly where D falls short of all of them.
use mathlib.Core.Path.{◌≡◌, refl, sym}
use mathlib.Core.List.{map}
use Prim.Native.Nat.{◌≤◌, ◌<◌}
use native.Mathlib.Omega.{arith}
use borrow.Author.Rules.{rules}
use borrow.Author.Tests.{lt-ltb, le-ltb}
use lib.ListN.{length}
use Rattle.table.specs.Limits.{most_times}
use Rattle.table.proofs.Rows.{time-at, times-length}
use Rattle.words.specs.Lists.{sum}
use Rattle.words.proofs.Lists.{sum-at, sum-end}
use Rattle.ticks.specs.Ticks.{ticks}
use Rattle.table.proofs.Row.too_long.Goals as goal

pub loop-time-init : goal.loop-time-init
loop-time-init c = refl

pub returns-then-left-time : goal.returns-then-left-time
returns-then-left-time c =
    let l = c.loop-time in
    let ts = c.args.self.times in
    let d = c.args.self.deadline.0 in
    let n : length (map ticks ts) ≡ most_times = times-length ts most_times (search rules) in
    let h : d < sum (map ticks ts)
    = omega (arith, c.if-left-time.true, l.invariant, time-at ts l.time-index, sum-at (map ticks ts) l.time-index (omega arith)) in
    sym (lt-ltb d (sum (map ticks ts)) h)

pub loop-time-preserved : goal.loop-time-preserved
loop-time-preserved c =
    let l = c.loop-time in
    let ts = c.args.self.times in
    let n : length (map ticks ts) ≡ most_times = times-length ts most_times (search rules) in
    omega (arith, l.invariant, c.if-left-time.false, time-at ts l.time-index, sum-at (map ticks ts) l.time-index (omega arith))

pub returns : goal.returns
returns c =
    let l = c.loop-time in
    let ts = c.args.self.times in
    let d = c.args.self.deadline.0 in
    let n : length (map ticks ts) ≡ most_times = times-length ts most_times (search rules) in
    let h : sum (map ticks ts) ≤ d = omega (arith, l.invariant, sum-end (map ticks ts) l.time-index (omega arith)) in
    sym (le-ltb d (sum (map ticks ts)) h)
