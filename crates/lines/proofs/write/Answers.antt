-- `write` meets its contract: where all lines fit, each is put behind those before it.
use Prim.Native.Nat.{◌+◌, ◌≤◌, ◌<◌}
use native.Mathlib.Omega.{arith}
use lib.ListN.{length, take}
use lib.Seq.{take_all}
use Rattle.words.proofs.Put.{put-none, put-room}
use Rattle.fields.specs.Fields.{joined}
use Rattle.lines.specs.Lines.{line_of}
use Rattle.lines.proofs.Laws.{joined-front, line-room, left-short, put-line, all-fit, short-in, fits-in}
use Rattle.lines.proofs.write.Goals as goal

pub loop-i-init : goal.loop-i-init
unfolding joined
loop-i-init g c = omega arith

pub returns-then-left-len : goal.returns-then-left-len
returns-then-left-len g c =
    let ls = g.L.Lines.lines c.args.lines.now in
    let d = c.args.out.now in
    let i = c.loop-i.i in
    let h : i < length ls = omega arith in
    short-in (joined ls) d (left-short ls i (line_of c.line.result) d h c.line.ensures c.loop-i.left c.loop-i.invariant (omega arith))

pub loop-i-preserved : goal.loop-i-preserved
loop-i-preserved g c =
    let ls = g.L.Lines.lines c.args.lines.now in
    omega (arith, c.loop-i.invariant, line-room ls c.loop-i.i (line_of c.line.result) c.args.out.now (omega arith) c.line.ensures)

pub loop-k-init : goal.loop-k-init
unfolding joined
loop-k-init g c =
    let d = c.args.out.now in
    (all-fit (g.L.Lines.lines c.args.lines.now) d c.loop-i.i c.loop-i.left c.loop-i.invariant (omega arith), put-none d)

pub slice_bounds-write-count : goal.slice_bounds-write-count
slice_bounds-write-count g c =
    let i = c.loop-k.invariant in
    omega (arith, i.0, i.1.end, joined-front (g.L.Lines.lines c.args.lines.now) c.loop-k.k)

pub slice_bounds-write-start : goal.slice_bounds-write-start
slice_bounds-write-start g c =
    let i = c.loop-k.invariant in
    omega (arith, i.0, i.1.end, joined-front (g.L.Lines.lines c.args.lines.now) c.loop-k.k)

pub write-at-requires : goal.write-at-requires
write-at-requires g c =
    let ls = g.L.Lines.lines c.args.lines.now in
    let i = c.loop-k.invariant in
    let l = line_of c.line-in-loop-k.result in
    let h : length (joined (take c.loop-k.k ls)) + length l ≤ length c.args.out.now =
    omega (arith, i.0, joined-front ls (c.loop-k.k + 1), line-room ls c.loop-k.k l c.args.out.now (omega arith) c.line-in-loop-k.ensures) in
    put-room (length l) i.1 h

pub overflow_add-at : goal.overflow_add-at
overflow_add-at g c =
    let ls = g.L.Lines.lines c.args.lines.now in
    let i = c.loop-k.invariant in
    let p = put-line ls c.loop-k.k (line_of c.line-in-loop-k.result) c.args.out.now (omega arith) c.line-in-loop-k.ensures _ _ i.1 i.0 c.write-at.ensures in
    omega (arith, p.end, i.0, joined-front ls (c.loop-k.k + 1), c.well_formed)

pub loop-k-preserved : goal.loop-k-preserved
loop-k-preserved g c =
    let ls = g.L.Lines.lines c.args.lines.now in
    let i = c.loop-k.invariant in
    let l = line_of c.line-in-loop-k.result in
    (i.0, put-line ls c.loop-k.k l c.args.out.now (omega arith) c.line-in-loop-k.ensures _ _ i.1 i.0 c.write-at.ensures)

pub returns : goal.returns
returns g c =
    let ls = g.L.Lines.lines c.args.lines.now in
    let i = c.loop-k.invariant in
    fits-in (joined ls) c.args.out.now c.loop-k.out c.loop-k.at i.0 (rw (take_all c.loop-k.k ls (omega arith)) at i.1)
