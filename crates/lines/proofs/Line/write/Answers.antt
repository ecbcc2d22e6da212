-- `Line::write` meets its contract: the first field, then each field behind it, then the line feed.
use mathlib.Core.Path.{◌≡◌, refl, sym, ap, ◌∙◌}
use mathlib.Core.List.{◌++◌, [], ◌∷◌}
use Prim.Native.Nat.{◌+◌, ◌≤◌}
use native.Mathlib.Omega.{arith}
use borrow.Author.Rules.{rules}
use lib.ListN.{length, take, length-append}
use lib.Seq.{take_all}
use Rattle.std.specs.Prelude.{None}
use Rattle.words.specs.Lists.{up_to}
use Rattle.words.specs.Buffer.{over}
use Rattle.words.proofs.Buffer.{copied}
use Rattle.words.proofs.Put.{put-over, put_byte}
use Rattle.fields.specs.Fields.{line, line_feed, fields_text}
use Rattle.fields.proofs.Lines.{put-start}
use Rattle.lines.specs.Lines.{texts, line_of}
use Rattle.lines.proofs.Laws.{head-taken, before, before-room, field-none, put-there}
use Rattle.lines.proofs.Line.write.Goals.{After-loop-field, in-Some, in_default}
use Rattle.lines.proofs.Line.write.Goals as goal

pub copy-at-requires : goal.copy-at-requires
copy-at-requires c =
    let e = ap length (head-taken c.args.self.head c.used-len.result c.used-len.ensures) in
    omega (arith, e, before-room c.args.self 0, length-append (up_to 0 c.args.self.head) (fields_text []))

pub loop-field-init : goal.loop-field-init
loop-field-init c =
    let s = c.args.self.head in
    let t = take c.used-len.result s in
    let e : t ≡ up_to 0 s = head-taken s c.used-len.result c.used-len.ensures in
    let h : length t ≤ length c.args.out.now = omega (arith, ap length e, before-room c.args.self 0, length-append (up_to 0 s) (fields_text [])) in
    put-start (up_to 0 s) (rw e at (put-over t c.args.out.now _ _ c.copy-at.ensures.0 (c.copy-at.ensures.1 ∙ copied t c.args.out.now (length t) refl) h))

pub slice_bounds-write-count : goal.slice_bounds-write-count
slice_bounds-write-count c = omega (arith, before-room c.args.self c.loop-field.field-index)

pub slice_bounds-write-start : goal.slice_bounds-write-start
slice_bounds-write-start c = omega (arith, before-room c.args.self c.loop-field.field-index)

pub overflow_add-at : goal.overflow_add-at
overflow_add-at c =
    let n : length c.args.self.fields ≡ 9 = search rules in
    let i = c.loop-field.field-index in
    let p = put-there c.args.self i c.in-Some.f _ _ c.loop-field.invariant (omega arith) c.in-Some.is c.requires c.write-at.ensures in
    omega (arith, p.end, before-room c.args.self (i + 1), c.well_formed)

pub loop-field-preserved : goal.loop-field-preserved
loop-field-preserved c =
    let n : length c.args.self.fields ≡ 9 = search rules in
    let l = c.args.self in
    let i = c.loop-field.field-index in
    elim c.match-field.branch [
      | in-Some w ↦ rw (w.out-is, w.at-is) (put-there l i w.in-Some.f _ _ c.loop-field.invariant (omega arith) w.in-Some.is c.requires w.write-at.ensures)
      | in_default w ↦ rw (w.out-is, w.at-is, field-none l.fields i None (omega arith) w.in_default.is) c.loop-field.invariant
    ]

-- all bytes but the line feed
all-before : (c : After-loop-field) → line_of c.args.self ≡ before c.args.self c.loop-field.field-index ++ (line_feed ∷ [])
unfolding line
all-before c =
    let n : length c.args.self.fields ≡ 9 = search rules in
    let f = c.args.self.fields in
    ap (λ fs. up_to 0 c.args.self.head ++ fields_text (texts fs) ++ (line_feed ∷ [])) (sym (take_all c.loop-field.field-index f (omega arith)))

pub bounds-out-at : goal.bounds-out-at
bounds-out-at c = omega (arith, before-room c.args.self c.loop-field.field-index)

pub overflow_add-result : goal.overflow_add-result
overflow_add-result c = omega (arith, before-room c.args.self c.loop-field.field-index, c.well_formed)

pub returns : goal.returns
returns c =
    let e = all-before c in
    let p = put_byte line_feed c.loop-field.invariant (omega (arith, before-room c.args.self c.loop-field.field-index)) in
    (p.end ∙ sym (ap length e), p.front ∙ sym (ap (λ bs. over bs c.args.out.now) e))
