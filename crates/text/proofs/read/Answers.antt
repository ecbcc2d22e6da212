-- `read` meets its contract: the lines left, below the rows so far, and the fields left of the line, behind those so far, decide.
use mathlib.Core.Path.{◌≡◌, refl, sym, ap, ◌∙◌}
use mathlib.Core.Bool.{true, false}
use Prim.Native.Nat.{◌+◌, ◌-◌}
use native.Mathlib.Omega.{arith}
use lib.ListN.{length, get_or}
use borrow.Author.Rules.{rules}
use borrow.Author.Tests.{tests, eqb-true, eqb-false}
use Rattle.std.specs.Prelude.{Ok}
use Rattle.std.specs.Iterator.Adapters.{enumerate_count}
use Rattle.refusals.specs.declared.Refusal.{Refusal}
use Rattle.table.specs.declared.Row.{Row as RowValue}
use Rattle.table.specs.Value.{row_of}
use Rattle.table.proofs.Rules.{name-length}
use Rattle.text.specs.Split.{lines, fields}
use Rattle.text.specs.Read.{refused, got, bad, right_fields, no_row, read_fields, read_text, reading_of}
use Rattle.text.proofs.Split.{cut_fields, lines-none}
use Rattle.text.proofs.Parts.{all_parts, no_part}
use Rattle.text.proofs.Values.{Kept}
use Rattle.text.proofs.Steps.{no_text, long-text, no-line-feed, text-lines}
use Rattle.text.proofs.Reader.{OnLine, OnField, AtRow, lines-begin, next_line, some_line, all_read, refused-many, refused-waiting, refused-count, refused-field, fields-begin, next_field, fields-done, field-few, refused-name, refused-number, after-name, after-number, refused-late, refused-long, refused-taken, after-row}
use Rattle.text.proofs.read.Goals.{else-loop-n-test, then-loop-n-test+then-is_empty, In-Some, After-first_line, In-Some-2, In-None, Else-not-right_fields, After-into_iter-i-iterator}
use Rattle.text.proofs.read.Goals as goal

-- there is a last byte
some : (c : In-Some) → length c.args.text.now ≡ 0 → ⊥
some c e = omega (arith, c.in-Some.ensures.item.3.0)

ends : (c : In-Some) → get_or c.args.text.now (length c.args.text.now - 1) 0 ≡ c.in-Some.last.now
ends c = sym (c.in-Some.ensures.item.3.1 0)

pub returns-in_default : goal.returns-in_default
returns-in_default c = ap reading_of (sym (no_text _ (omega (arith, c.in_default.ensures.item.3))))

pub returns-then-text-gt-TEXT : goal.returns-then-text-gt-TEXT
returns-then-text-gt-TEXT c = ap reading_of (sym (long-text _ (some (goal.at.returns-then-text-gt-TEXT c).In-Some) c.if-text-gt-TEXT.true))

pub returns-then-last-ne-LINE_FEED : goal.returns-then-last-ne-LINE_FEED
returns-then-last-ne-LINE_FEED c =
    let s = (goal.at.returns-then-last-ne-LINE_FEED c).In-Some in
    ap reading_of (sym (no-line-feed _ (some s) (omega arith) (λ e. c.if-last-ne-LINE_FEED.true (sym (ends s) ∙ e))))

pub loop-n-init : goal.loop-n-init
loop-n-init c =
    let s = (goal.at.loop-n-init c).In-Some in
    lines-begin c.args.text.now c.empty-table.result (lines c.args.text.now) c.empty-table.ensures (text-lines _ (some s) c.if-text-gt-TEXT.false (ends s ∙ c.if-last-ne-LINE_FEED.false))

-- the line of a turn
abbrev on_line : (c : After-first_line) → OnLine c.args.text.now c.loop-n.table c.loop-n.waiting c.loop-n.n c.first_line.result.0.now
on_line c =
    let i = c.loop-n.invariant in
    next_line i.0 i.1 c.first_line.ensures

-- its field count is right
counted : (c : Else-not-right_fields) → right_fields (length (fields c.first_line.result.0.now)) ≡ true
counted c = ap right_fields (sym c.count_fields.ensures) ∙ sym c.right_fields.ensures ∙ c.if-not-right_fields.false

pub loop-i-init : goal.loop-i-init
loop-i-init c =
    let e = c.into_iter-i-iterator.ensures.into_iter_gives in (
      0,
      fields c.into_iter-i-iterator.result.iter.rest.now,
      rw (← cut_fields c.into_iter-i-iterator.result.iter.rest.now)
          (all_parts _ _ c.into_iter-i-iterator.result.iter.rest.now c.into_iter-i-iterator.result.iter _ refl
          (ap (λ s. s.iter.done) e ∙ ap (λ s. s.done) c.enumerate-i-items.ensures.source ∙ c.split.ensures.done)
          (ap (λ s. s.iter.pred) e ∙ ap (λ s. s.pred) c.enumerate-i-items.ensures.source ∙ c.split.ensures.closure) (λ x b q k. search (rules, tests))
          refl (ap enumerate_count e ∙ c.enumerate-i-items.ensures.count)),
      fields-begin _ _ _ c.empty-row.ensures,
    )

-- the slice that the loop over fields cuts is the line
same_line : (c : After-into_iter-i-iterator) → c.into_iter-i-iterator.result.iter.rest.now ≡ c.first_line.result.0.now
same_line c =
    ap (λ s. s.iter.rest.now) c.into_iter-i-iterator.ensures.into_iter_gives
    ∙ ap (λ s. s.rest.now) c.enumerate-i-items.ensures.source
    ∙ c.split.ensures.rest

pub returns-then-waiting : goal.returns-then-waiting
returns-then-waiting c =
    let i = c.loop-n.invariant in
    ap reading_of (sym (refused-waiting (some_line _ (eqb-false _ _ (sym c.is_empty.ensures ∙ c.if-is_empty.false)) i.0 i.1).1 c.loop-n-test.true c.if-waiting.true))

pub returns-then-not-right_fields : goal.returns-then-not-right_fields
returns-then-not-right_fields c =
    let k : right_fields (length (fields c.first_line.result.0.now)) ≡ false = ap right_fields (sym c.count_fields.ensures) ∙ sym c.right_fields.ensures ∙ c.if-not-right_fields.true in
    ap reading_of (sym (refused-count (on_line (goal.at.returns-then-not-right_fields c).After-first_line) c.loop-n-test.true c.if-waiting.false k))

pub returns-then-is_empty-2 : goal.returns-then-is_empty-2
returns-then-is_empty-2 c =
    let i = c.loop-n.invariant.1 in
    ap Ok i.kept ∙ ap reading_of (sym (all_read i (lines-none _ (eqb-true _ _ (sym c.is_empty-2.ensures ∙ c.if-is_empty-2.true)))))

pub returns-else-is_empty-2 : goal.returns-else-is_empty-2
returns-else-is_empty-2 c =
    let i = c.loop-n.invariant in
    let left = eqb-false _ _ (sym c.is_empty-2.ensures ∙ c.if-is_empty-2.false) in
    elim c.loop-n-test.branch [
      | else-loop-n-test w ↦ ap reading_of (sym (refused-many (some_line _ left i.0 i.1).1 (omega (arith, w.loop-n-test.false))))
      | then-loop-n-test+then-is_empty w ↦ absurd (left (eqb-true _ _ (sym w.is_empty.ensures ∙ w.if-is_empty.true)))
    ]

-- the field of a turn
on_field : (c : In-Some-2) → OnField c.into_iter-i-iterator.result.iter.rest.now (c.loop-n.n + 1) c.loop-i.row c.in-Some-2.i c.in-Some-2.field.now
on_field c =
    let i = c.loop-i.invariant in
    (next_field _ _ _ c.next.result _ _ c.next.ensures.steps c.in-Some-2.is i.2 i.3).0

bad-field : (c : After-into_iter-i-iterator) (x : Refusal) → read_fields (c.loop-n.n + 1) 1 no_row (fields c.into_iter-i-iterator.result.iter.rest.now) ≡ bad x → read_text c.args.text.now ≡ refused x
bad-field c x e =
    let a = on_line (goal.at.loop-i-init c).After-first_line in
    refused-field a c.loop-n-test.true c.if-waiting.false (counted (goal.at.loop-i-init c).Else-not-right_fields) x (rw (same_line c) at e)

pub name_bytes-row-requires : goal.name_bytes-row-requires
name_bytes-row-requires c = (name-length _ (sym c.right_name.ensures ∙ c.if-not-right_name.false)).1

pub with_number-row-requires : goal.with_number-row-requires
with_number-row-requires c =
    let a = on_field (goal.at.with_number-row-requires c).In-Some-2 in
    let k = counted (goal.at.with_number-row-requires c).Else-not-right_fields in
    (a.at.kept, omega (arith, c.if-f-eq1.false), field-few a (rw (same_line (goal.at.with_number-row-requires c).After-into_iter-i-iterator) k), a.at.times)

pub loop-i-preserved-then-f-eq1 : goal.loop-i-preserved-then-f-eq1
loop-i-preserved-then-f-eq1 c =
    let i = c.loop-i.invariant in
    let m = next_field _ _ _ c.next.result _ _ c.next.ensures.steps c.in-Some-2.is i.2 i.3 in
    (c.in-Some-2.i + 1, m.0.more, m.1, after-name m.0 c.if-f-eq1.true (sym c.right_name.ensures ∙ c.if-not-right_name.false) _ (rw c.name_bytes-row.ensures))

pub loop-i-preserved : goal.loop-i-preserved
loop-i-preserved c =
    let i = c.loop-i.invariant in
    let m = next_field _ _ _ c.next.result _ _ c.next.ensures.steps c.in-Some-2.is i.2 i.3 in
    (c.in-Some-2.i + 1, m.0.more, m.1, after-number m.0 c.in-Some-read.v c.if-f-eq1.false (sym c.in-Some-read.ensures) _ c.with_number-row.ensures)

pub returns-then-not-right_name : goal.returns-then-not-right_name
returns-then-not-right_name c =
    let s = (goal.at.returns-then-not-right_name c).In-Some-2 in
    ap reading_of (sym (bad-field (goal.at.returns-then-not-right_name c).After-into_iter-i-iterator _ (refused-name (on_field s) c.if-f-eq1.true (sym c.right_name.ensures ∙ c.if-not-right_name.true))))

pub returns-in-None-read : goal.returns-in-None-read
returns-in-None-read c =
    let s = (goal.at.returns-in-None-read c).In-Some-2 in
    ap reading_of (sym (bad-field (goal.at.returns-in-None-read c).After-into_iter-i-iterator _ (refused-number (on_field s) c.if-f-eq1.false (sym c.read.ensures ∙ c.in-None-read.is))))

-- once all fields of the line are read
done : (c : In-None) → Kept c.loop-i.row × (read_fields (c.loop-n.n + 1) 1 no_row (fields c.into_iter-i-iterator.result.iter.rest.now) ≡ got (row_of c.loop-i.row))
done c =
    let i = c.loop-i.invariant in
    (i.3.kept, fields-done i.3 (no_part _ _ _ c.next.result _ _ c.next.ensures.steps c.in-None.is i.2))

abbrev at_row : (c : After-into_iter-i-iterator) (w : RowValue) → Kept w × (read_fields (c.loop-n.n + 1) 1 no_row (fields c.into_iter-i-iterator.result.iter.rest.now) ≡ got (row_of w))
    → AtRow c.args.text.now c.loop-n.table c.loop-n.waiting c.loop-n.n c.first_line.result.0.now w
at_row c w h =
    record {
      on = on_line (goal.at.loop-i-init c).After-first_line;
      room = c.loop-n-test.true;
      only = c.if-waiting.false;
      count = counted (goal.at.loop-i-init c).Else-not-right_fields;
      kept = h.0;
      row = rw (same_line c) at h.1;
    }

pub returns-then-lt : goal.returns-then-lt
returns-then-lt c = ap reading_of (sym (refused-late (at_row (goal.at.returns-then-lt c).After-into_iter-i-iterator c.loop-i.row (done (goal.at.returns-then-lt c).In-None)) (search (rules, tests))))

pub returns-then-too_long : goal.returns-then-too_long
returns-then-too_long c = ap reading_of (sym (refused-long (at_row (goal.at.returns-then-too_long c).After-into_iter-i-iterator c.loop-i.row (done (goal.at.returns-then-too_long c).In-None)) (search (rules, tests)) (sym c.too_long.ensures ∙ c.if-too_long.true)))

pub returns-then-named : goal.returns-then-named
returns-then-named c = ap reading_of (sym (refused-taken (at_row (goal.at.returns-then-named c).After-into_iter-i-iterator c.loop-i.row (done (goal.at.returns-then-named c).In-None)) (search (rules, tests)) (sym c.too_long.ensures ∙ c.if-too_long.false) (sym c.named.ensures ∙ c.if-named.true)))

pub loop-n-preserved : goal.loop-n-preserved
loop-n-preserved c = (
  refl,
  rw c.waits-waiting.ensures (after-row (at_row (goal.at.loop-n-preserved c).After-into_iter-i-iterator c.loop-i.row (done (goal.at.loop-n-preserved c).In-None)) (search (rules, tests)) (sym c.too_long.ensures ∙ c.if-too_long.false) (sym c.named.ensures ∙ c.if-named.false)),
)
