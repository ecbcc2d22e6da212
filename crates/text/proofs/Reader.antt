-- What the reader knows at each of its places, and what the whole text's answer is from there on.
use mathlib.Core.Path.{◌≡◌, refl, sym, ap, subst, ◌∙◌}
use mathlib.Core.Bool.{Bool, true, false}
use mathlib.Core.List.{List, [], ◌∷◌, map}
use Prim.Native.Nat.{ℕ, suc, ◌+◌, ◌-◌, ◌≤◌, ◌<◌}
use native.Mathlib.Omega.{arith}
use lib.Dec.{ltb}
use lib.ListN.{length, take, set}
use denote.Ref.{Bor}
use borrow.Author.Tests.{ltb-false}
use Rattle.words.specs.Lists.{sum, all, any, up_to, padded}
use Rattle.words.proofs.Choice.{and_both}
use Rattle.words.proofs.Lists.{all_append, any_last}
use Rattle.decimal.specs.Decimal.{read_number}
use Rattle.std.specs.Prelude.{Option, Some, None}
use Rattle.decimal.proofs.Reading.{digits_number}
use Rattle.table.specs.declared.Row.{Row as RowValue}
use Rattle.table.specs.declared.Table.{Table as TableValue}
use Rattle.refusals.specs.declared.Refusal.{Refusal}
use Rattle.refusals.specs.declared.Refusal.TheVariants.{ManyLines, AfterWaiting, FieldCount, BadName, BadNumber, LateDeadline, LongTimes, NameTaken}
use Rattle.table.specs.Limits.{most_rows, most_times, longest_name, largest_number}
use Rattle.table.specs.Paper.{Row, Table, right_name, right_row, waits, named}
use Rattle.table.specs.Value.{row_of, row_value, empty_row, table_of, table_value, empty_table, name_in}
use Rattle.ticks.specs.Ticks.{ticks}
use Rattle.table.proofs.Rules.{name-lacks, count_most}
use Rattle.text.specs.Split.{lines, fields}
use Rattle.text.specs.Read.{accepted, refused, got, bad, fixed_fields, right_fields, no_row, with_name, with_number, read_fields, check_row, read_line, read_lines, read_text}
use Rattle.text.proofs.Split.{lines-some}
use Rattle.text.proofs.Parts.{Parts, next_part}
use Rattle.text.proofs.Steps.{fields-over, bad-name, next-name, bad-number, next-number, late-deadline, long-times, name-taken, row-checked, after-waiting, field-count, bad-field, row_read, lines-over, many-lines, bad-line, next-line}
use Rattle.text.proofs.Lines.{right-row}
use Rattle.text.proofs.Back.{fields_back}
use Rattle.text.proofs.Values.{Kept, stands, row-lacks, value-name, number-lacks, number-times, times-sum, table-length, rows-sized, table-next, table_kept, name-known}

-- at the head of the loop over lines: v is the table so far, and these lines are left
pub record AtLine (text : List ℕ) (v : TableValue) (waiting : Bool) (left : List (List ℕ)) : Type 0 where
  pub few : v.len ≤ most_rows
  pub kept : v ≡ table_value (table_of v)
  pub right : all right_row (table_of v) ≡ true
  pub last : waiting ≡ any waits (table_of v)
  pub rest : read_text text ≡ read_lines (table_of v) left

pub lines-begin : (text : List ℕ) (v : TableValue) (left : List (List ℕ)) → v ≡ empty_table → read_text text ≡ read_lines [] left → (0 ≡ v.len) × AtLine text v false left
unfolding table_of table_value all any
lines-begin text v left e r = rw e (refl, record { few = omega arith; kept = refl; right = refl; last = refl; rest = r })

pub all_read : {text : List ℕ} {v : TableValue} {waiting : Bool} {left : List (List ℕ)} → AtLine text v waiting left → left ≡ [] → read_text text ≡ accepted (table_of v)
all_read {v = v} i e = i.rest ∙ ap (read_lines (table_of v)) e ∙ lines-over (table_of v)

-- at line l, which has this number, counted from 0
pub record OnLine (text : List ℕ) (v : TableValue) (waiting : Bool) (n : ℕ) (l : List ℕ) : Type 0 where
  pub more : List (List ℕ)
  pub at : AtLine text v waiting (l ∷ more)
  pub number : n ≡ v.len

module _ {text : List ℕ} {v : TableValue} {waiting : Bool} {n : ℕ} where
  -- a turn of the loop reads the first line of what is left
  abbrev pub next_line : {l : List ℕ} {left more : List (List ℕ)} → n ≡ v.len → AtLine text v waiting left → left ≡ l ∷ more → OnLine text v waiting n l
  next_line {more = more} e i h = record { more = more; at = subst (AtLine text v waiting) h i; number = e }

  -- where a byte is left, a line begins
  pub some_line : (s : List ℕ) → (length s ≡ 0 → ⊥) → n ≡ v.len → AtLine text v waiting (lines s) → (l : List ℕ) × OnLine text v waiting n l
  some_line s h = go (lines s) (lines-some s (omega (arith, h)))
    where
      go : (left : List (List ℕ)) → 0 < length left → n ≡ v.len → AtLine text v waiting left → (l : List ℕ) × OnLine text v waiting n l
      go [] k e i = absurd (omega arith)
      go (l ∷ more) k e i = (l, record { more = more; at = i; number = e })

module _ {text : List ℕ} {v : TableValue} {waiting : Bool} {n : ℕ} {l : List ℕ} (a : OnLine text v waiting n l) where
  above : n ≡ length (table_of v)
  above = a.number ∙ table-length v a.at.kept

  pub refused-many : n ≡ most_rows → read_text text ≡ refused (ManyLines (most_rows + 1))
  refused-many h = a.at.rest ∙ many-lines (table_of v) l a.more (sym above ∙ h) ∙ ap (λ (k : ℕ). refused (ManyLines (k + 1))) (sym above ∙ h)

  module _ (room : n < most_rows) where
    refused-line : (x : Refusal) → read_line (n + 1) (table_of v) l ≡ bad x → read_text text ≡ refused x
    refused-line x q = a.at.rest ∙ bad-line (table_of v) l a.more (λ k. omega (arith, above)) x (rw (← above) q)

    pub refused-waiting : waiting ≡ true → read_text text ≡ refused (AfterWaiting (n + 1))
    refused-waiting w = refused-line _ (after-waiting (n + 1) (table_of v) l (sym a.at.last ∙ w))

    pub refused-count : waiting ≡ false → right_fields (length (fields l)) ≡ false → read_text text ≡ refused (FieldCount (n + 1))
    refused-count w k = refused-line _ (field-count (n + 1) (table_of v) l (sym a.at.last ∙ w) k)

    pub refused-field : waiting ≡ false → right_fields (length (fields l)) ≡ true → (x : Refusal) → read_fields (n + 1) 1 no_row (fields l) ≡ bad x → read_text text ≡ refused x
    refused-field w k x q = refused-line x (bad-field (n + 1) (table_of v) l (sym a.at.last ∙ w) k x q)

-- at the head of the loop over the fields of line n: w is the row so far, k fields are read, and these are left
pub record AtField (line : List ℕ) (n : ℕ) (w : RowValue) (k : ℕ) (left : List (List ℕ)) : Type 0 where
  pub counted : k + length left ≡ length (fields line)
  pub kept : Kept w
  pub times : length (row_of w).times ≡ k + 1 - suc fixed_fields
  pub rest : read_fields n 1 no_row (fields line) ≡ read_fields n (k + 1) (row_of w) left

pub fields-begin : (line : List ℕ) (n : ℕ) (w : RowValue) → w ≡ empty_row → AtField line n w 0 (fields line)
unfolding up_to padded
fields-begin line n w e = rw e (record { counted = omega arith; kept = refl; times = refl; rest = refl })

pub fields-done : {line : List ℕ} {n : ℕ} {w : RowValue} {k : ℕ} {left : List (List ℕ)} → AtField line n w k left → left ≡ [] → read_fields n 1 no_row (fields line) ≡ got (row_of w)
fields-done {n = n} {w} {k} i e = i.rest ∙ ap (read_fields n (k + 1) (row_of w)) e ∙ fields-over n (k + 1) (row_of w)

-- at field x, before which k fields are read
pub record OnField (line : List ℕ) (n : ℕ) (w : RowValue) (k : ℕ) (x : List ℕ) : Type 0 where
  pub more : List (List ℕ)
  pub at : AtField line n w k (x ∷ more)

-- a turn of the loop begins on a field, and goes on with those that follow it
pub next_field : {S : Type 0} (steps : S → Option (ℕ × Bor (List ℕ)) → S → Type 0) (s t : S) (r : Option (ℕ × Bor (List ℕ))) (i : ℕ) (x : Bor (List ℕ)) → steps s r t → r ≡ Some (i, x)
    → {line : List ℕ} {n : ℕ} {w : RowValue} {k : ℕ} {left : List (List ℕ)} → Parts steps s k left → AtField line n w k left
    → (a : OnField line n w i x.now) × Parts steps t (i + 1) a.more
next_field steps s t r i x h e {line} {n} {w} {k} {left} p f =
    let m = next_part steps s t r i x k left h e p in
    let g = subst (λ j. AtField line n w j (x.now ∷ m.1)) (sym m.0) (subst (AtField line n w k) m.2 f) in
    (record { more = m.1; at = g }, subst (λ j. Parts steps t (j + 1) m.1) (sym m.0) m.3)

module _ {line : List ℕ} {n : ℕ} {w : RowValue} {k : ℕ} {x : List ℕ} (a : OnField line n w k x) where
  -- there are no more fields than a line may have
  pub field-few : right_fields (length (fields line)) ≡ true → k + 1 ≤ most_times + fixed_fields
  unfolding right_fields
  field-few c = omega (arith, a.at.counted, count_most (length (fields line) - fixed_fields) c)

  pub refused-name : k + 1 ≡ 1 → right_name x ≡ false → read_fields n 1 no_row (fields line) ≡ bad (BadName n)
  refused-name h e = a.at.rest ∙ bad-name n (k + 1) (row_of w) x a.more h e

  pub refused-number : (k + 1 ≡ 1 → ⊥) → read_number 1 largest_number x ≡ None → read_fields n 1 no_row (fields line) ≡ bad (BadNumber n (k + 1))
  refused-number h e = a.at.rest ∙ bad-number n (k + 1) (row_of w) x a.more h e

  -- the next field
  next : (u : RowValue) (r : Row) → row_of u ≡ r → Kept u → length r.times ≡ k + 1 + 1 - suc fixed_fields
      → read_fields n (k + 1) (row_of w) (x ∷ a.more) ≡ read_fields n (k + 1 + 1) r a.more → AtField line n u (k + 1) a.more
  next u r s j t e =
      record {
        counted = omega (arith, a.at.counted);
        kept = j;
        times = ap (λ (r : Row). length r.times) s ∙ t;
        rest = a.at.rest ∙ e ∙ ap (λ (r : Row). read_fields n (k + 1 + 1) r a.more) (sym s);
      }

  pub after-name : k + 1 ≡ 1 → right_name x ≡ true → (u : RowValue)
      → u ≡ record { name = padded longest_name x; period = w.period; deadline = w.deadline; times = w.times } → AtField line n u (k + 1) a.more
  after-name h e u j =
      let r = with_name (row_of w) x in
      let s = stands u r (j ∙ value-name w x a.at.kept) (name-lacks x e) (row-lacks w).1 in
      next u r s.0 s.1 (a.at.times ∙ omega arith) (next-name n (k + 1) (row_of w) x a.more h e)

  pub after-number : (m : ℕ) → (k + 1 ≡ 1 → ⊥) → read_number 1 largest_number x ≡ Some m → (u : RowValue)
      → u ≡ row_value (with_number (row_of w) (k + 1) m) → AtField line n u (k + 1) a.more
  after-number m h e u j =
      let r = with_number (row_of w) (k + 1) m in
      let l = number-lacks (row_of w) (k + 1) m (digits_number 1 largest_number x m e).1 (row-lacks w).0 (row-lacks w).1 in
      let s = stands u r j l.0 l.1 in
      next u r s.0 s.1 (number-times (row_of w) (k + 1) m (omega arith) a.at.times) (next-number n (k + 1) (row_of w) x a.more m h e)

-- once all fields of the line are read: w is the line's row
pub record AtRow (text : List ℕ) (v : TableValue) (waiting : Bool) (n : ℕ) (l : List ℕ) (w : RowValue) : Type 0 where
  pub on : OnLine text v waiting n l
  pub room : n < most_rows
  pub only : waiting ≡ false
  pub count : right_fields (length (fields l)) ≡ true
  pub kept : Kept w
  pub row : read_fields (n + 1) 1 no_row (fields l) ≡ got (row_of w)

module _ {text : List ℕ} {v : TableValue} {waiting : Bool} {n : ℕ} {l : List ℕ} {w : RowValue} (a : AtRow text v waiting n l w) where
  line_row : read_line (n + 1) (table_of v) l ≡ check_row (n + 1) (table_of v) (row_of w)
  line_row = row_read (n + 1) (table_of v) l (sym a.on.at.last ∙ a.only) a.count (row_of w) a.row

  pub refused-late : w.period.0 < w.deadline.0 → read_text text ≡ refused (LateDeadline (n + 1))
  refused-late h = refused-line a.on a.room _ (line_row ∙ late-deadline (n + 1) (table_of v) (row_of w) h)

  module _ (early : w.deadline.0 ≤ w.period.0) where
    sum-test : (b : Bool) → ltb w.deadline.0 (sum (map ticks w.times)) ≡ b → ltb w.deadline.0 (sum (row_of w).times) ≡ b
    sum-test b s = ap (ltb w.deadline.0) (sym (times-sum w a.kept)) ∙ s

    pub refused-long : ltb w.deadline.0 (sum (map ticks w.times)) ≡ true → read_text text ≡ refused (LongTimes (n + 1))
    refused-long s = refused-line a.on a.room _ (line_row ∙ long-times (n + 1) (table_of v) (row_of w) early (sum-test true s))

    module _ (short : ltb w.deadline.0 (sum (map ticks w.times)) ≡ false) where
      name-test : (b : Bool) → name_in w.name (take n v.rows) ≡ b → named (row_of w).name (table_of v) ≡ b
      name-test b s =
          let i = a.on.at in
          sym (name-known v w i.kept i.right a.kept (fields_back (fields l) (n + 1) (row_of w) a.count a.row).name) ∙ rw a.on.number at s

      pub refused-taken : name_in w.name (take n v.rows) ≡ true → read_text text ≡ refused (NameTaken (n + 1))
      refused-taken s = refused-line a.on a.room _ (line_row ∙ name-taken (n + 1) (table_of v) (row_of w) early (sum-test false short) (name-test true s))

      pub after-row : name_in w.name (take n v.rows) ≡ false → AtLine text (record { rows = set v.rows n w; len = n + 1 }) (waits (row_of w)) a.on.more
      unfolding all
      after-row s =
          let i = a.on.at in
          let few : v.len < most_rows = omega (arith, a.on.number, a.room) in
          let size : v.len < length v.rows = omega (arith, rows-sized v i.kept i.few) in
          let t = table-next v w size in
          let g = fields_back (fields l) (n + 1) (row_of w) a.count a.row in
          let r = right-row (row_of w) g.name g.numbers g.count early (ltb-false _ _ (sum-test false short)) in
          let read = line_row ∙ row-checked (n + 1) (table_of v) (row_of w) early (sum-test false short) (name-test false s) in
          subst (λ (k : ℕ). AtLine text (record { rows = set v.rows k w; len = k + 1 }) (waits (row_of w)) a.on.more) (sym a.on.number)
          (record {
            few = omega arith;
            kept = table_kept v w i.kept a.kept few size;
            right = rw t (all_append right_row (table_of v) (row_of w ∷ []) i.right (and_both r refl));
            last = sym (ap (any waits) t ∙ any_last waits (table_of v) (row_of w) (sym i.last ∙ a.only));
            rest =
                i.rest
                ∙ next-line (table_of v) l a.on.more (λ k. omega (arith, above a.on, a.room)) (row_of w) (rw (← above a.on) read)
                ∙ ap (λ (u : Table). read_lines u a.on.more) (sym t);
          })
