-- A value passes the code's tests exactly where it is well-formed.
use mathlib.Core.Path.{◌≡◌, refl, sym, ap, ◌∙◌}
use mathlib.Core.Bool.{Bool, true, false, not}
use mathlib.Core.List.{List, [], ◌∷◌, ◌++◌, map}
use Prim.Native.Nat.{ℕ, zero, suc, ◌-◌, ◌≤◌, ◌<◌}
use native.Mathlib.Omega.{arith}
use lib.ListN.{length, take, drop, get_or, replicate, length-map, length-drop, take-append-drop}
use lib.Seq.{length-take-le, take-append_seam, drop-append_seam}
use borrow.Author.Tests.{eqb-true, le-leb}
use Rattle.words.specs.Choice.{◌and◌, ◌or◌}
use Rattle.words.specs.Lists.{all, any, up_to, padded}
use Rattle.words.proofs.Choice.{and_parts, and_both, tests_same}
use Rattle.words.proofs.Lists.{padded-up_to, padded-ends, zeros-are, all_snoc}
use Rattle.words.proofs.Filled.{map_snoc}
use Rattle.table.specs.declared.Row.{Row as RowValue}
use Rattle.table.specs.declared.Table.{Table as TableValue}
use Rattle.table.specs.Limits.{most_rows, most_times, longest_name}
use Rattle.table.specs.Paper.{Row, Table, right_row, waits, named, right_rows, right_table}
use Rattle.table.specs.Value.{no_value, row_of, table_of, row_value, empty_row, table_value, name_in, well_formed}
use Rattle.ticks.specs.Ticks.{ticks, long}
use Rattle.rules.specs.Tests.{ended, right_value, unused, waits_value, rows_test}
use Rattle.table.proofs.Rows.{times-length}
use Rattle.table.proofs.Rules.{row-name, row-times, name-lacks, times-lack, ticks-long, long-ticks, row_back, values, named_value, value-forth}
use Rattle.table.proofs.Rules.{table-rows, table-size, value-right}

-- the arrays of a row value have their lengths: true of every value of the type
abbrev pub Sized : RowValue → Type 0
Sized v = (length v.name ≡ longest_name) × (length v.times ≡ most_times)

-- a row value that passes its tests is the value of the row that it stands for
pub row-forth : (v : RowValue) → Sized v → right_value v ≡ true → (v ≡ row_value (row_of v)) × (right_row (row_of v) ≡ true)
unfolding right_value ended
row-forth v z e =
    let p : v.name ≡ padded longest_name (up_to 0 v.name) = padded-up_to longest_name v.name z.0 (and_parts e).0 in
    let q : map ticks v.times ≡ padded most_times (up_to 0 (map ticks v.times))
    = padded-up_to most_times (map ticks v.times) (times-length v.times most_times z.1) (and_parts (and_parts e).1).0 in
    let u : v.times ≡ map long (padded most_times (up_to 0 (map ticks v.times))) = sym (long-ticks v.times) ∙ ap (map long) q in
    ((λ i. record { name = p i; period = v.period; deadline = v.deadline; times = u i }), (and_parts (and_parts e).1).1)

-- the value of a right row passes the tests
pub row-passes : (r : Row) → right_row r ≡ true → right_value (row_value r) ≡ true
unfolding right_value ended
row-passes r e =
    let t : map ticks (map long (padded most_times r.times)) ≡ padded most_times r.times = ticks-long (padded most_times r.times) in
    and_both (padded-ends longest_name r.name (name-lacks _ (row-name r e)))
    (and_both (rw t (padded-ends most_times r.times (times-lack _ (row-times r e)))) (rw (row_back r e) e))

pub unused-is : (v : RowValue) → Sized v → unused v ≡ true → v ≡ empty_row
unfolding unused
unused-is v z e =
    let a = and_parts e in
    let b = and_parts a.1 in
    let d = and_parts b.1 in
    let p : v.name ≡ replicate longest_name 0 = zeros-are v.name a.0 ∙ ap (λ (n : ℕ). replicate n 0) z.0 in
    let s : map ticks v.times ≡ replicate most_times 0
    = zeros-are (map ticks v.times) d.1 ∙ ap (λ (n : ℕ). replicate n 0) (times-length v.times most_times z.1) in
    let q : v.times ≡ replicate most_times (long 0) = sym (long-ticks v.times) ∙ ap (map long) s in
    let t : v.period.0 ≡ 0 = eqb-true v.period.0 0 b.0 in
    let w : v.deadline.0 ≡ 0 = eqb-true v.deadline.0 0 d.0 in
    λ i. record { name = p i; period = long (t i); deadline = long (w i); times = q i }

pub unused-empty : unused empty_row ≡ true
unfolding unused all ◌and◌
unused-empty = refl

-- each row of a list of values has arrays of the right lengths
abbrev pub AllSized : List RowValue → Type 0
AllSized [] = Unit {0}
AllSized (v ∷ vs) = Sized v × AllSized vs

waits-value : (t : Table) → all right_row t ≡ true → any waits_value (values t) ≡ any waits t
unfolding any all
waits-value [] e = refl
waits-value (r ∷ t) e =
    let h = row_back r (and_parts e).0 in
    let k = waits-value t (and_parts e).1 in
    ap (λ (q : Row). waits q or any waits_value (values t)) h ∙ ap (λ (b : Bool). waits r or b) k

-- right rows pass the tests, as values
rows_pass : (above t : Table) → all right_row above ≡ true → right_rows above t ≡ true → rows_test (values above) (values t) ≡ true
unfolding right_rows rows_test
rows_pass above [] p e = refl
rows_pass above (r ∷ t) p e =
    let a = and_parts e in
    let b = and_parts a.1 in
    let d = and_parts b.1 in
    let n : name_in (row_value r).name (values above) ≡ named r.name above = named_value r.name above (row-name r b.0) p in
    and_both (ap not (waits-value above p) ∙ a.0)
    (and_both (row-passes r b.0)
    (and_both (ap not n ∙ d.0)
    (rw (← map_snoc row_value above r) (rows_pass (above ++ (r ∷ [])) t (all_snoc right_row above r ∙ and_both p b.0) d.1))))

-- values that pass the tests are those of right rows
rows_back : (above : Table) (vs : List RowValue) → AllSized vs → all right_row above ≡ true → rows_test (values above) vs ≡ true
    → (vs ≡ values (map row_of vs)) × (right_rows above (map row_of vs) ≡ true)
unfolding right_rows rows_test
rows_back above [] z p e = (refl, refl)
rows_back above (v ∷ vs) z p e =
    let a = and_parts e in
    let b = and_parts a.1 in
    let d = and_parts b.1 in
    let f = row-forth v z.0 b.0 in
    let n : name_in v.name (values above) ≡ named (row_of v).name above
    = ap (λ (w : RowValue). name_in w.name (values above)) f.0 ∙ named_value (row_of v).name above (row-name (row_of v) f.1) p in
    let s : values above ++ (v ∷ []) ≡ values (above ++ (row_of v ∷ []))
    = ap (λ (w : RowValue). values above ++ (w ∷ [])) f.0 ∙ sym (map_snoc row_value above (row_of v)) in
    let g = rows_back (above ++ (row_of v ∷ [])) vs z.1 (all_snoc right_row above (row_of v) ∙ and_both p f.1) (rw s at d.1) in (
      ap (λ (l : List RowValue). v ∷ l) g.0 ∙ ap (λ (w : RowValue). w ∷ values (map row_of vs)) f.0,
      and_both (ap not (sym (waits-value above p)) ∙ a.0) (and_both f.1 (and_both (ap not (sym n) ∙ d.0) g.1)),
    )

unused-are : (vs : List RowValue) → AllSized vs → all unused vs ≡ true → vs ≡ replicate (length vs) empty_row
unfolding all
unused-are [] z e = refl
unused-are (v ∷ vs) z e =
    ap (λ (w : RowValue). w ∷ vs) (unused-is v z.0 (and_parts e).0) ∙ ap (λ (l : List RowValue). empty_row ∷ l) (unused-are vs z.1 (and_parts e).1)

unused-all : (n : ℕ) → all unused (replicate n empty_row) ≡ true
unfolding all
unused-all zero = refl
unused-all (suc n) = and_both unused-empty (unused-all n)

size-right : (v : TableValue) → well_formed v ≡ true → (1 ≤ v.len) × (v.len ≤ most_rows)
unfolding table_value
size-right v e =
    let f = value-forth v e in
    let l : v.len ≡ length (table_of v) = ap (λ (w : TableValue). w.len) f.0 in
    let k = table-size (table_of v) f.1 in
    (omega (arith, k.0), omega (arith, k.1))

pub size-wrong : (v : TableValue) → ((1 ≤ v.len) × (v.len ≤ most_rows) → ⊥) → well_formed v ≡ false
size-wrong v f = go (well_formed v) refl
  where
    go : (b : Bool) → well_formed v ≡ b → b ≡ false
    go true e = absurd (f (size-right v e))
    go false e = refl

none_right : all right_row [] ≡ true
unfolding all
none_right = refl

tests-pass : (v : TableValue) → well_formed v ≡ true → (rows_test [] (take v.len v.rows) and all unused (drop v.len v.rows)) ≡ true
unfolding table_value
tests-pass v e =
    let f = value-forth v e in
    let t = table_of v in
    let l : v.len ≡ length (values t) = ap (λ (w : TableValue). w.len) f.0 ∙ sym (length-map t row_value) in
    let r : v.rows ≡ values t ++ replicate (most_rows - length t) empty_row = ap (λ (w : TableValue). w.rows) f.0 in
    let rest = replicate (most_rows - length t) empty_row in
    let p : take v.len v.rows ≡ values t
    = ap (λ (n : ℕ). take n v.rows) l ∙ ap (λ (rows : List RowValue). take (length (values t)) rows) r ∙ take-append_seam (values t) rest in
    let q : drop v.len v.rows ≡ rest
    = ap (λ (n : ℕ). drop n v.rows) l ∙ ap (λ (rows : List RowValue). drop (length (values t)) rows) r ∙ drop-append_seam (values t) rest in
    and_both (ap (rows_test []) p ∙ rows_pass [] t none_right (table-rows t f.1)) (ap (all unused) q ∙ unused-all (most_rows - length t))

tests-enough : (v : TableValue) → length v.rows ≡ most_rows → AllSized v.rows → 1 ≤ v.len → v.len ≤ most_rows
    → (rows_test [] (take v.len v.rows) and all unused (drop v.len v.rows)) ≡ true → well_formed v ≡ true
unfolding table_value table_of right_table
tests-enough v z s a b e =
    let n = v.len in
    let us = take n v.rows in
    let t = map row_of us in
    let f = rows_back [] us (sized-take n v.rows s) none_right (and_parts e).0 in
    let k : length t ≡ n = length-map us row_of ∙ length-take-le n v.rows (omega arith) in
    let d : length (drop n v.rows) ≡ most_rows - length t = simp length-drop (omega arith) in
    let u : drop n v.rows ≡ replicate (most_rows - length t) empty_row
    = unused-are (drop n v.rows) (sized-drop n v.rows s) (and_parts e).1 ∙ ap (λ (m : ℕ). replicate m empty_row) d in
    let r : v.rows ≡ values t ++ replicate (most_rows - length t) empty_row
    = sym (take-append-drop n v.rows) ∙ ap (λ (l : List RowValue). l ++ drop n v.rows) f.0 ∙ ap (λ (l : List RowValue). values t ++ l) u in
    let w : v ≡ table_value t = λ i. record { rows = r i; len = sym k i } in
    let right : right_table t ≡ true = and_both (le-leb 1 (length t) (omega arith)) (and_both (le-leb (length t) most_rows (omega arith)) f.1) in
    ap well_formed w ∙ value-right t right
  where
    sized-take : (n : ℕ) (vs : List RowValue) → AllSized vs → AllSized (take n vs)
    sized-take zero vs s = tt
    sized-take (suc n) [] s = tt
    sized-take (suc n) (v ∷ vs) s = (s.0, sized-take n vs s.1)

    sized-drop : (n : ℕ) (vs : List RowValue) → AllSized vs → AllSized (drop n vs)
    sized-drop zero vs s = s
    sized-drop (suc n) [] s = tt
    sized-drop (suc n) (v ∷ vs) s = sized-drop n vs s.1

pub tests-are : (v : TableValue) → length v.rows ≡ most_rows → AllSized v.rows → 1 ≤ v.len → v.len ≤ most_rows
    → (rows_test [] (take v.len v.rows) and all unused (drop v.len v.rows)) ≡ well_formed v
tests-are v z s a b = tests_same _ _ (tests-enough v z s a b) (tests-pass v)

-- what a table value in code tells of its arrays: each has its length
pub all-sized : (vs : List RowValue) → ((i : ℕ) → i < length vs → Sized (get_or vs i no_value)) → AllSized vs
all-sized [] f = tt
all-sized (v ∷ vs) f = (f 0 (omega arith), all-sized vs (λ i h. f (suc i) (omega arith)))
