-- The tests of a row, and of rows one after the other, as the code joins them.
use mathlib.Core.Path.{◌≡◌, refl, sym, ap, ◌∙◌}
use mathlib.Core.Bool.{Bool, true, false, not, ◌&&◌}
use mathlib.Core.List.{List, [], ◌∷◌, ◌++◌, map}
use Prim.Native.Nat.{ℕ, ◌+◌, ◌-◌, ◌≤◌, ◌<◌}
use native.Mathlib.Omega.{arith}
use lib.Dec.{ltb, leb}
use native.Mathlib.Numerals.{add-one}
use lib.ListN.{length, get_or, take, drop, length-drop, drop_of_length-le}
use lib.Seq.{take_all, take-suc, drop-cons}
use Rattle.words.specs.Choice.{◌and◌}
use Rattle.words.specs.Lists.{is_zero, all, any, sum, up_to}
use Rattle.words.proofs.Lists.{up_to-rest, zeros-are, sum-append, sum_zeros, any_last}
use Rattle.words.proofs.Choice.{and_same, not-ltb}
use Rattle.table.specs.declared.Row.{Row as RowValue}
use Rattle.table.specs.Limits.{longest_name}
use Rattle.table.specs.Paper.{right_name, right_number, right_count, right_row}
use Rattle.table.specs.Value.{no_value, row_of, name_in}
use Rattle.std.specs.List.{list_all}
use Rattle.std.proofs.lemmas.List.{take-map, drop-map}
use Rattle.ticks.specs.Ticks.{ticks}
use Rattle.ticks.specs.declared.Length.{Length}
use Rattle.rules.specs.Tests.{ended, right_value, waits_value, rows_test}
use Rattle.table.proofs.Rows.{times-front}

pub name_back : (v : RowValue) (n : ℕ) → length v.name ≡ longest_name → n ≡ length (row_of v).name
    → all is_zero (take (longest_name - n) (drop n v.name)) ≡ ended v.name
unfolding ended
name_back v n l e =
    let k : length (drop n v.name) ≤ longest_name - n = simp length-drop (omega arith) in
    rw (take_all (longest_name - n) (drop n v.name) k, e)

-- a test of times, in the library's word and in ours
pub all-times : (test : ℕ → Bool) (ts : List Length) → list_all (λ time. test time.0) ts ≡ all test (map ticks ts)
unfolding all ◌and◌
all-times test [] = refl
all-times test (t ∷ ts) = go (test t.0) (all-times test ts)
  where
    go : (b : Bool) → list_all (λ time. test time.0) ts ≡ all test (map ticks ts) → (b && list_all (λ time. test time.0) ts) ≡ (b and all test (map ticks ts))
    go true e = e
    go false e = refl

-- the same of the first n times, and of those behind them
pub times-first : (test : ℕ → Bool) (ts : List Length) (n : ℕ) → list_all (λ time. test time.0) (take n ts) ≡ all test (take n (map ticks ts))
times-first test ts n = all-times test (take n ts) ∙ ap (all test) (sym (take-map ticks n ts))

pub times-rest : (test : ℕ → Bool) (ts : List Length) (n size : ℕ) → length ts ≡ size
    → list_all (λ time. test time.0) (take (size - n) (drop n ts)) ≡ all test (drop n (map ticks ts))
times-rest test ts n size l =
    let k : length (drop n ts) ≤ size - n = simp length-drop (omega arith) in
    ap (list_all (λ time. test time.0)) (take_all (size - n) (drop n ts) k) ∙ all-times test (drop n ts) ∙ ap (all test) (sym (drop-map ticks n ts))

-- where nothing stands behind the first zero, all times add up to those in use
sum-ended : (xs : List ℕ) → ended xs ≡ true → sum xs ≡ sum (up_to 0 xs)
unfolding ended
sum-ended xs e =
    let d = drop (length (up_to 0 xs)) xs in
    let z : sum d ≡ 0 = rw (zeros-are d e) (sum_zeros (length d)) in
    let s : sum (up_to 0 xs ++ d) ≡ sum xs = ap sum (up_to-rest 0 xs) in
    omega (arith, sum-append (up_to 0 xs) d)

-- the tests of a row in use, joined as `right_row` joins them, are `right_value`
pub row-tests : (v : RowValue) (n : ℕ) → n ≡ length (row_of v).times → {long each count number₂ number₁ front times name a b c d e f g : Bool}
    → long ≡ ltb v.deadline.0 (sum (map ticks v.times)) → a ≡ (leb v.deadline.0 v.period.0 and not long)
    → each ≡ all right_number (take n (map ticks v.times)) → b ≡ (each and a)
    → count ≡ right_count n → c ≡ (count and b)
    → number₂ ≡ right_number v.deadline.0 → d ≡ (number₂ and c)
    → number₁ ≡ right_number v.period.0 → e ≡ (number₁ and d)
    → front ≡ right_name (row_of v).name → f ≡ (front and e)
    → times ≡ all is_zero (drop n (map ticks v.times)) → g ≡ (times and f)
    → name ≡ ended v.name → (name and g) ≡ right_value v
unfolding right_value right_row ended
row-tests v n k {times = times₀} {f = f₀} {g = g₀} long-is a each-is b count-is c number₂-is d number₁-is e front-is f times-is g name-is =
    let ts = map ticks v.times in
    let zeros : times₀ ≡ ended ts = times-is ∙ rw k (all-behind ts) in
    ap (λ (z : Bool). z and g₀) name-is
    ∙ ap (λ (z : Bool). ended v.name and z) (g ∙ ap (λ (z : Bool). z and f₀) zeros ∙ and_same (ended ts) (rules ts refl))
  where
    all-behind : (xs : List ℕ) → all is_zero (drop (length (up_to 0 xs)) xs) ≡ ended xs
    all-behind xs = refl

    rules : (ts : List ℕ) → ts ≡ map ticks v.times → ended ts ≡ true → f₀ ≡ right_row (row_of v)
    rules ts m h =
        let l : take n (map ticks v.times) ≡ up_to 0 (map ticks v.times) = times-front v n k in
        let short = ap not long-is ∙ not-ltb v.deadline.0 (sum (map ticks v.times))
        ∙ ap (λ (z : ℕ). leb z v.deadline.0) (sum-ended (map ticks v.times) (rw m at h)) in
        f ∙ rw (front-is, e, number₁-is, d, number₂-is, c, count-is, k, b, each-is, l, a, short)

-- the tests of the rows from i on
pub rows-test-at : (rows : List RowValue) (i : ℕ) → i < length rows
    → rows_test (take i rows) (drop i rows)
    ≡ (not (any waits_value (take i rows)) and right_value (get_or rows i no_value) and not (name_in (get_or rows i no_value).name (take i rows))
    and rows_test (take (i + 1) rows) (drop (i + 1) rows))
unfolding rows_test
rows-test-at rows i h = rw (add-one, take-suc rows i no_value h) (ap (rows_test (take i rows)) (drop-cons rows i no_value h))

pub rows-test-end : (rows above : List RowValue) (i : ℕ) → length rows ≤ i → rows_test above (drop i rows) ≡ true
unfolding rows_test
rows-test-end rows above i h = ap (rows_test above) (drop_of_length-le rows h)

-- whether a row waits, one row further
pub waits-next : (rows : List RowValue) (i : ℕ) → i < length rows → any waits_value (take i rows) ≡ false
    → any waits_value (take (i + 1) rows) ≡ waits_value (get_or rows i no_value)
waits-next rows i h e = rw (add-one, take-suc rows i no_value h) (any_last waits_value (take i rows) (get_or rows i no_value) e)
