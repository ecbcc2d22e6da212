-- The rows above as loads, and the times of a row one after another, as the code goes through them.
use Rattle.std.specs.Prelude.{if◌then◌else◌}
use mathlib.Core.Path.{◌≡◌, refl, sym, ap, ◌∙◌}
use mathlib.Core.List.{List, [], ◌∷◌}
use mathlib.Core.Option.{Option, none, some}
use Prim.Native.Nat.{ℕ, zero, suc, ◌+◌, ◌*◌, ◌%◌, ◌≤◌, ◌<◌}
use native.Mathlib.Omega.{arith}
use lib.Dec.{eqb}
use lib.ListN.{length, get_or, drop, drop_of_length-le}
use lib.Seq.{drop-cons}
use borrow.Author.Tests.{eq-eqb, ne_eqb}
use Rattle.words.specs.Lists.{sum}
use Rattle.words.proofs.Choice.{if-true, if-false}
use Rattle.table.specs.Paper.{Row, Part, part, behind, parts, work}
use Rattle.verdicts.specs.Verdicts.{figure_of, number_in}
use Rattle.table.specs.declared.Row.{Row as RowValue}
use Rattle.recurrence.specs.Figures.{arrivals, demand, right, result, rounds, plus, split_from, unless_none, split_rounds}
use Rattle.figures.specs.Work.{rows_from, right_below, rows_of, split_by, rounds_by}
use Rattle.figures.specs.declared.load.Load.{Load}
use Rattle.recurrence.proofs.Arrivals.{arrivals-same}
use Rattle.recurrence.proofs.Recurrence.{result-some, rounds-few}
use Rattle.figures.proofs.Counting.{load_at, below-mono}

-- rows with the same T and the same C ask for the same
demand-same : (rows others : ℕ → Row) (k : ℕ) → ((i : ℕ) → i < k → (rows i).period ≡ (others i).period)
    → ((i : ℕ) → i < k → work (parts (rows i).times) ≡ work (parts (others i).times)) → (t : ℕ) → demand rows k t ≡ demand others k t
demand-same rows others zero p w t = refl
demand-same rows others (suc k) p w t =
    let a = demand-same rows others k (λ i h. p i (omega arith)) (λ i h. w i (omega arith)) t in
    let b = arrivals-same (rows k) (others k) (p k (omega arith)) t in
    ap (λ n. n + arrivals (rows k) t * work (parts (rows k).times)) a
    ∙ ap (λ n. demand others k t + n * work (parts (rows k).times)) b ∙ ap (λ n. demand others k t + arrivals (others k) t * n) (w k (omega arith))

-- the right side, from the loads and from the rows
pub right-same : (rows : List RowValue) (above : List Load) (k : ℕ) → length above ≡ k → ((i : ℕ) → i < k → (load_at above i).period ≡ (rows_of rows i).period)
    → ((i : ℕ) → i < k → (load_at above i).work ≡ work (parts (rows_of rows i).times)) → (c : ℕ) → right_below above c ≡ right (rows_of rows) k c
right-same rows above k size period works c =
    ap (λ n. right (rows_from above) n c) size
    ∙ (λ i u. c + demand-same (rows_from above) (rows_of rows) k period
    (λ j h. (let z : (load_at above j).work + 0 ≡ (load_at above j).work = omega arith in z) ∙ works j h) u i)

-- a result is at most d, and comes after at most d rounds
module _ (above : List Load) (c d : ℕ) (some-c : 1 ≤ c) (fits : c ≤ d) where
  pub worked-fits : (r : ℕ) → result (right_below above c) d c ≡ some r → r ≤ d
  worked-fits r e = ((result-some (right_below above c) d (below-mono above c) c some-c fits (λ t. omega arith) r).0 e).1

  pub worked-few : rounds (right_below above c) d c ≤ d
  worked-few = omega (arith, rounds-few (right_below above c) d (below-mono above c) c some-c fits (λ t. omega arith))

-- a figure and its number
pub figure-back : (o : Option ℕ) → number_in (figure_of o) ≡ o
figure-back none = refl
figure-back (some n) = refl

pub split_by-sum : (rows : ℕ → Row) (k : ℕ) (res : ℕ → Option ℕ) → ((c : ℕ) → result (right rows k c) (rows k).deadline c ≡ res c)
    → (l : List Part) → split_from rows k l ≡ split_by res l
split_by-sum rows k res e [] = refl
split_by-sum rows k res e (part s c ∷ l) = ap (λ o. plus s o (split_from rows k l)) (e c) ∙ ap (plus s (res c)) (split_by-sum rows k res e l)

pub rounds-by : (rows : ℕ → Row) (k : ℕ) (res : ℕ → Option ℕ) (num : ℕ → ℕ) → ((c : ℕ) → result (right rows k c) (rows k).deadline c ≡ res c)
    → ((c : ℕ) → rounds (right rows k c) (rows k).deadline c ≡ num c) → (l : List Part) → split_rounds rows k l ≡ rounds_by res num l
rounds-by rows k res num e r [] = refl
rounds-by rows k res num e r (part s c ∷ l) =
    ap (λ n. n + unless_none (result (right rows k c) (rows k).deadline c) (split_rounds rows k l)) (r c)
    ∙ ap (λ o. num c + unless_none o (split_rounds rows k l)) (e c) ∙ ap (λ n. num c + unless_none (res c) n) (rounds-by rows k res num e r l)

abbrev add_to : ℕ → Option ℕ → Option ℕ
add_to x none = none
add_to x (some b) = some (x + b)

add_to-plus : (x s r : ℕ) (o : Option ℕ) → add_to x (plus s (some r) o) ≡ add_to (x + (s + r)) o
add_to-plus x s r none = refl
add_to-plus x s r (some b) = let z : x + (s + r + b) ≡ x + (s + r) + b = omega arith in ap some z

add_to-zero : (o : Option ℕ) → add_to 0 o ≡ o
add_to-zero none = refl
add_to-zero (some b) = let z : 0 + b ≡ b = omega arith in ap some z

add_to-wait : (x s : ℕ) (o p : Option ℕ) → add_to x (plus s o p) ≡ add_to (x + s) (plus 0 o p)
add_to-wait x s none p = refl
add_to-wait x s (some r) none = refl
add_to-wait x s (some r) (some b) = let z : x + (s + r + b) ≡ x + s + (0 + r + b) = omega arith in ap some z

-- what is left from place j on: at an odd place a suspension and the stretch behind it, at an even one a stretch
abbrev pub left_from : List ℕ → ℕ → List Part
left_from ts j = if eqb (j % 2) 1 then behind (drop j ts) else parts (drop j ts)

odd-place : (ts : List ℕ) (j : ℕ) → j % 2 ≡ 1 → left_from ts j ≡ behind (drop j ts)
odd-place ts j e = if-true _ _ (eq-eqb (j % 2) 1 e)

even-place : (ts : List ℕ) (j : ℕ) → j % 2 ≡ 0 → left_from ts j ≡ parts (drop j ts)
even-place ts j e = if-false _ _ (ne_eqb (j % 2) 1 (λ z. omega (arith, e, z)))

-- the times before place j are worked out: sum is what they come to, n are their rounds
pub record Parted (res : ℕ → Option ℕ) (num : ℕ → ℕ) (ts : List ℕ) (j sum n : ℕ) : Type 0 where
  pub adds : add_to sum (split_by res (left_from ts j)) ≡ split_by res (parts ts)
  pub counts : n + rounds_by res num (left_from ts j) ≡ rounds_by res num (parts ts)

module _ (res : ℕ → Option ℕ) (num : ℕ → ℕ) (ts : List ℕ) where
  pub parted-start : Parted res num ts 0 0 0
  parted-start = record { adds = add_to-zero (split_by res (parts ts)); counts = omega arith }

  module _ (j sum n : ℕ) (p : Parted res num ts j sum n) where
    -- a suspension
    pub parted-wait : j + 1 < length ts → j % 2 ≡ 1 → Parted res num ts (j + 1) (sum + get_or ts j 0) n
    parted-wait h odd =
        let s = get_or ts j 0 in
        let c = get_or ts (j + 1) 0 in
        let m = behind (drop (suc (j + 1)) ts) in
        let z : suc j ≡ j + 1 = omega arith in
        let front : drop j ts ≡ s ∷ c ∷ drop (suc (j + 1)) ts
        = drop-cons ts j 0 (omega arith) ∙ ap (λ n. s ∷ drop n ts) z ∙ ap (λ (l : List ℕ). s ∷ l) (drop-cons ts (j + 1) 0 h) in
        let here : left_from ts j ≡ part s c ∷ m = odd-place ts j odd ∙ ap behind front in
        let next : left_from ts (j + 1) ≡ part 0 c ∷ m = even-place ts (j + 1) (omega arith) ∙ ap parts (drop-cons ts (j + 1) 0 h) in
        record {
          adds = ap (λ l. add_to (sum + s) (split_by res l)) next ∙ sym (add_to-wait sum s (res c) (split_by res m))
              ∙ ap (λ l. add_to sum (split_by res l)) (sym here) ∙ p.adds;
          counts = ap (λ l. n + rounds_by res num l) next ∙ ap (λ l. n + rounds_by res num l) (sym here) ∙ p.counts;
        }

    module _ (h : j < length ts) (even : j % 2 ≡ 0) where
      -- a stretch, and what is left behind it
      here : left_from ts j ≡ part 0 (get_or ts j 0) ∷ left_from ts (j + 1)
      here =
          let z : suc j ≡ j + 1 = omega arith in
          even-place ts j even ∙ ap parts (drop-cons ts j 0 h) ∙ ap (λ m. part 0 (get_or ts j 0) ∷ behind (drop m ts)) z
          ∙ ap (λ (l : List Part). part 0 (get_or ts j 0) ∷ l) (sym (odd-place ts (j + 1) (omega arith)))

      pub parted-none : res (get_or ts j 0) ≡ none → (split_by res (parts ts) ≡ none) × (rounds_by res num (parts ts) ≡ n + num (get_or ts j 0))
      parted-none e = (
        sym p.adds ∙ ap (λ l. add_to sum (split_by res l)) here ∙ ap (λ o. add_to sum (plus 0 o (split_by res (left_from ts (j + 1))))) e,
        sym p.counts ∙ ap (λ l. n + rounds_by res num l) here
            ∙ ap (λ o. n + (num (get_or ts j 0) + unless_none o (rounds_by res num (left_from ts (j + 1))))) e
            ∙ (let z : n + (num (get_or ts j 0) + 0) ≡ n + num (get_or ts j 0) = omega arith in z),
      )

      pub parted-some : (r : ℕ) → res (get_or ts j 0) ≡ some r → Parted res num ts (j + 1) (sum + r) (n + num (get_or ts j 0))
      parted-some r e =
          let o = split_by res (left_from ts (j + 1)) in
          let m = rounds_by res num (left_from ts (j + 1)) in
          let z : sum + (0 + r) ≡ sum + r = omega arith in
          record {
            adds = ap (λ x. add_to x o) (sym z) ∙ sym (add_to-plus sum 0 r o) ∙ ap (λ x. add_to sum (plus 0 x o)) (sym e)
                ∙ ap (λ l. add_to sum (split_by res l)) (sym here) ∙ p.adds;
            counts = (let z : n + num (get_or ts j 0) + m ≡ n + (num (get_or ts j 0) + m) = omega arith in z)
                ∙ ap (λ x. n + (num (get_or ts j 0) + unless_none x m)) (sym e) ∙ ap (λ l. n + rounds_by res num l) (sym here) ∙ p.counts;
          }

    -- all are passed
    pub parted-end : length ts ≤ j → j % 2 ≡ 1 → (split_by res (parts ts) ≡ some sum) × (rounds_by res num (parts ts) ≡ n)
    parted-end h odd =
        let f : left_from ts j ≡ [] = odd-place ts j odd ∙ ap behind (drop_of_length-le ts h) in (
          sym p.adds ∙ ap (λ l. add_to sum (split_by res l)) f ∙ (let z : sum + 0 ≡ sum = omega arith in ap some z),
          sym p.counts ∙ ap (λ l. n + rounds_by res num l) f ∙ (let z : n + 0 ≡ n = omega arith in z),
        )

-- each time is at most all of them
pub time-sum : (xs : List ℕ) (j : ℕ) → get_or xs j 0 ≤ sum xs
unfolding sum
time-sum [] j = omega arith
time-sum (x ∷ xs) zero = omega arith
time-sum (x ∷ xs) (suc j) = omega (arith, time-sum xs j)
