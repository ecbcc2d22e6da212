-- No answer to a text is longer than an answer may be (`report-fits`, `answer-fits`): the line's bound comes from the limits.
use mathlib.Core.Path.{◌≡◌, refl}
use mathlib.Core.Bool.{true}
use mathlib.Core.List.{List, [], ◌∷◌, map}
use mathlib.Core.Option.{Option, none, some}
use Prim.Native.Nat.{ℕ, suc, ◌+◌, ◌*◌, ◌≤◌}
use native.Mathlib.Omega.{arith}
use native.Mathlib.Nat.{mul-le-mul_right, mul-le-mul_left}
use lib.ListN.{length, length-append}
use Rattle.ticks.specs.declared.Length.{Length}
use Rattle.words.specs.Lists.{sum, below}
use Rattle.words.specs.Spelled.{spelled}
use Rattle.words.proofs.Lists.{all-each}
use Rattle.decimal.specs.Decimal.{digits, last_digits}
use Rattle.decimal.proofs.Digits.{length_some, length-grows}
use Rattle.fields.specs.Fields.{fields_text, line, joined}
use Rattle.fields.proofs.Lines.{fields-none, fields-length, line-length, lines-length}
use Rattle.table.specs.Limits.{most_stretches, longest_name, largest_number}
use Rattle.table.specs.Paper.{Row, Table, row_at, parts, right_row, right_table}
use Rattle.table.proofs.Rules.{row-name, row-deadline, number-range, name-length, table-size, table-right}
use Rattle.text.specs.Read.{Answer, accepted, refused, read_text}
use Rattle.text.proofs.Back.{text-right}
use Rattle.text.proofs.Places.{text-place}
use Rattle.refused.proofs.Fits.{refused-fits}
use Rattle.verdicts.specs.declared.Bound.{Bound}
use Rattle.verdicts.specs.declared.Verdict.{Verdict}
use Rattle.verdicts.specs.declared.Verdict.TheVariants.{Fits, Misses, Open}
use Rattle.verdicts.specs.declared.TableVerdict.{TableVerdict}
use Rattle.verdicts.specs.declared.TableVerdict.TheVariants.{Fits as TableFits, Misses as TableMisses, Open as TableOpen}
use Rattle.recurrence.specs.Figures.{whole, split, verdict, row_rounds}
use Rattle.figures.specs.Answers.{split_shown, figures_of, table_verdict}
use Rattle.verdicts.specs.Verdicts.{figure_of}
use Rattle.figures.proofs.Bounds.{whole-most, shown-most, fits-most, rounds-most}
use Rattle.report.specs.Report.{figure_text, verdict_word, figure_in, row_line, table_word, last_line, report_text, answer_to, answer_text, longest_line, longest_report}

-- no number of a report is larger: the most rounds of a row, for whole and for each stretch
abbrev most_rounds : ℕ
most_rounds = suc most_stretches * largest_number

-- its digits
unfoldable most_digits : ℕ
most_digits = length (digits most_rounds)

-- the longest verdict
abbrev longest_word : ℕ
longest_word = length (spelled "misses")

-- THE LIMIT ON A LINE is that of its fields together, each with the byte that ends it
limits-agree : suc longest_name + suc longest_word + 4 * suc most_digits ≡ longest_line
unfolding most_digits digits last_digits
limits-agree = refl

-- no number up to that has more digits
number_short : (n : ℕ) → n ≤ most_rounds → length (digits n) ≤ most_digits
unfolding most_digits
number_short n h = length-grows most_rounds n h

-- that is one digit or more, as a hyphen takes one
digits-some : 1 ≤ most_digits
unfolding most_digits
digits-some = length_some most_rounds

-- fields have their bytes and a tab each
fields-sum : (fs : List (List ℕ)) → length (fields_text fs) ≡ sum (map (λ f. suc (length f)) fs)
unfolding sum
fields-sum [] = fields-none
fields-sum (f ∷ fs) = omega (arith, fields-length f fs, fields-sum fs)

-- a line has its first field, the others, and the line feed
line-sum : (f : List ℕ) (fs : List (List ℕ)) → length (line f fs) ≡ suc (length f) + sum (map (λ g. suc (length g)) fs)
line-sum f fs = omega (arith, line-length f fs, fields-sum fs)

-- a verdict is no longer than the longest
verdict-short : (v : Verdict) → length (verdict_word v) ≤ longest_word
verdict-short (Fits b r) = omega arith
verdict-short Misses = omega arith
verdict-short Open = omega arith

-- nor is the verdict of a table
table-short : (v : TableVerdict) → length (table_word v) ≤ longest_word
table-short TableFits = omega arith
table-short TableMisses = omega arith
table-short TableOpen = omega arith

-- a figure up to that number is short, and so is the hyphen of a missing one
figure-short : (o : Option ℕ) → ((n : ℕ) → o ≡ some n → n ≤ most_rounds) → length (figure_text (figure_of o)) ≤ most_digits
figure-short none h = digits-some
figure-short (some n) h = number_short n (h n refl)

-- the figure with which a row fits is short, and so is the hyphen of one that does not
fit-short : (v : Verdict) → ((b : Bound) (R : Length) → v ≡ Fits b R → R.0 ≤ most_rounds) → length (figure_text (figure_in v)) ≤ most_digits
fit-short (Fits b r) h = number_short r.0 (h b r refl)
fit-short Misses h = digits-some
fit-short Open h = digits-some

module _ (rows : ℕ → Row) (k : ℕ) (rules : (i : ℕ) → i ≤ k → right_row (rows i) ≡ true) where
  -- D is a number like every other of a table
  deadline-most : (rows k).deadline ≤ largest_number
  deadline-most = (number-range (rows k).deadline (row-deadline (rows k) (rules k (omega arith)))).1

  -- each of a row's three figures and its rounds are short
  figures-short : (length (figure_text (figure_of (whole rows k))) ≤ most_digits)
      × (length (figure_text (figure_of (split_shown (parts (rows k).times) (split rows k)))) ≤ most_digits)
      × (length (figure_text (figure_in (verdict rows k))) ≤ most_digits)
      × (length (digits (row_rounds rows k)) ≤ most_digits)
  figures-short =
      let d = deadline-most in (
        figure-short (whole rows k) (λ n e. omega (arith, whole-most rows k rules n e)),
        figure-short (split_shown (parts (rows k).times) (split rows k)) (λ n e. omega (arith, shown-most rows k rules n e)),
        fit-short (verdict rows k) (λ b R e. omega (arith, fits-most rows k rules b R e)),
        number_short (row_rounds rows k) (omega (arith, rounds-most rows k rules, mul-le-mul_left (suc most_stretches) d)),
      )

  -- A RIGHT ROW'S LINE IS NO LONGER THAN A LINE MAY BE
  pub row_fits : length (row_line (rows k) (figures_of rows k)) ≤ longest_line
  unfolding row_line sum
  row_fits =
      let f = figures_of rows k in
      let s = figures-short in
      omega (
        arith,
        line-sum (rows k).name
            (verdict_word f.verdict ∷ figure_text (figure_in f.verdict) ∷ figure_text f.whole ∷ figure_text f.split ∷ digits f.rounds ∷ []),
        (name-length (rows k).name (row-name (rows k) (rules k (omega arith)))).1,
        verdict-short (verdict rows k),
        s.0,
        s.1,
        s.2,
        s.3,
        limits-agree,
      )

-- the last line is no longer than that of a table that misses
last_fits : (v : TableVerdict) → length (last_line v) ≤ length (spelled "table\tmisses\n")
unfolding last_line sum
last_fits v = omega (arith, line-sum (spelled "table") (table_word v ∷ []), table-short v)

-- THE REPORT OF A RIGHT TABLE IS NO LONGER THAN AN ANSWER MAY BE
pub report-fits : (t : Table) → right_table t ≡ true → length (report_text t) ≤ longest_report
unfolding report_text
report-fits t e =
    let line_at : ℕ → List ℕ = λ k. row_line (row_at t k) (figures_of (row_at t) k) in
    let rules = all-each right_row t (table-right t e) in
    omega (
      arith,
      length-append (joined (map line_at (below (length t)))) (last_line (table_verdict t)),
      lines-length line_at longest_line (length t) (λ k lt. row_fits (row_at t) k (λ i le. rules i _ (omega arith))),
      mul-le-mul_right longest_line (table-size t e).1,
      last_fits (table_verdict t),
    )

-- NO ANSWER TO A TEXT IS LONGER THAN AN ANSWER MAY BE
pub answer-fits : (s : List ℕ) → length (answer_text s) ≤ longest_report
unfolding answer_text
answer-fits s = go (read_text s) refl
  where
    go : (a : Answer) → read_text s ≡ a → length (answer_to a) ≤ longest_report
    go (accepted t) e = report-fits t (text-right s t e)
    go (refused x) e = omega (arith, refused-fits x (text-place s x e))
