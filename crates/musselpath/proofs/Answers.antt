-- What the parts of the code answer is what the definitions say.
use Rattle.std.specs.Prelude.{Option, None, Result, Ok, Err, if◌then◌else◌}
use mathlib.Core.Path.{◌≡◌, refl, sym, ap, ◌∙◌}
use mathlib.Core.Bool.{Bool, true, false}
use mathlib.Core.List.{List, [], ◌∷◌, ◌++◌, map}
use mathlib.Core.Option.{Option as Maybe, none, some}
use Prim.Native.Nat.{ℕ, ◌+◌, ◌-◌, ◌*◌, ◌≤◌, ◌<◌}
use native.Mathlib.Omega.{arith}
use native.Mathlib.Numerals.{add-one}
use lib.Dec.{leb, ltb}
use lib.Seq.{take-suc}
use lib.ListN.{length, take, get_or, replicate, length-map, length-append, length-replicate}
use Rattle.words.specs.Buffer.{fitted}
use Rattle.words.specs.Lists.{below}
use Rattle.words.proofs.Filled.{map_snoc, take_below, length-below, below-same, filled_at}
use Rattle.refusals.specs.declared.Refusal.{Refusal}
use Rattle.refusals.specs.declared.Refusal.TheVariants.{NoText, LongText, NoLineFeed, ManyLines, AfterWaiting, FieldCount, BadName, BadNumber, LateDeadline, LongTimes, NameTaken, BadTable, NoSuchRow, NoRoom, ManyTicks}
use Rattle.refusals.specs.Refusals.{number_of, line_of, field_of}
use Rattle.ticks.specs.declared.Instant.{Instant}
use Rattle.table.specs.Limits.{most_rows, most_ticks}
use Rattle.table.specs.Paper.{row_at}
use Rattle.table.specs.Value.{table_of, well_formed}
use Rattle.table.specs.declared.Table.{Table as TableValue}
use Rattle.text.specs.Read.{Answer, accepted, refused, read_text}
use Rattle.text.specs.Write.{length_in}
use Rattle.table.proofs.Used.{len_is, len-most}
use Rattle.kernel.specs.Completion.{completion}
use Rattle.machine.specs.Run.{completion_value, completions, full_run}
use Rattle.machine.proofs.Completions.{run-there}
use Rattle.text.proofs.Numbers.{text-refuses}
use Rattle.musselpath.specs.Boundary.{instant_of, instants, shift, number_in, line_in, field_in, packed, answer_for, run_answered}
use Rattle.musselpath.specs.Parts.{first_number, numbers_of, ran}

-- a refusal's number is small
pub number_small : (why : Refusal) → number_of why ≤ 23
number_small NoText = omega arith
number_small LongText = omega arith
number_small NoLineFeed = omega arith
number_small (ManyLines l) = omega arith
number_small (AfterWaiting l) = omega arith
number_small (FieldCount l) = omega arith
number_small (BadName l) = omega arith
number_small (BadNumber l f) = omega arith
number_small (LateDeadline l) = omega arith
number_small (LongTimes l) = omega arith
number_small (NameTaken l) = omega arith
number_small BadTable = omega arith
number_small NoSuchRow = omega arith
number_small NoRoom = omega arith
number_small ManyTicks = omega arith

-- numbers, lines and fields that are packed come out again
come-out : (n l f : ℕ) → n < shift → l < shift
    → (number_in (n + shift * l + shift * shift * f) ≡ n) × (line_in (n + shift * l + shift * shift * f) ≡ l) × (field_in (n + shift * l + shift * shift * f) ≡ f)
come-out n l f h k = (omega arith, omega arith, omega arith)

-- WHAT IS ANSWERED FOR A REFUSED TEXT HAS ITS NUMBER, ITS LINE AND ITS FIELD
pub place-comes-out : (s : List ℕ) (why : Refusal) (n : ℕ) (d : List ℕ) → read_text s ≡ refused why
    → (number_in (run_answered s n d) ≡ number_of why) × (line_in (run_answered s n d) ≡ line_of why) × (field_in (run_answered s n d) ≡ field_of why)
unfolding run_answered
place-comes-out s why n d e =
    let p = text-refuses s why e in
    rw e (come-out (number_of why) (line_of why) (field_of why) (omega (arith, p.high)) (omega (arith, p.last)))

-- how many bytes were put there, from what writing answered
pub bytes-fitted : (bs d : List ℕ) (n : ℕ) → length_in bs d ≡ Ok n → n ≡ fitted bs d
unfolding fitted
bytes-fitted bs d n e = go (leb (length bs) (length d)) e
  where
    go : (b : Bool) → ◌≡◌ {A = Result ℕ Refusal} (if b then Ok (length bs) else Err NoRoom) (Ok n) → n ≡ (if b then length bs else 0)
    go true p = let z : length bs ≡ n = cc in sym z
    go false p = cc

pub refused-fitted : (bs d : List ℕ) (why : Refusal) → length_in bs d ≡ Err why → 0 ≡ fitted bs d
unfolding fitted
refused-fitted bs d why e = go (leb (length bs) (length d)) e
  where
    go : (b : Bool) → ◌≡◌ {A = Result ℕ Refusal} (if b then Ok (length bs) else Err NoRoom) (Err why) → 0 ≡ (if b then length bs else 0)
    go true p = cc
    go false p = refl

-- a completion on paper and as the machine has it
first-is : (o : Maybe ℕ) → first_number (completion_value o) ≡ instant_of o
first-is (some c) = refl
first-is none = refl

-- one number more
pub numbers-next : (firsts : List (Option Instant)) (i : ℕ) → i < length firsts
    → numbers_of (take (i + 1) firsts) ≡ numbers_of (take i firsts) ++ (first_number (get_or firsts i None) ∷ [])
numbers-next firsts i h = rw (add-one, take-suc firsts i None h) (map_snoc first_number (take i firsts) (get_or firsts i None))

module _ (v : TableValue) (n : ℕ) (ok : well_formed v ≡ true) (few : n ≤ most_ticks) where
  module _ (firsts : List (Option Instant)) (e : Ok firsts ≡ full_run v n) where
    firsts-are : firsts ≡ completions (table_of v) n
    firsts-are =
        let z : ◌≡◌ {A = Result (List (Option Instant)) Refusal} (Ok firsts) (Ok (completions (table_of v) n)) = e ∙ run-there v n ok few in
        cc

    -- 16 answers, used or not
    pub answers-length : length firsts ≡ most_rows
    unfolding completions
    answers-length =
        let t = table_of v in
        let f : ℕ → Option Instant = λ k. completion_value (completion (row_at t) k n) in
        let a : length (map f (below (length t))) ≡ length t = length-map (below (length t)) f ∙ length-below (length t) in
        let b : length (replicate {A = Option Instant} (most_rows - length t) None) ≡ most_rows - length t = length-replicate (most_rows - length t) None in
        ap length firsts-are
        ∙ length-append (map f (below (length t))) (replicate (most_rows - length t) None)
        ∙ omega (arith, len_is v ok, len-most v ok)

    -- the numbers of all rows
    pub numbers-are : numbers_of (take v.len firsts) ≡ instants (table_of v) n
    unfolding instants completions
    numbers-are =
        let t = table_of v in
        take_below first_number firsts None v.len (omega (arith, answers-length, len-most v ok))
        ∙ ap (λ m. map (λ k. first_number (get_or firsts k None)) (below m)) (len_is v ok)
        ∙ below-same (λ k. first_number (get_or firsts k None)) (λ k. instant_of (completion (row_at t) k n)) (length t)
        (λ k h. ap (λ l. first_number (get_or l k None)) firsts-are
        ∙ ap first_number (filled_at (λ i. completion_value (completion (row_at t) i n)) (length t) _ None k h) ∙ first-is (completion (row_at t) k n))

-- a table that is in use has its run
pub run-some : (v : TableValue) (n : ℕ) (why : Refusal) → well_formed v ≡ true → n ≤ most_ticks → Err why ≡ full_run v n → ⊥
run-some v n why ok few e =
    let z : ◌≡◌ {A = Result (List (Option Instant)) Refusal} (Err why) (Ok (completions (table_of v) n)) = e ∙ run-there v n ok few in
    cc

-- what C is answered, from the run of a text
pub answered-ran : (a : Answer) (n : ℕ) (d : List ℕ) → Ok tt ≡ ran a n d → 0 ≡ answer_for a n d
answered-ran (refused why) n d e = cc
answered-ran (accepted t) n d e = go (ltb most_ticks n) (ltb (length d) (length t)) e
  where
    go : (b c : Bool) → ◌≡◌ {A = Result (Unit {0}) Refusal} (Ok tt) (if b then Err ManyTicks else if c then Err NoRoom else Ok tt)
        → 0 ≡ (if b then packed ManyTicks else if c then packed NoRoom else 0)
    go true c e = cc
    go false true e = cc
    go false false e = refl

pub answered-refused : (a : Answer) (n : ℕ) (d : List ℕ) (why : Refusal) → Err why ≡ ran a n d → packed why ≡ answer_for a n d
answered-refused (refused x) n d why e = let z : why ≡ x = cc in ap packed z
answered-refused (accepted t) n d why e = go (ltb most_ticks n) (ltb (length d) (length t)) e
  where
    go : (b c : Bool) → ◌≡◌ {A = Result (Unit {0}) Refusal} (Err why) (if b then Err ManyTicks else if c then Err NoRoom else Ok tt)
        → packed why ≡ (if b then packed ManyTicks else if c then packed NoRoom else 0)
    go true c e = let z : why ≡ ManyTicks = cc in ap packed z
    go false true e = let z : why ≡ NoRoom = cc in ap packed z
    go false false e = cc

-- its place fits into the number
pub place-small : (s : List ℕ) (n : ℕ) (d : List ℕ) (why : Refusal) → Err why ≡ ran (read_text s) n d → (line_of why ≤ shift) × (field_of why ≤ shift)
place-small s n d why e = go (read_text s) refl e
  where
    go : (a : Answer) → read_text s ≡ a → Err why ≡ ran a n d → (line_of why ≤ shift) × (field_of why ≤ shift)
    go (refused x) q e =
        let z : why ≡ x = cc in
        let p = text-refuses s x q in
        rw z (omega (arith, p.last), omega (arith, p.field))
    go (accepted t) q e = test (ltb most_ticks n) (ltb (length d) (length t)) e
      where
        test : (b c : Bool) → ◌≡◌ {A = Result (Unit {0}) Refusal} (Err why) (if b then Err ManyTicks else if c then Err NoRoom else Ok tt)
            → (line_of why ≤ shift) × (field_of why ≤ shift)
        test true c e = let z : why ≡ ManyTicks = cc in rw z (omega arith, omega arith)
        test false true e = let z : why ≡ NoRoom = cc in rw z (omega arith, omega arith)
        test false false e = cc
