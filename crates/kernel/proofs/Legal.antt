-- The two ways in which the runs that the rules allow are said, specs/Rules and specs/Numbers, say the same.
use mathlib.Core.Path.{◌≡◌, refl, sym, ap, ◌∙◌}
use mathlib.Core.List.{List, [], ◌∷◌}
use mathlib.Core.Logic.{◌↔◌}
use mathlib.Core.Option.{Option, none, some, none-ne-some}
use Prim.Native.Nat.{ℕ, zero, suc, ◌+◌, ◌-◌, ◌*◌, ◌/◌, ◌≤◌, ◌<◌}
use native.Mathlib.Decide.{dec_le}
use native.Mathlib.Omega.{arith}
use lib.ListN.{length, get_or}
use Rattle.table.specs.Paper.{Row, Table, row_at, Part, part, behind, parts}
use Rattle.kernel.specs.Rules.{Input, Within, Legal, LegalRun}
use Rattle.kernel.specs.Numbers.{stretches, suspension, taken, suspended, LegalJob, LegalRow, LegalNumbers}

-- `Within` by places: of a row's stretches, and of those that a job takes
record Inside (l m : List Part) : Type 0 where
  count : length l ≡ length m
  least : (j : ℕ) → j < length m → 1 ≤ taken l j
  most : (j : ℕ) → j < length m → taken l j ≤ taken m j
  longest : (j : ℕ) → j < length m → suspended l j ≤ suspended m j

within-inside : (l m : List Part) → Within l m → Inside l m
within-inside [] [] h =
    record { count = refl; least = λ j lt. absurd (omega arith); most = λ j lt. omega arith; longest = λ j lt. omega arith }
within-inside [] (x ∷ m) h = absurd h
within-inside (x ∷ l) [] h = absurd h
within-inside (part w c ∷ l) (part s k ∷ m) h =
    let rest = within-inside l m h.3 in
    record {
      count = ap suc rest.count;
      least = λ j. least rest j;
      most = λ j. most rest j;
      longest = λ j. longest rest j;
    }
  where
    least : Inside l m → (j : ℕ) → j < suc (length m) → 1 ≤ taken (part w c ∷ l) j
    least rest zero lt = omega (arith, h.1)
    least rest (suc j) lt = rest.least j (omega arith)

    most : Inside l m → (j : ℕ) → j < suc (length m) → taken (part w c ∷ l) j ≤ taken (part s k ∷ m) j
    most rest zero lt = omega (arith, h.2)
    most rest (suc j) lt = rest.most j (omega arith)

    longest : Inside l m → (j : ℕ) → j < suc (length m) → suspended (part w c ∷ l) j ≤ suspended (part s k ∷ m) j
    longest rest zero lt = omega (arith, h.0)
    longest rest (suc j) lt = rest.longest j (omega arith)

inside-within : (l m : List Part) → Inside l m → Within l m
inside-within [] [] h = tt
inside-within [] (x ∷ m) h = absurd (omega (arith, h.count))
inside-within (x ∷ l) [] h = absurd (omega (arith, h.count))
inside-within (part w c ∷ l) (part s k ∷ m) h =
    let rest : Inside l m = record {
      count = omega (arith, h.count);
      least = λ j lt. h.least (suc j) (omega arith);
      most = λ j lt. h.most (suc j) (omega arith);
      longest = λ j lt. h.longest (suc j) (omega arith);
    } in
    (omega (arith, h.longest 0 (omega arith)), omega (arith, h.least 0 (omega arith)), omega (arith, h.most 0 (omega arith)), inside-within l m rest)

-- a row's times by places: half of them, S and C, behind the first C
behind-count : (l : List ℕ) → length (behind l) ≡ length l / 2
behind-count [] = refl
behind-count (s ∷ []) = refl
behind-count (s ∷ c ∷ l) = omega (arith, behind-count l)

behind-pause : (l : List ℕ) (j : ℕ) → j < length (behind l) → suspended (behind l) j ≡ get_or l (2 * j) 0
behind-pause [] j lt = absurd (omega arith)
behind-pause (s ∷ []) j lt = absurd (omega arith)
behind-pause (s ∷ c ∷ l) zero lt = refl
behind-pause (s ∷ c ∷ l) (suc j) lt =
    let e : suc (suc (2 * j)) ≡ 2 * suc j = omega arith in
    behind-pause l j (omega arith) ∙ ap (λ i. get_or (s ∷ c ∷ l) i 0) e

behind-ticks : (l : List ℕ) (j : ℕ) → j < length (behind l) → taken (behind l) j ≡ get_or l (2 * j + 1) 0
behind-ticks [] j lt = absurd (omega arith)
behind-ticks (s ∷ []) j lt = absurd (omega arith)
behind-ticks (s ∷ c ∷ l) zero lt = refl
behind-ticks (s ∷ c ∷ l) (suc j) lt =
    let e : suc (suc (2 * j + 1)) ≡ 2 * suc j + 1 = omega arith in
    behind-ticks l j (omega arith) ∙ ap (λ i. get_or (s ∷ c ∷ l) i 0) e

parts-count : (l : List ℕ) → length (parts l) ≡ (length l + 1) / 2
parts-count [] = refl
parts-count (c ∷ l) = omega (arith, behind-count l)

parts-ticks : (l : List ℕ) (j : ℕ) → j < length (parts l) → taken (parts l) j ≡ get_or l (2 * j) 0
parts-ticks [] j lt = absurd (omega arith)
parts-ticks (c ∷ l) zero lt = refl
parts-ticks (c ∷ l) (suc j) lt =
    let e : suc (2 * j + 1) ≡ 2 * suc j = omega arith in
    behind-ticks l j (omega arith) ∙ ap (λ i. get_or (c ∷ l) i 0) e

parts-pause : (r : Row) (l : List ℕ) → r.times ≡ l → (j : ℕ) → j < length (parts l) → suspended (parts l) j ≡ suspension r j
parts-pause r [] e j lt = absurd (omega arith)
parts-pause r (c ∷ l) e zero lt = refl
parts-pause r (c ∷ l) e (suc j) lt =
    let i : suc (2 * j) ≡ 2 * j + 1 = omega arith in
    behind-pause l j (omega arith) ∙ ap (λ i. get_or (c ∷ l) i 0) i ∙ ap (λ k. get_or k (2 * j + 1) 0) (sym e)

module _ (r : Row) where
  number : length (parts r.times) ≡ stretches r
  number = parts-count r.times

  -- the times of one job
  pub job-same : (l : List Part) → Within l (parts r.times) ↔ LegalJob r l
  job-same l = (forth, back)
    where
      forth : Within l (parts r.times) → LegalJob r l
      forth h =
          let i = within-inside l (parts r.times) h in
          record {
            count = i.count ∙ number;
            least = λ j lt. i.least j (omega (arith, number));
            most = λ j lt. let b : j < length (parts r.times) = omega (arith, number) in omega (arith, i.most j b, parts-ticks r.times j b);
            longest = λ j lt.
                let b : j < length (parts r.times) = omega (arith, number) in omega (arith, i.longest j b, parts-pause r r.times refl j b);
          }

      back : LegalJob r l → Within l (parts r.times)
      back h =
          inside-within l (parts r.times)
          (record {
            count = h.count ∙ sym number;
            least = λ j lt. h.least j (omega (arith, number));
            most = λ j lt. omega (arith, h.most j (omega (arith, number)), parts-ticks r.times j lt);
            longest = λ j lt. omega (arith, h.longest j (omega (arith, number)), parts-pause r r.times refl j lt);
          })

  -- the releases of one row
  pub row_same : (releases : ℕ → Option (List Part)) → Legal r releases ↔ LegalRow r releases
  row_same releases = (forth, back)
    where
      forth : Legal r releases → LegalRow r releases
      forth h = record { jobs = λ u l e. (job-same l).0 (h.within u l e); apart = λ u l e d some-d few-d. go u l e d some-d few-d (releases (u + d)) refl }
        where
          go : (u : ℕ) (l : List Part) → releases u ≡ some l → (d : ℕ) → 0 < d → d < r.period
              → (o : Option (List Part)) → releases (u + d) ≡ o → releases (u + d) ≡ none
          go u l e d some-d few-d none f = f
          go u l e d some-d few-d (some m) f = absurd (omega (arith, h.apart u (u + d) l m (omega arith) e f))

      back : LegalRow r releases → Legal r releases
      back h = record { apart = λ u v l m lt e f. omega (arith, go u v l m lt e f (dec_le (u + r.period) v)); within = λ u l e. (job-same l).1 (h.jobs u l e) }
        where
          go : (u v : ℕ) (l m : List Part) → u < v → releases u ≡ some l → releases v ≡ some m → Dec (u + r.period ≤ v) → u + r.period ≤ v
          go u v l m lt e f (yes le) = le
          go u v l m lt e f (no le) =
              let z : u + (v - u) ≡ v = omega arith in
              absurd (none-ne-some m (sym (h.apart u l e (v - u) (omega arith) (omega arith)) ∙ ap releases z ∙ f))

-- a run is allowed by the one exactly where it is by the other
pub legal-same : (t : Table) (run : ℕ → Input) → LegalRun t run ↔ LegalNumbers t run
legal-same t run =
    ((λ h i lt. (row_same (row_at t i) (λ u. run u i)).0 (h i (omega arith))), (λ h i lt. (row_same (row_at t i) (λ u. run u i)).1 (h i (omega arith))))
