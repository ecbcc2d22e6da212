-- Laws of lines and fields: that cutting at the byte gives them, and that put together again they are the text.
use Rattle.std.specs.Prelude.{MatchBool, if◌then◌else◌}
use Rattle.std.specs.List.{slice_split, onto_first, AllWithin, IsFirstMatchOrLen}
use Rattle.std.proofs.lemmas.List.{append_assoc, append-nil}
use mathlib.Core.Path.{◌≡◌, refl, sym, ap, ◌∙◌}
use mathlib.Core.Bool.{Bool, true, false, not, cond, false≢true}
use mathlib.Core.List.{List, [], ◌∷◌, ◌++◌, map}
use Prim.Native.Nat.{ℕ, suc, ◌+◌, ◌-◌, ◌<◌}
use native.Mathlib.Omega.{arith}
use lib.Dec.{eqb}
use lib.ListN.{length, get_or, drop, length-append}
use lib.Seq.{get_or-append_seam}
use borrow.Author.Tests.{not-true, eqb-true, eqb-false, ne_eqb}
use Rattle.words.specs.Lists.{all}
use Rattle.words.proofs.Choice.{and_parts, and_both}
use Rattle.words.proofs.Lists.{lacks}
use Rattle.fields.specs.Fields.{line_feed, tab, fields_text, joined}
use Rattle.text.specs.Split.{on_first, lines, fields}

-- bytes without b

lacks-parts : (b x : ℕ) (xs : List ℕ) → lacks b (x ∷ xs) ≡ true → (x ≡ b → ⊥) × (lacks b xs ≡ true)
unfolding all
lacks-parts b x xs e = (eqb-false x b (not-true (eqb x b) (and_parts e).0), (and_parts e).1)

-- where all bytes pass a test that b fails, none is b
pub lacks-by : (test : ℕ → Bool) (b : ℕ) (xs : List ℕ) → test b ≡ false → all test xs ≡ true → lacks b xs ≡ true
unfolding all
lacks-by test b [] f e = refl
lacks-by test b (x ∷ xs) f e = and_both (ap not (ne_eqb x b (λ q. false≢true (sym f ∙ rw (← q) (and_parts e).0)))) (lacks-by test b xs f (and_parts e).1)

-- a line with its line feed
abbrev pub ended : List ℕ → List ℕ
ended l = l ++ (line_feed ∷ [])

-- the last byte of a text, where it has one
pub last_byte : (s front : List ℕ) (x : ℕ) → s ≡ front ++ (x ∷ []) → length front + 1 ≡ length s → get_or s (length s - 1) 0 ≡ x
last_byte s front x e h =
    let k : length s - 1 ≡ length front = omega arith in
    rw k (ap (λ (l : List ℕ). get_or l (length front) 0) e ∙ get_or-append_seam front x [] 0)

-- lines and fields are what cutting at the byte gives; the line feed that ends the last line is no part of any

on-first : (x : ℕ) (ls : List (List ℕ)) → onto_first x ls ≡ on_first x ls
unfolding on_first
on-first x [] = refl
on-first x (l ∷ ls) = refl

cut-same : (t : Bool) (x : ℕ) (ks ls : List (List ℕ)) → ks ≡ ls → cond t ([] ∷ ks) (onto_first x ks) ≡ (if t then [] ∷ ls else on_first x ls)
cut-same true x ks ls e = ap (λ (ls : List (List ℕ)). [] ∷ ls) e
cut-same false x ks ls e = ap (onto_first x) e ∙ on-first x ls

pub cut_lines : (s : List ℕ) → slice_split (λ b. eqb b line_feed) s ≡ lines (ended s)
unfolding lines
cut_lines [] = refl
cut_lines (x ∷ s) = cut-same (eqb x line_feed) x _ _ (cut_lines s)

pub cut_fields : (s : List ℕ) → slice_split (λ b. eqb b tab) s ≡ fields s
unfolding fields
cut_fields [] = refl
cut_fields (x ∷ s) = cut-same (eqb x tab) x _ _ (cut_fields s)

-- the fields of a line put together again, a tab before each: the line behind a tab

pub fields-text : (s : List ℕ) → fields_text (fields s) ≡ tab ∷ s
unfolding fields fields_text on_first
fields-text [] = refl
fields-text (x ∷ s) = go (eqb x tab) refl (fields s) (fields-text s)
  where
    go : (t : Bool) → eqb x tab ≡ t → (ls : List (List ℕ)) → fields_text ls ≡ tab ∷ s → fields_text (if t then [] ∷ ls else on_first x ls) ≡ tab ∷ x ∷ s
    go true e ls h = rw (eqb-true x tab e) (ap (λ (l : List ℕ). tab ∷ l) h)
    go false e [] h = absurd (omega (arith, ap length h))
    go false e (l ∷ ls) h = ap (λ (r : List ℕ). tab ∷ x ∷ drop 1 r) h

-- the lines of a text put together again

pub lines-none : (s : List ℕ) → length s ≡ 0 → lines s ≡ []
unfolding lines
lines-none [] h = refl
lines-none (x ∷ s) h = absurd (omega arith)

pub lines-some : (s : List ℕ) → 0 < length s → 0 < length (lines s)
unfolding lines on_first
lines-some [] h = absurd (omega arith)
lines-some (x ∷ s) h = go (eqb x line_feed) (lines s)
  where
    go : (t : Bool) (ls : List (List ℕ)) → 0 < length (if t then [] ∷ ls else on_first x ls)
    go true ls = omega arith
    go false [] = omega arith
    go false (l ∷ ls) = omega arith

pub lines-text : (s : List ℕ) → (length s ≡ 0 → ⊥) → get_or s (length s - 1) 0 ≡ line_feed → joined (map ended (lines s)) ≡ s
unfolding lines joined on_first
lines-text [] h e = absurd (h refl)
lines-text (x ∷ []) h e = rw e
lines-text (x ∷ y ∷ s) h e =
    let k : suc (suc (length s)) - 1 ≡ suc (suc (length s) - 1) = omega arith in
    go (eqb x line_feed) refl (lines (y ∷ s)) (lines-text (y ∷ s) (λ z. omega arith) (rw k at e))
  where
    go : (t : Bool) → eqb x line_feed ≡ t → (ls : List (List ℕ)) → joined (map ended ls) ≡ y ∷ s → joined (map ended (if t then [] ∷ ls else on_first x ls)) ≡ x ∷ y ∷ s
    go true q ls i = rw (eqb-true x line_feed q) (ap (λ (l : List ℕ). line_feed ∷ l) i)
    go false q [] i = absurd (omega (arith, ap length i))
    go false q (l ∷ ls) i = ap (λ (r : List ℕ). x ∷ r) i

-- splitting what was put together

pub lines-ended : (l rest : List ℕ) → lacks line_feed l ≡ true → lines (ended l ++ rest) ≡ l ∷ lines rest
unfolding lines on_first
lines-ended [] rest f = refl
lines-ended (x ∷ l) rest f = rw (ne_eqb x line_feed (lacks-parts line_feed x l f).0, lines-ended l rest (lacks-parts line_feed x l f).1)

field-first : (f rest : List ℕ) (ls : List (List ℕ)) → lacks tab f ≡ true → fields rest ≡ [] ∷ ls → fields (f ++ rest) ≡ f ∷ ls
unfolding fields on_first
field-first [] rest ls e h = h
field-first (x ∷ f) rest ls e h = rw (ne_eqb x tab (lacks-parts tab x f e).0, field-first f rest ls (lacks-parts tab x f e).1 h)

pub fields-parted : (fs : List (List ℕ)) (f : List ℕ) → all (lacks tab) (f ∷ fs) ≡ true → fields (f ++ fields_text fs) ≡ f ∷ fs
unfolding fields fields_text all
fields-parted [] f e = field-first f [] [] (and_parts e).0 refl
fields-parted (g ∷ fs) f e = field-first f (tab ∷ g ++ fields_text fs) (g ∷ fs) (and_parts e).0 (ap (λ (l : List (List ℕ)). [] ∷ l) (fields-parted fs g (and_parts e).1))

-- cutting a text once, at its first line feed

lines-whole : (l : List ℕ) → 0 < length l → lacks line_feed l ≡ true → lines l ≡ l ∷ lines []
unfolding lines on_first
lines-whole [] h f = absurd (omega arith)
lines-whole (x ∷ []) h f = rw (ne_eqb x line_feed (lacks-parts line_feed x [] f).0)
lines-whole (x ∷ y ∷ l) h f = rw (ne_eqb x line_feed (lacks-parts line_feed x (y ∷ l) f).0, lines-whole (y ∷ l) (omega arith) (lacks-parts line_feed x (y ∷ l) f).1)

lacks-before : (b : ℕ) (l rest : List ℕ) → AllWithin (λ x. eqb x b ≡ false) (l ++ rest) 0 (length l) → lacks b l ≡ true
unfolding all
lacks-before b [] rest h = refl
lacks-before b (x ∷ l) rest h = and_both (ap not (h 0 0 (omega arith) (omega arith))) (lacks-before b l rest (λ k d z m. h (suc k) d (omega arith) (omega arith)))

-- l goes up to the first line feed, behind which the rest stands, or to the end where there is none
module _ (s l rest : List ℕ) (done : Bool) (cut : MatchBool done (s ≡ l) ((x : ℕ) × (s ≡ l ++ (x ∷ rest)))) (first : IsFirstMatchOrLen (λ b. eqb b line_feed) s (length l)) where
  pub line-fed : done ≡ false → lines s ≡ l ∷ lines rest
  line-fed e =
      let c = rw e at cut in
      let f = rw c.1 at first in
      let x : eqb c.0 line_feed ≡ true = rw get_or-append_seam at (f.1 (simp length-append (omega arith)) 0) in
      ap lines (c.1 ∙ ap (λ (y : ℕ). l ++ (y ∷ rest)) (eqb-true c.0 line_feed x) ∙ sym (append_assoc l (line_feed ∷ []) rest))
      ∙ lines-ended l rest (lacks-before line_feed l (c.0 ∷ rest) f.0)

  pub line-last : done ≡ true → 0 < length s → lines s ≡ s ∷ lines []
  line-last e h =
      let c = rw e at cut in
      let f = rw (c ∙ sym (append-nil l)) at first in
      let k : 0 < length l = omega (arith, ap length c) in
      rw c (lines-whole l k (lacks-before line_feed l [] f.0))
