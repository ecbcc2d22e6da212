-- Fields put into a line one after the other, and lines into a text.
use mathlib.Core.Path.{◌≡◌, refl, sym, ap, ◌∙◌}
use mathlib.Core.Bool.{Bool, true}
use mathlib.Core.List.{List, [], ◌∷◌, ◌++◌, map, append_assoc, append-nil}
use Prim.Native.Nat.{ℕ, zero, suc, ◌+◌, ◌-◌, ◌*◌, ◌≤◌, ◌<◌}
use native.Mathlib.Omega.{arith}
use native.Mathlib.Numerals.{add-one}
use lib.ListN.{length, take, drop, get_or, length-append}
use Rattle.words.specs.Lists.{all, below}
use Rattle.words.specs.Buffer.{placed, fitted}
use Rattle.words.proofs.Choice.{and_parts, and_both}
use Rattle.words.proofs.Lists.{all_append}
use Rattle.words.proofs.Filled.{map_below, take_below}
use Rattle.words.proofs.Put.{Put, spliced, put-fitted}
use Rattle.fields.specs.Fields.{line_feed, tab, fields_text, line, joined}

pub fields-append : (fs gs : List (List ℕ)) → fields_text (fs ++ gs) ≡ fields_text fs ++ fields_text gs
unfolding fields_text
fields-append [] gs = refl
fields-append (f ∷ fs) gs = ap (λ (l : List ℕ). tab ∷ l) (ap (λ (l : List ℕ). f ++ l) (fields-append fs gs) ∙ sym (append_assoc f (fields_text fs) (fields_text gs)))

-- one field more
pub fields_snoc : (fs : List (List ℕ)) (f : List ℕ) → fields_text (fs ++ (f ∷ [])) ≡ fields_text fs ++ (tab ∷ f)
unfolding fields_text
fields_snoc fs f = fields-append fs (f ∷ []) ∙ ap (λ (l : List ℕ). fields_text fs ++ (tab ∷ l)) (append-nil f)

pub fields-none : length (fields_text []) ≡ 0
unfolding fields_text
fields-none = refl

-- the length of fields: a tab and its bytes for each
pub fields-length : (f : List ℕ) (fs : List (List ℕ)) → length (fields_text (f ∷ fs)) ≡ 1 + length f + length (fields_text fs)
unfolding fields_text
fields-length f fs = omega (arith, length-append f (fields_text fs))

-- the first fields are no longer than all
pub fields-front : (first : List ℕ) (fs gs : List (List ℕ)) → length (first ++ fields_text fs) ≤ length (first ++ fields_text (fs ++ gs))
fields-front first fs gs =
    omega (
      arith,
      length-append first (fields_text fs),
      length-append first (fields_text (fs ++ gs)),
      ap length (fields-append fs gs),
      length-append (fields_text fs) (fields_text gs),
    )

-- the length of a line
pub line-length : (f : List ℕ) (fs : List (List ℕ)) → length (line f fs) ≡ length f + length (fields_text fs) + 1
unfolding line
line-length f fs = omega (arith, length-append (f ++ fields_text fs) (line_feed ∷ []), length-append f (fields_text fs))

-- the two halves of a line, as they are written
pub line-parts : (first : List ℕ) (fs gs : List (List ℕ)) → line first (fs ++ gs) ≡ first ++ fields_text fs ++ fields_text gs ++ (line_feed ∷ [])
unfolding line
line-parts first fs gs =
    ap (λ (l : List ℕ). l ++ (line_feed ∷ [])) (ap (λ (l : List ℕ). first ++ l) (fields-append fs gs) ∙ sym (append_assoc first (fields_text fs) (fields_text gs)))

-- what the tab and all bytes of the fields pass, their text does
pub fields-all : (test : ℕ → Bool) (fs : List (List ℕ)) → test tab ≡ true → all (all test) fs ≡ true → all test (fields_text fs) ≡ true
unfolding fields_text all
fields-all test [] t e = refl
fields-all test (f ∷ fs) t e = and_both t (all_append test f (fields_text fs) (and_parts e).0 (fields-all test fs t (and_parts e).1))

-- a field, put behind the first and the others
pub put-field : (first : List ℕ) {d x : List ℕ} {at : ℕ} (fs : List (List ℕ)) (f y : List ℕ) (r : ℕ) → Put (first ++ fields_text fs) d x at
    → length (first ++ fields_text (fs ++ (f ∷ []))) ≤ length d
    → (r ≡ fitted (tab ∷ f) (take (length x - at) (drop at x))) × (y ≡ placed (tab ∷ f) (take (length x - at) (drop at x)))
    → Put (first ++ fields_text (fs ++ (f ∷ []))) d (spliced x at y) (at + r)
put-field first {d} {x} {at} fs f y r p h e =
    let a = fields_snoc fs f in
    let l = ap length a ∙ length-append (fields_text fs) (tab ∷ f) in
    let q = put-fitted (tab ∷ f) y r p (omega (arith, length-append first (fields_text fs), length-append first (fields_text (fs ++ (f ∷ []))))) e in
    rw (a, ← append_assoc first (fields_text fs) (tab ∷ f)) q

-- the first field of a line
pub put-start : (first : List ℕ) {d x : List ℕ} {at : ℕ} → Put first d x at → Put (first ++ fields_text []) d x at
unfolding fields_text
put-start first p = rw (append-nil first) p

-- lines, and more behind them
pub joined-append : (ls ms : List (List ℕ)) → joined (ls ++ ms) ≡ joined ls ++ joined ms
unfolding joined
joined-append [] ms = refl
joined-append (l ∷ ls) ms = ap (λ (k : List ℕ). l ++ k) (joined-append ls ms) ∙ sym (append_assoc l (joined ls) (joined ms))

-- one line more
pub joined_snoc : (ls : List (List ℕ)) (l : List ℕ) → joined (ls ++ (l ∷ [])) ≡ joined ls ++ l
unfolding joined
joined_snoc ls l = joined-append ls (l ∷ []) ∙ ap (λ (k : List ℕ). joined ls ++ k) (append-nil l)

-- the first n + 1 of the lines at 0, 1, 2, ..
pub joined-next : (line_at : ℕ → List ℕ) (n : ℕ) → joined (map line_at (below (n + 1))) ≡ joined (map line_at (below n)) ++ line_at n
joined-next line_at n =
    ap (λ k. joined (map line_at (below k))) (add-one n) ∙ ap joined (map_below line_at n) ∙ joined_snoc (map line_at (below n)) (line_at n)

-- fields as parts of a text, each with its tab: the first n
pub fields-below : {A : Type 0} (f : A → List ℕ) (xs : List A) (d : A) (n : ℕ) → n ≤ length xs
    → fields_text (map f (take n xs)) ≡ joined (map (λ k. tab ∷ f (get_or xs k d)) (below n))
unfolding fields_text joined
fields-below {A} f xs d n h = parts (take n xs) ∙ ap joined (take_below (λ x. tab ∷ f x) xs d n h)
  where
    parts : (xs : List A) → fields_text (map f xs) ≡ joined (map (λ x. tab ∷ f x) xs)
    parts [] = refl
    parts (x ∷ xs) = ap (λ (l : List ℕ). tab ∷ f x ++ l) (parts xs)

-- n lines of at most m bytes each have n times m bytes at most
pub lines-length : (f : ℕ → List ℕ) (m n : ℕ) → ((k : ℕ) → k < n → length (f k) ≤ m) → length (joined (map f (below n))) ≤ n * m
unfolding joined below
lines-length f m zero h = omega arith
lines-length f m (suc n) h =
    let e : joined (map f (below (suc n))) ≡ joined (map f (below n)) ++ f n = ap (λ k. joined (map f (below k))) (sym (add-one n)) ∙ joined-next f n in
    omega (arith, ap length e, length-append (joined (map f (below n))) (f n), h n (omega arith), lines-length f m n (λ k lt. h k (omega arith)))
