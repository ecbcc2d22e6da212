-- Laws of lines as values: the fields of a line one by one, and the lines of a text one by one.
use Rattle.std.specs.Prelude.{Option, Some, None, Ok, Err}
use Rattle.std.specs.List.{take_while}
use mathlib.Core.Path.{◌≡◌, refl, sym, ap, ◌∙◌}
use mathlib.Core.Bool.{not}
use mathlib.Core.List.{List, [], ◌∷◌, ◌++◌, map, append-nil}
use Prim.Native.Nat.{ℕ, zero, suc, ◌+◌, ◌-◌, ◌≤◌, ◌<◌}
use native.Mathlib.Omega.{arith}
use native.Mathlib.Numerals.{add-one}
use borrow.Author.Tests.{lt-leb, le-leb}
use lib.Dec.{eqb}
use lib.ListN.{length, take, drop, get_or, replicate, length-append, length-map, take-append-drop}
use lib.Seq.{take-suc, take_all, get_or-append_seam}
use Rattle.words.specs.Lists.{up_to, below}
use Rattle.words.proofs.Filled.{length-below, filled_at}
use Rattle.words.proofs.Lists.{take_while-up_to, take-up_to, length-up_to}
use Rattle.words.specs.Buffer.{over, placed, fitted}
use Rattle.words.proofs.Buffer.{placed-fits, placed-short}
use Rattle.words.proofs.Put.{Put, spliced, put-part}
use Rattle.fields.specs.Fields.{tab, fields_text, joined}
use Rattle.fields.proofs.Lines.{fields_snoc, fields-front, line-length, put-field, joined-append, joined_snoc}
use Rattle.lines.specs.declared.Field.{Field}
use Rattle.lines.specs.declared.Line.{Line}
use Rattle.lines.specs.Lines.{field_text, texts, line_of, length_in}
use Rattle.refusals.specs.declared.Refusal.TheVariants.{NoRoom}

map-same : (xs : List ℕ) → map (λ x. x) xs ≡ xs
map-same [] = refl
map-same (x ∷ xs) = ap (λ (l : List ℕ). x ∷ l) (map-same xs)

-- a first field ends at the first zero
module _ (xs : List ℕ) (n : ℕ) (e : n ≡ length (take_while (λ b. not (eqb b 0)) xs)) where
  pub head-length : n ≡ length (up_to 0 xs)
  head-length = e ∙ take_while-up_to (λ x. x) 0 xs ∙ ap (λ l. length (up_to 0 l)) (map-same xs)

  pub head-taken : take n xs ≡ up_to 0 xs
  head-taken = ap (λ k. take k xs) head-length ∙ take-up_to 0 xs

  pub head-short : n ≤ length xs
  head-short = omega (arith, head-length, length-up_to 0 xs)

texts-append : (fs gs : List (Option Field)) → texts (fs ++ gs) ≡ texts fs ++ texts gs
texts-append [] gs = refl
texts-append (Some f ∷ fs) gs = ap (λ (l : List (List ℕ)). field_text f ∷ l) (texts-append fs gs)
texts-append (None ∷ fs) gs = texts-append fs gs

-- fields that are there, and none behind them
pub texts-some : (fs : List Field) (n : ℕ) → texts (map Some fs ++ replicate n None) ≡ map field_text fs
texts-some [] zero = refl
texts-some [] (suc n) = texts-some [] n
texts-some (f ∷ fs) n = ap (λ (l : List (List ℕ)). field_text f ∷ l) (texts-some fs n)

-- the fields up to the one at i, which is there or left out
module _ (fs : List (Option Field)) (i : ℕ) (d : Option Field) (h : i < length fs) where
  front : texts (take (i + 1) fs) ≡ texts (take i fs) ++ texts (get_or fs i d ∷ [])
  front = ap (λ k. texts (take k fs)) (add-one i) ∙ ap texts (take-suc fs i d h) ∙ texts-append (take i fs) (get_or fs i d ∷ [])

  pub field-there : (f : Field) → get_or fs i d ≡ Some f → texts (take (i + 1) fs) ≡ texts (take i fs) ++ (field_text f ∷ [])
  field-there f e = front ∙ ap (λ g. texts (take i fs) ++ texts (g ∷ [])) e

  pub field-none : get_or fs i d ≡ None → texts (take (i + 1) fs) ≡ texts (take i fs)
  field-none e = front ∙ ap (λ g. texts (take i fs) ++ texts (g ∷ [])) e ∙ append-nil (texts (take i fs))

  -- one field has a tab and its bytes
  pub length-there : (f : Field) → get_or fs i d ≡ Some f
      → length (fields_text (texts (take (i + 1) fs))) ≡ length (fields_text (texts (take i fs))) + 1 + length (field_text f)
  length-there f e =
      let p = ap (λ ts. length (fields_text ts)) (field-there f e) in
      omega (arith, p, ap length (fields_snoc (texts (take i fs)) (field_text f)), length-append (fields_text (texts (take i fs))) (tab ∷ field_text f))

-- the bytes before the field at n
abbrev pub before : Line → ℕ → List ℕ
before l n = up_to 0 l.head ++ fields_text (texts (take n l.fields))

-- there is room for them, and for the line feed
pub before-room : (l : Line) (n : ℕ) → length (before l n) + 1 ≤ length (line_of l)
before-room l n =
    let e : texts l.fields ≡ texts (take n l.fields) ++ texts (drop n l.fields) =
    ap texts (sym (take-append-drop n l.fields)) ∙ texts-append (take n l.fields) (drop n l.fields) in
    let f : length (before l n) ≤ length (up_to 0 l.head ++ fields_text (texts l.fields)) =
    rw e (fields-front (up_to 0 l.head) (texts (take n l.fields)) (texts (drop n l.fields))) in
    omega (arith, f, line-length (up_to 0 l.head) (texts l.fields), length-append (up_to 0 l.head) (fields_text (texts l.fields)))

-- a field more, put behind them
pub put-there : (l : Line) (i : ℕ) {d x : List ℕ} {at : ℕ} (f : Field) (y : List ℕ) (r : ℕ) → Put (before l i) d x at → i < length l.fields
    → get_or l.fields i None ≡ Some f → length (line_of l) ≤ length d
    → (r ≡ fitted (tab ∷ field_text f) (take (length x - at) (drop at x))) × (y ≡ placed (tab ∷ field_text f) (take (length x - at) (drop at x)))
    → Put (before l (i + 1)) d (spliced x at y) (at + r)
put-there l i {d} {x} {at} f y r p h e room w =
    let s = ap (λ ts. up_to 0 l.head ++ fields_text ts) (field-there l.fields i None h f e) in
    rw s (put-field (up_to 0 l.head) (texts (take i l.fields)) (field_text f) y r p (omega (arith, ap length s, before-room l (i + 1))) w)

-- the first n + 1 of lines are the first n and the one at n
pub joined-next : (ls : List (List ℕ)) (n : ℕ) → n < length ls → joined (take (n + 1) ls) ≡ joined (take n ls) ++ get_or ls n []
joined-next ls n h = ap (λ k. joined (take k ls)) (add-one n) ∙ ap joined (take-suc ls n [] h) ∙ joined_snoc (take n ls) (get_or ls n [])

-- they are no longer than all
pub joined-front : (ls : List (List ℕ)) (n : ℕ) → length (joined (take n ls)) ≤ length (joined ls)
joined-front ls n =
    let e : joined ls ≡ joined (take n ls) ++ joined (drop n ls) = ap joined (sym (take-append-drop n ls)) ∙ joined-append (take n ls) (drop n ls) in
    omega (arith, ap length e, length-append (joined (take n ls)) (joined (drop n ls)))

-- lines measured and written one by one, where l is the line at i
module _ (ls : List (List ℕ)) (i : ℕ) (l d : List ℕ) (h : i < length ls) (e : l ≡ get_or ls i []) where
  -- they have the bytes of those before it, and its own
  pub line-room : length (joined (take (i + 1) ls)) ≡ length (joined (take i ls)) + length l
  line-room = omega (arith, ap length (joined-next ls i h), length-append (joined (take i ls)) (get_or ls i []), ap length e)

  pub left-short : (left : ℕ) → left + length (joined (take i ls)) ≡ length d → left < length l → length d < length (joined ls)
  left-short left k s = omega (arith, joined-front ls (i + 1), line-room)

  pub put-line : {x : List ℕ} {at : ℕ} (y : List ℕ) (r : ℕ) → Put (joined (take i ls)) d x at → length (joined ls) ≤ length d
      → (r ≡ length l) × (y ≡ over l (take (length x - at) (drop at x))) → Put (joined (take (i + 1) ls)) d (spliced x at y) (at + r)
  put-line y r p k w =
      let s : joined (take (i + 1) ls) ≡ joined (take i ls) ++ l = joined-next ls i h ∙ ap (λ m. joined (take i ls) ++ m) (sym e) in
      rw s (put-part l y r p (omega (arith, joined-front ls (i + 1), line-room)) w)

-- all are measured
pub all-fit : (ls : List (List ℕ)) (d : List ℕ) (i left : ℕ) → left + length (joined (take i ls)) ≡ length d → length ls ≤ i → length (joined ls) ≤ length d
all-fit ls d i left k h = omega (arith, ap (λ ms. length (joined ms)) (take_all i ls h))

-- bytes that do not fit are not put, and those that fit are
pub short-in : (bs d : List ℕ) → length d < length bs → (Err NoRoom ≡ length_in bs d) × (d ≡ placed bs d)
short-in bs d h = (rw (lt-leb (length bs) (length d) h), sym (placed-short bs d h))

pub fits-in : (bs d x : List ℕ) (n : ℕ) → length bs ≤ length d → Put bs d x n → (Ok n ≡ length_in bs d) × (x ≡ placed bs d)
fits-in bs d x n h p = (rw (le-leb (length bs) (length d) h) (ap (λ k. Ok k) p.end), p.front ∙ sym (placed-fits bs d h))

-- one line by itself
pub joined-one : (l : List ℕ) → joined (l ∷ []) ≡ l
unfolding joined
joined-one l = append-nil l

-- of lines that a function of their place gives: how many there are, and which stands where
module _ (f : ℕ → List ℕ) (n : ℕ) where
  pub lines-count : length (map f (below n)) ≡ n
  lines-count = length-map (below n) f ∙ length-below n

  pub line-at : (i : ℕ) → i < n → get_or (map f (below n)) i [] ≡ f i
  line-at i h = ap (λ ls. get_or ls i []) (sym (append-nil (map f (below n)))) ∙ filled_at f n [] [] i h

  -- and one more line behind them
  module _ (l : List ℕ) where
    pub lines-count-last : length (map f (below n) ++ (l ∷ [])) ≡ n + 1
    lines-count-last = omega (arith, length-append (map f (below n)) (l ∷ []), lines-count)

    pub line-at-front : (i : ℕ) → i < n → get_or (map f (below n) ++ (l ∷ [])) i [] ≡ f i
    line-at-front i h = filled_at f n (l ∷ []) [] i h

    pub line-at-last : (i : ℕ) → i ≡ n → get_or (map f (below n) ++ (l ∷ [])) i [] ≡ l
    line-at-last i e =
        ap (λ k. get_or (map f (below n) ++ (l ∷ [])) k []) (e ∙ sym lines-count) ∙ get_or-append_seam (map f (below n)) l [] []
