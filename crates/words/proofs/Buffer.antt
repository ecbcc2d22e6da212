-- Laws of bytes at the front of a buffer.
use mathlib.Core.Path.{◌≡◌, refl, ap, ◌∙◌}
use mathlib.Core.List.{List, [], ◌∷◌, ◌++◌, append_assoc, append-nil}
use Prim.Native.Nat.{ℕ, ◌+◌, ◌-◌, ◌≤◌, ◌<◌}
use native.Mathlib.Omega.{arith}
use native.Mathlib.Numerals.{add-one}
use borrow.Author.Tests.{le-leb, lt-leb}
use lib.ListN.{length, take, drop, set, get_or, length-append, length-drop, length-take, drop_of_length-le}
use lib.Seq.{drop-drop, drop-append_seam, take-append_seam, take_all, take-length, set_at, drop-cons}
use Rattle.words.specs.Buffer.{over, placed, fitted}

pub over-nil : (d : List ℕ) → over [] d ≡ d
unfolding over
over-nil d = refl

pub length_over : (bs d : List ℕ) → length bs ≤ length d → length (over bs d) ≡ length d
unfolding over
length_over bs d h = simp (length-append, length-drop) (omega arith)

-- one byte more
pub over-snoc : (bs d : List ℕ) (b : ℕ) → length bs < length d → set (over bs d) (length bs) b ≡ over (bs ++ (b ∷ [])) d
unfolding over
over-snoc bs d b h = rw (length-append, add-one, drop-cons d (length bs) 0, append_assoc) (set_at bs (get_or d (length bs) 0) _ b (length bs) refl)

-- more bytes, put into the part of the buffer behind the first
over-next : (bs cs d : List ℕ) (k : ℕ) → k ≡ length d - length bs → length bs + length cs ≤ length d
    → take (length bs) (over bs d) ++ (over cs (take k (drop (length bs) (over bs d))) ++ drop k (drop (length bs) (over bs d))) ≡ over (bs ++ cs) d
unfolding over
over-next bs cs d k e h =
    let g : length (drop (length bs) d) ≤ k = simp length-drop (omega arith) in
    rw (
      take-append_seam,
      drop-append_seam,
      take_all k (drop (length bs) d) g,
      drop_of_length-le
          (drop (length bs) d) g,
      append-nil,
      drop-drop,
      length-append,
      append_assoc,
    )

-- the same, as code has it: x is the buffer so far, and k bytes from at on are lent
pub over-part : (bs cs d x : List ℕ) (at k : ℕ) → x ≡ over bs d → at ≡ length bs → k ≡ length x - at → length bs + length cs ≤ length d
    → take at x ++ (over cs (take k (drop at x)) ++ drop k (drop at x)) ≡ over (bs ++ cs) d
over-part bs cs d x at k ex ea ek h =
    let l : length x ≡ length d = ap length ex ∙ length_over bs d (omega arith) in
    rw (ex, ea) (over-next bs cs d k (omega arith) h)

-- a part that is lent has the room that is left
pub part_room : (x : List ℕ) (at m : ℕ) → at + m ≤ length x → m ≤ length (take (length x - at) (drop at x))
part_room x at m h = simp (length-take, length-drop) (omega arith)

pub placed-fits : (bs d : List ℕ) → length bs ≤ length d → placed bs d ≡ over bs d
unfolding placed
placed-fits bs d h = rw (le-leb (length bs) (length d) h)

pub placed-short : (bs d : List ℕ) → length d < length bs → placed bs d ≡ d
unfolding placed
placed-short bs d h = rw (lt-leb (length bs) (length d) h)

pub fitted-fits : (bs d : List ℕ) → length bs ≤ length d → fitted bs d ≡ length bs
unfolding fitted
fitted-fits bs d h = rw (le-leb (length bs) (length d) h)

pub fitted_short : (bs d : List ℕ) → length d < length bs → fitted bs d ≡ 0
unfolding fitted
fitted_short bs d h = rw (lt-leb (length bs) (length d) h)

-- `buffers::copy` puts its source at the front
pub copied : (s d : List ℕ) (n : ℕ) → n ≡ length s → take n s ++ drop n d ≡ over s d
unfolding over
copied s d n e = rw (e, take-length s)
