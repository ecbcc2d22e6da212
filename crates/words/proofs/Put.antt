-- Parts put into a lent buffer one after the other.
use mathlib.Core.Path.{◌≡◌, refl, sym, ap, ◌∙◌}
use mathlib.Core.List.{List, [], ◌∷◌, ◌++◌}
use Prim.Native.Nat.{ℕ, ◌+◌, ◌-◌, ◌≤◌, ◌<◌}
use native.Mathlib.Omega.{arith}
use lib.ListN.{length, take, drop, set, length-append}
use Rattle.words.specs.Buffer.{over, placed, fitted}
use Rattle.words.proofs.Buffer.{over-nil, over-snoc, over-part, length_over, part_room, placed-fits, fitted-fits}

-- bs stands at the front of x, which was d: the next byte is put at `at`
pub record Put (bs d x : List ℕ) (at : ℕ) : Type 0 where
  pub front : x ≡ over bs d
  pub end : at ≡ length bs
  pub kept : length x ≡ length d

pub put-over : (bs d x : List ℕ) (at : ℕ) → at ≡ length bs → x ≡ over bs d → length bs ≤ length d → Put bs d x at
put-over bs d x at a e h = record { front = e; end = a; kept = ap length e ∙ length_over bs d h }

pub put-none : (d : List ℕ) → Put [] d d 0
put-none d = record { front = sym (over-nil d); end = refl; kept = refl }

-- one byte more
pub put_byte : {bs d x : List ℕ} {at : ℕ} (b : ℕ) → Put bs d x at → length bs < length d → Put (bs ++ (b ∷ [])) d (set x at b) (at + 1)
put_byte {bs} {d} {x} {at} b p h =
    let l = length-append bs (b ∷ []) in
    put-over (bs ++ (b ∷ [])) d (set x at b) (at + 1) (omega (arith, l, p.end)) (rw (p.front, p.end) (over-snoc bs d b h)) (omega (arith, l))

pub put_first : (d : List ℕ) (b : ℕ) → 0 < length d → Put (b ∷ []) d (set d 0 b) 1
put_first d b h = put_byte b (put-none d) h

-- the buffer x after its part from `at` on, lent to a call, became y
abbrev pub spliced : List ℕ → ℕ → List ℕ → List ℕ
spliced x at y = take at x ++ (y ++ drop (length x - at) (drop at x))

-- a part, put into the rest of the buffer
pub put-part : {bs d x : List ℕ} {at : ℕ} (cs y : List ℕ) (r : ℕ) → Put bs d x at → length bs + length cs ≤ length d
    → (r ≡ length cs) × (y ≡ over cs (take (length x - at) (drop at x))) → Put (bs ++ cs) d (spliced x at y) (at + r)
put-part {bs} {d} {x} {at} cs y r p h e =
    let l = length-append bs cs in
    put-over (bs ++ cs) d (spliced x at y) (at + r) (omega (arith, l, p.end, e.0))
    (rw e.1 (over-part bs cs d x at (length x - at) p.front p.end refl h)) (omega (arith, l))

-- what is put next lies within the buffer, and has the room that is left
pub put-within : {bs d x : List ℕ} {at : ℕ} → Put bs d x at → length bs ≤ length d → at ≤ length x
put-within p h = omega (arith, p.end, p.kept)

pub put-room : {bs d x : List ℕ} {at : ℕ} (m : ℕ) → Put bs d x at → length bs + m ≤ length d → m ≤ length (take (length x - at) (drop at x))
put-room {bs} {d} {x} {at} m p h = part_room x at m (omega (arith, p.end, p.kept))

-- a part that was to be put into the rest of the buffer, where it has room
pub put-fitted : {bs d x : List ℕ} {at : ℕ} (cs y : List ℕ) (r : ℕ) → Put bs d x at → length bs + length cs ≤ length d
    → (r ≡ fitted cs (take (length x - at) (drop at x))) × (y ≡ placed cs (take (length x - at) (drop at x))) → Put (bs ++ cs) d (spliced x at y) (at + r)
put-fitted {bs} {d} {x} {at} cs y r p h e =
    let k = put-room (length cs) p h in
    put-part cs y r p h (e.0 ∙ fitted-fits cs _ k, e.1 ∙ placed-fits cs _ k)
