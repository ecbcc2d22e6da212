-- The two bytes of a length, and then so many bytes, are an item.
use Rattle.std.proofs.Common.{◌≡◌, ℕ, ◌/◌, ◌%◌, ◌^◌, ◌<◌, ◌≤◌, List, [], ◌∷◌, ◌++◌, arith, length, take, get_or, sym, ap, ◌∙◌, take_all}
use lib.Seq.{take-append_seam}
use Rattle.std.proofs.lemmas.Nat.{be_bytes_2}
use Rattle.std.specs.Int.{w16, from_be_bytes}
use Rattle.streams.specs.Items.{item_of}

pub two-bytes : (n : ℕ) (head : List ℕ) → length head ≡ 2 → ((i : ℕ) → get_or head i 0 < 256) → n ≡ from_be_bytes w16 head → n < 2 ^ 16 → head ≡ n / 256 ∷ n % 256 ∷ []
two-bytes n head two small is fits =
    let high : n / 256 % 256 ≡ n / 256 = omega (arith, fits) in
    sym (be_bytes_2 head n two small is) ∙ ap (λ x. x ∷ n % 256 ∷ []) high

-- the head of an item and its bytes, at the front of the buffer, are what stood in the stream
pub item-joined : (got body n : ℕ) (head bs rest : List ℕ) → head ≡ n / 256 ∷ n % 256 ∷ [] → 2 ≤ got → length bs ≡ n → n ≤ body
    → take got head ++ take body bs ≡ item_of (take n (bs ++ rest))
item-joined got body n head bs rest is two long whole =
    ap (λ l. l ++ take body bs) (take_all got head (omega (arith, ap length is, two)) ∙ is)
    ∙ ap (λ l. n / 256 ∷ n % 256 ∷ l) (take_all body bs (omega (arith, long, whole)))
    ∙ ap (λ m. m / 256 ∷ m % 256 ∷ bs) (sym long)
    ∙ ap item_of (sym (ap (λ m. take m (bs ++ rest)) (sym long) ∙ take-append_seam bs rest))
