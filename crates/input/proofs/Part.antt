-- A part of a buffer was lent and came back.
use Rattle.std.proofs.Common.{◌≡◌, ℕ, ◌+◌, ◌≤◌, List, ◌++◌, length, take, sym, ap, ◌∙◌, length-take-le}
use borrow.Rule.Slice.PartMut.{put_mid, post_of}
use lib.Seq.{take-append-add, take-append-le}

-- what stands in front of a part, and then the first n bytes of the part as it came back
pub take-put_mid : (a k n : ℕ) (xs ys : List ℕ) → a ≤ length xs → n ≤ length ys → take a xs ++ take n ys ≡ take (a + n) (put_mid a k xs ys)
take-put_mid a k n xs ys within fits =
    let front = take a xs in
    let after = post_of a k xs in
    ap (λ l. front ++ l) (sym (take-append-le n ys after fits))
    ∙ sym (take-append-add front (ys ++ after) n)
    ∙ ap (λ m. take (m + n) (put_mid a k xs ys)) (length-take-le a xs within)
