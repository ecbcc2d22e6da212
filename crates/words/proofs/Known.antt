-- What owning an array tells of each of its elements.
use Prim.Native.Nat.{ℕ, zero, suc, ◌<◌}
use mathlib.Core.List.{List, [], ◌∷◌}
use native.Mathlib.Nat.{le_of_suc-le-suc, not-suc-le-zero}
use lib.ListN.{length, get_or}
use base.Fml.{Fml}
use mir.Val.{Val}
use denote.Shadow.{shadow}
use denote.Array.{each}

-- of each element what its own formula says, at some machine value
pub each_at : {X : Type 0} (f : X → List Val → Fml) (xs : List X) (us : List Val) → shadow (each X f xs us) → (k : ℕ) (d : X) → k < length xs
    → (u : Val) × shadow (f (get_or xs k d) (u ∷ []))
each_at f [] us p k d h = absurd (not-suc-le-zero h)
each_at f (x ∷ xs) [] p k d h = absurd p
each_at f (x ∷ xs) (u ∷ us) p zero d h = (u, p.0)
each_at f (x ∷ xs) (u ∷ us) p (suc k) d h = each_at f xs us p.1 k d (le_of_suc-le-suc h)
