-- What a loop over the numbered parts of a slice knows at its head: which parts are left, and the number of the first.
use mathlib.Core.Path.{◌≡◌, refl, sym, ap, subst}
use mathlib.Core.Bool.{Bool, false}
use mathlib.Core.List.{List, [], ◌∷◌}
use Prim.Native.Nat.{ℕ, ◌+◌}
use denote.Ref.{Bor}
use denote.Param.Members.{Mut}
use Rattle.std.specs.Prelude.{Option, Some, None}
use Rattle.std.specs.Fn.{CalledAt}
use Rattle.std.specs.List.{enumerate_from, slice_split}
use Rattle.std.specs.declared.iter.Enumerate.{Enumerate}
use Rattle.std.specs.declared.slice.Split.{Split}
use Rattle.std.specs.Iterator.Adapters.{enumerate_source, enumerate_count, enumerate_steps}
use Rattle.std.specs.Slice.Iter.{split_rest, split_done, split_callee, split_steps}
use Rattle.std.proofs.lemmas.Iterator.{YieldsList}
use Rattle.std.proofs.lemmas.Iterator.Consumers.{YieldsList-from_enumerate}
use Rattle.std.proofs.lemmas.Iterator.Splits.{YieldsList-from_slice_split}

module _ {S : Type 0} (steps : S → Option (ℕ × Bor (List ℕ)) → S → Type 0) where
  -- the iterator s has these parts left, numbered from k
  abbrev pub Parts : S → ℕ → List (List ℕ) → Type 0
  Parts s k xs = YieldsList {B = ℕ × List ℕ} steps (λ p. (p.0, p.1.now)) s (enumerate_from k xs)

  -- the part that a turn begins with is the first of them, and t has the others
  pub next_part : (s t : S) (r : Option (ℕ × Bor (List ℕ))) (i : ℕ) (x : Bor (List ℕ)) (k : ℕ) (xs : List (List ℕ)) → steps s r t → r ≡ Some (i, x) → Parts s k xs
      → (i ≡ k) × (ys : List (List ℕ)) × (xs ≡ x.now ∷ ys) × Parts t (k + 1) ys
  next_part s t r i x k [] h e p = absurd (p.runs (i, x) t (subst (λ o. steps s o t) e h))
  next_part s t r i x k (y ∷ ys) h e p =
      let m = p.runs.1 (i, x) t (subst (λ o. steps s o t) e h) in
      (ap (λ q. q.0) m.0, ys, ap (λ q. q.1 ∷ ys) (sym m.0), record { runs = m.1 })

  -- where the loop ends, none is left
  pub no_part : (s t : S) (r : Option (ℕ × Bor (List ℕ))) (k : ℕ) (xs : List (List ℕ)) → steps s r t → r ≡ None → Parts s k xs → xs ≡ []
  no_part s t r k [] h e p = refl
  no_part s t r k (y ∷ ys) h e p = absurd (p.runs.0 t (subst (λ o. steps s o t) e h))

-- before its first turn, all parts of the slice are left; the facts are the clauses of `split` and `enumerate`, and what the closure computes
pub all_parts : {F : Type 0} (g : Mut F (Bor ℕ × Unit {0}) Bool) (p : ℕ → Bool) {f : F} (xs : List ℕ) (s : Split ℕ F) (i : Enumerate (Split ℕ F))
    → split_rest s ≡ xs → split_done s ≡ false → split_callee s ≡ f → ((x : ℕ) (b : Bool) (q : F) → CalledAt g f x b q → (q ≡ f) × (b ≡ p x))
    → enumerate_source i ≡ s → enumerate_count i ≡ 0 → Parts (enumerate_steps (split_steps g)) i 0 (slice_split p xs)
all_parts g p xs s i rest done closure tests source count =
    YieldsList-from_enumerate (subst (λ w. YieldsList (split_steps g) (λ x. x.now) w (slice_split p xs)) (sym source) (YieldsList-from_slice_split g p xs rest done closure tests)) count
