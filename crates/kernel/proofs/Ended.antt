-- Which jobs are complete, and when the first one is: specs/Rules and specs/Completion say the same as specs/Numbers.
use Rattle.std.specs.Prelude.{if◌then◌else◌}
use mathlib.Core.Path.{◌≡◌, refl, sym, ap, ◌∙◌, subst}
use mathlib.Core.Bool.{Bool, true, false, false≢true}
use mathlib.Core.List.{List, [], ◌∷◌}
use mathlib.Core.Logic.{◌↔◌}
use mathlib.Core.Option.{Option, none, some, some-injective, none-ne-some}
use Prim.Native.Nat.{ℕ, zero, suc, ◌≤◌, ◌<◌}
use native.Mathlib.Decide.{dec_le}
use native.Mathlib.Omega.{arith}
use borrow.Author.Tests.{ltb-true, lt-ltb}
use Rattle.words.proofs.Choice.{and_parts, and_both, if-true}
use Rattle.table.specs.Paper.{Row, Part}
use Rattle.kernel.specs.Rules.{Job, job, after, full, Complete}
use Rattle.kernel.specs.Completion.{first_done, or_else, completion}
use Rattle.kernel.specs.Numbers.{NoneLeft, FirstEnd}

none_more : (s r : ℕ) (l : List Part) (q : List Job) → s < r → NoneLeft s q → NoneLeft s (job r l ∷ q)
none_more s r l q lt h zero b = lt
none_more s r l q lt h (suc j) b = h j (omega arith)

-- a job is complete exactly where it is at no place among those that are not
pub complete-same : (s : ℕ) (q : List Job) → Complete s q ↔ NoneLeft s q
complete-same s [] = ((λ h j lt. absurd (omega arith)), (λ h. tt))
complete-same s (job r l ∷ q) = (
  (λ h. none_more s r l q (omega (arith, h.0)) ((complete-same s q).0 h.1)),
  (λ h. (omega (arith, h 0 (omega arith)), (complete-same s q).1 (λ j lt. h (suc j) (omega arith)))),
)

done-same : (q : List Job) → (first_done q ≡ true) ↔ NoneLeft 0 q
done-same [] = ((λ h j lt. absurd (omega arith)), (λ h. refl))
done-same (job r l ∷ q) = (
  (λ h. none_more 0 r l q (ltb-true 0 r (and_parts h).0) ((done-same q).0 (and_parts h).1)),
  (λ h. and_both (lt-ltb 0 r (h 0 (omega arith))) ((done-same q).1 (λ j lt. h (suc j) (omega arith)))),
)

-- the jobs of row k that are not complete after n ticks of the full run, and whether the first is none of them
abbrev left : (ℕ → Row) → ℕ → ℕ → List Job
left rows k n = after (full rows) n k

abbrev done : (ℕ → Row) → ℕ → ℕ → Bool
done rows k n = first_done (left rows k n)

-- the completion in one tick more than n, where these gave o, and b says whether the first job is complete behind it
abbrev last : ℕ → Option ℕ → Bool → Option ℕ
last n o b = or_else o (if b then some (suc n) else none)

module _ (rows : ℕ → Row) (k : ℕ) where
  one_more : (n : ℕ) → completion rows k (suc n) ≡ last n (completion rows k n) (done rows k (suc n))
  one_more n = refl

  not-before : (n : ℕ) → completion rows k n ≡ none → (u : ℕ) → 1 ≤ u → u ≤ n → NoneLeft 0 (left rows k u) → ⊥
  not-before zero e u p le h = omega arith
  not-before (suc n) e u p le h = go (completion rows k n) (done rows k (suc n)) refl refl (sym (one_more n) ∙ e) (λ z le. not-before n z u p le h)
    where
      go : (o : Option ℕ) (b : Bool) → completion rows k n ≡ o → done rows k (suc n) ≡ b → last n o b ≡ none →
          (completion rows k n ≡ none → u ≤ n → ⊥) → ⊥
      go (some x) b eo eb z ih = none-ne-some x (sym z)
      go none true eo eb z ih = none-ne-some (suc n) (sym z)
      go none false eo eb z ih = at (dec_le u n)
        where
          at : Dec (u ≤ n) → ⊥
          at (yes le) = ih eo le
          at (no nle) =
              let i : u ≡ suc n = omega arith in
              false≢true (sym eb ∙ (done-same (left rows k (suc n))).1 (subst (λ v. NoneLeft 0 (left rows k v)) i h))

  first : (n c : ℕ) → completion rows k n ≡ some c → FirstEnd rows k n c
  first zero c e = absurd (none-ne-some c e)
  first (suc n) c e = go (completion rows k n) (done rows k (suc n)) refl refl (sym (one_more n) ∙ e) (first n c)
    where
      go : (o : Option ℕ) (b : Bool) → completion rows k n ≡ o → done rows k (suc n) ≡ b → last n o b ≡ some c →
          (completion rows k n ≡ some c → FirstEnd rows k n c) → FirstEnd rows k (suc n) c
      go (some x) b eo eb z ih =
          let f = ih (eo ∙ z) in
          record { ticked = f.ticked; inside = omega (arith, f.inside); ended = f.ended; before = f.before }
      go none true eo eb z ih =
          subst (FirstEnd rows k (suc n)) (some-injective (suc n) c z)
          (record {
            ticked = omega arith;
            inside = omega arith;
            ended = (done-same (left rows k (suc n))).0 eb;
            before = λ u p lt. not-before n eo u p (omega arith);
          })
      go none false eo eb z ih = absurd (none-ne-some c z)

  only : (n c : ℕ) → FirstEnd rows k n c → completion rows k n ≡ some c
  only zero c f = absurd (omega (arith, f.ticked, f.inside))
  only (suc n) c f =
      go (dec_le c n) (completion rows k n) refl
      (λ le. only n c (record { ticked = f.ticked; inside = le; ended = f.ended; before = f.before }))
    where
      go : Dec (c ≤ n) → (o : Option ℕ) → completion rows k n ≡ o → (c ≤ n → completion rows k n ≡ some c) → completion rows k (suc n) ≡ some c
      go (yes le) o e ih = one_more n ∙ ap (λ o. last n o (done rows k (suc n))) (ih le)
      go (no nle) (some x) e ih =
          let g = first n x e in
          absurd (f.before x g.ticked (omega (arith, g.inside)) g.ended)
      go (no nle) none e ih =
          let i : c ≡ suc n = omega (arith, f.inside) in
          one_more n
          ∙ ap (λ o. last n o (done rows k (suc n))) e
          ∙ if-true (some (suc n)) none ((done-same (left rows k (suc n))).1 (subst (λ v. NoneLeft 0 (left rows k v)) i f.ended))
          ∙ ap some (sym i)

  -- the completion that the rules give is the first instant after a tick at which the first job is complete
  pub completion-same : (n c : ℕ) → (completion rows k n ≡ some c) ↔ FirstEnd rows k n c
  completion-same n c = (first n c, only n c)
