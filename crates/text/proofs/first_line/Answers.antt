-- `first_line` meets its contract: cutting the text once at a line feed gives the first line, and what is behind it.
use mathlib.Core.Path.{◌≡◌, sym, ap, subst, ◌∙◌}
use mathlib.Core.Bool.{false≢true}
use mathlib.Core.Logic.{⊎_elim}
use mathlib.Core.List.{◌∷◌}
use native.Mathlib.Omega.{arith}
use lib.Dec.{eqb}
use lib.ListN.{length}
use borrow.Author.Rules.{rules}
use borrow.Author.Tests.{tests}
use Rattle.std.specs.Fn.{ComputesKey}
use Rattle.std.proofs.lemmas.Fn.{always_returns_same}
use Rattle.fields.specs.Fields.{line_feed}
use Rattle.text.specs.Split.{lines}
use Rattle.text.proofs.Split.{line-fed, line-last}
use Rattle.text.proofs.first_line.Goals.{in_default-via-in-Some+in_default, in_default-via-in_default}
use Rattle.text.proofs.first_line.Goals as goal

pub returns-in-Some-Some : goal.returns-in-Some-Some
returns-in-Some-Some c =
    let s = c.splitn-parts.ensures in
    let a = c.in-Some-Some.ensures.steps in
    let b = c.in-Some-Some.ensures'.steps.1 in
    let first = (a.1.4 (omega (arith, s.count)) (λ b. eqb b line_feed) (subst (ComputesKey _ (λ b. eqb b line_feed)) (sym s.closure) (always_returns_same _ (λ a r. r ≡ eqb a.0.now line_feed) _ (λ a r q k. search (rules, tests))))).1 in
    let last = rw (b.1 (omega (arith, a.0, s.count))) at b.2 in
    ap lines (sym s.rest) ∙ line-fed _ _ _ _ a.1.2 first b.3 ∙ ap (λ m. c.in-Some-Some.line.now ∷ lines m) last

pub returns-in_default : goal.returns-in_default
returns-in_default c =
    let s = c.splitn-parts.ensures in
    elim c.in_default.branch [
      | in_default-via-in-Some+in_default w ↦
          let a = w.in_default.ensures.steps in
          let first = (a.1.4 (omega (arith, s.count)) (λ b. eqb b line_feed) (subst (ComputesKey _ (λ b. eqb b line_feed)) (sym s.closure) (always_returns_same _ (λ a r. r ≡ eqb a.0.now line_feed) _ (λ a r q k. search (rules, tests))))).1 in
          rw (sym s.rest) (⊎_elim (λ z. absurd (omega (arith, z, a.0, s.count))) (λ d. line-last _ _ _ _ a.1.2 first d (omega (arith, ap length s.rest, c.requires))) w.in_default.ensures'.steps.1)
      | in_default-via-in_default w ↦ absurd (⊎_elim (λ z. omega (arith, z, s.count)) (λ d. false≢true (sym s.done ∙ d)) w.in_default.ensures.steps.1)
    ]
