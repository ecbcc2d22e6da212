-- The verdict of a table, row by row.
use Rattle.std.specs.Prelude.{Ok, if◌then◌else◌}
use mathlib.Core.Path.{◌≡◌, refl, sym, ap, ◌∙◌}
use mathlib.Core.Bool.{Bool, true, false, false≢true}
use mathlib.Core.List.{List, [], ◌∷◌, ◌++◌}
use Rattle.words.specs.Choice.{◌and◌, ◌or◌}
use Rattle.words.specs.Lists.{all, any}
use Rattle.words.proofs.Choice.{and_parts}
use Rattle.words.proofs.Lists.{all_snoc, any_snoc}
use Rattle.verdicts.specs.declared.Verdict.{Verdict}
use Rattle.verdicts.specs.declared.Verdict.TheVariants.{Fits, Misses, Open}
use Rattle.verdicts.specs.declared.TableVerdict.{TableVerdict}
use Rattle.verdicts.specs.declared.TableVerdict.TheVariants.{Fits as TableFits, Misses as TableMisses, Open as TableOpen}
use Rattle.verdicts.specs.Verdicts.{fits, misses, overall, joined_of}

abbrev status : Bool → Bool → TableVerdict
status a m = if a then TableFits else if m then TableMisses else TableOpen

status-next : (a m : Bool) (x : Verdict) → (a ≡ true → m ≡ false) → joined_of (Ok (status a m)) x ≡ Ok (status (a and fits x) (m or misses x))
unfolding ◌and◌ ◌or◌
status-next true true x h = absurd (false≢true (sym (h refl)))
status-next true false (Fits b r) h = refl
status-next true false Misses h = refl
status-next true false Open h = refl
status-next false true (Fits b r) h = refl
status-next false true Misses h = refl
status-next false true Open h = refl
status-next false false (Fits b r) h = refl
status-next false false Misses h = refl
status-next false false Open h = refl

-- where every row fits none misses
none-misses : (vs : List Verdict) → all fits vs ≡ true → any misses vs ≡ false
unfolding all any ◌or◌
none-misses [] e = refl
none-misses (Fits b r ∷ vs) e = none-misses vs (and_parts e).1
none-misses (Misses ∷ vs) e = absurd (false≢true (and_parts e).0)
none-misses (Open ∷ vs) e = absurd (false≢true (and_parts e).0)

-- one row more
pub overall-next : (vs : List Verdict) (v : Verdict) → joined_of (Ok (overall vs)) v ≡ Ok (overall (vs ++ (v ∷ [])))
overall-next vs v =
    status-next (all fits vs) (any misses vs) v (none-misses vs)
    ∙ ap (λ b. Ok (status b (any misses vs or misses v))) (sym (all_snoc fits vs v))
    ∙ ap (λ b. Ok (status (all fits (vs ++ (v ∷ []))) b)) (sym (any_snoc misses vs v))
