-- Tests: two at once.
use Rattle.std.specs.Prelude.{Bool, true, false}

infixr 4 ◌and◌
-- both tests hold
unfoldable pub ◌and◌ : Bool → Bool → Bool
true and b = b
false and b = false

infixr 3 ◌or◌
-- one of the tests holds
unfoldable pub ◌or◌ : Bool → Bool → Bool
true or b = true
false or b = b
