-- What follows from each of three flags follows where one of them is set: the rows that the pass over the property rows visits first.
use mathlib.Core.Path.{◌≡◌}
use mathlib.Core.Bool.{Bool, true, false, ◌||◌}

pub any_of : {A : Type 0} (a b c : Bool) → (a ≡ true → A) → (b ≡ true → A) → (c ≡ true → A) → (a || b) || c ≡ true → A
any_of true b c p q r e = p e
any_of false true c p q r e = q e
any_of false false c p q r e = r e
