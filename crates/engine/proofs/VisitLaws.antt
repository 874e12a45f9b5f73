-- The rows that can be visited and those that are to be, as words.
use Prim.Native.Nat.{ℕ, ◌-◌, ◌^◌, ◌<◌}
use mathlib.Core.Path.{◌≡◌, refl, sym, ◌∙◌, ap}
use mathlib.Core.Bool.{Bool, true, false, not, ◌&&◌, ◌||◌}
use mathlib.Core.List.{List}
use lib.Bits.{bit_or, bit_and}
use lib.Dec.{ltb}
use borrow.Author.Tests.{lt-ltb}
use Rattle.psl.specs.Booleans.{bit}
use Rattle.words.specs.Bits.{bit_or_lem, bit_and_lem, bit_not}
use Rattle.engine.specs.Reads.{HeldRows}
use Rattle.engine.specs.PropertyVisits.{called, Visitable}
use Rattle.engine.proofs.TruthLaws.{clash}

pub visits_are : (begin was ends ahead k : ℕ) → bit (bit_and (bit_or (bit_or begin was) ends) ahead) k ≡ called begin was ends k && bit ahead k
visits_are begin was ends ahead k =
    bit_and_lem (bit_or (bit_or begin was) ends) ahead k ∙ ap (λ (b : Bool). b && bit ahead k) (bit_or_lem (bit_or begin was) ends k ∙ ap (λ (b : Bool). b || bit ends k) (bit_or_lem begin was k))

pub visitable_is : (t : List ℕ) (held leaves : ℕ) → leaves < 2 ^ 64 → HeldRows t held → Visitable t leaves (bit_and held ((2 ^ 64 - 1) - leaves))
visitable_is t held leaves fits h = record {
  in_bytes = λ k e. h.in_bytes k (halves (bit held k) (ltb k 64) (bit leaves k) (sym (out k) ∙ e)).0;
  no_leaf = λ k e. (halves (bit held k) (ltb k 64) (bit leaves k) (sym (out k) ∙ e)).1;
  all = λ k l held_here e. out k ∙ rw (h.all k l held_here, lt-ltb k 64 l, e) refl;
}
  where
    out : (k : ℕ) → bit (bit_and held ((2 ^ 64 - 1) - leaves)) k ≡ bit held k && (ltb k 64 && not (bit leaves k))
    out k = bit_and_lem held ((2 ^ 64 - 1) - leaves) k ∙ ap (λ (b : Bool). bit held k && b) (bit_not 64 leaves k fits)

    halves : (a b c : Bool) → a && (b && not c) ≡ true → (a ≡ true) × (c ≡ false)
    halves true true false e = (refl, refl)
    halves true true true e = clash e refl
    halves true false c e = clash e refl
    halves false b c e = clash e refl
