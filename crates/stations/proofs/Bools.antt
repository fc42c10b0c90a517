-- What an equation of truth values tells of its parts.
use mathlib.Core.Bool.{Bool, true, false, ◌&&◌, ◌||◌, not, true≢false, false≢true}
use mathlib.Core.Logic.{◌⊎◌, inl, inr}
use mathlib.Core.Path.{◌≡◌, refl, sym, ◌∙◌}

-- one or the other
pub test : (b : Bool) → (b ≡ true) ⊎ (b ≡ false)
test true = inl refl
test false = inr refl

pub never {ℓ} : {A : Type ℓ} (b : Bool) → b ≡ true → b ≡ false → A
never b p q = absurd (true≢false (sym p ∙ q))

pub not_true : (b : Bool) → not b ≡ true → b ≡ false
not_true true h = absurd (false≢true h)
not_true false h = refl

pub not_so : (b : Bool) → ¬ (b ≡ true) → b ≡ false
not_so true h = absurd (h refl)
not_so false h = refl

pub and_left : (a b : Bool) → a && b ≡ true → a ≡ true
and_left true b h = refl
and_left false b h = h

pub and_right : (a b : Bool) → a && b ≡ true → b ≡ true
and_right true b h = h
and_right false b h = absurd (false≢true h)

pub and_in : (a b : Bool) → a ≡ true → b ≡ true → a && b ≡ true
and_in a b p q = cc

pub and_whole : (a : Bool) → (a && true) ≡ a
and_whole true = refl
and_whole false = refl

pub and_off : (a b : Bool) → a && b ≡ false → a ≡ true → b ≡ false
and_off true b h p = h
and_off false b h p = absurd (false≢true p)

pub or_cases : (a b : Bool) → a || b ≡ true → (a ≡ true) ⊎ (b ≡ true)
or_cases true b h = inl refl
or_cases false b h = inr h

pub or_left : (a b : Bool) → a ≡ true → a || b ≡ true
or_left a b h = cc

pub or_right : (a b : Bool) → b ≡ true → a || b ≡ true
or_right true b h = refl
or_right false b h = h

pub or_off : (a b : Bool) → a || b ≡ false → (a ≡ false) × (b ≡ false)
or_off true b h = absurd (true≢false h)
or_off false b h = (refl, h)

-- equal, if each is true where the other is
pub same_bool : (a b : Bool) → (a ≡ true → b ≡ true) → (b ≡ true → a ≡ true) → a ≡ b
same_bool true b f g = sym (f refl)
same_bool false true f g = g refl
same_bool false false f g = refl
