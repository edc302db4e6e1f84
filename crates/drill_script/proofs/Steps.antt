-- Steps that may fail: what a step that gave a value says of the steps before it.
use Rattle.std.proofs.Common.{◌≡◌, Bool, true, false, cond, Option, Some, None, refl}
use Rattle.std.specs.Prelude.{IfSome}
use Rattle.drill_script.specs.Reading.{◌>>=◌}

-- the value of a step that did not fail
pub bind_some : {A B : Type 0} (read : Option A) (f : A → Option B) (y : B) → (read >>= f) ≡ Some y → (x : A) × (read ≡ Some x) × (f x ≡ Some y)
bind_some (Some x) f y e = (x, refl, e)
bind_some None f y e = absurd cc

-- a test that did not fail
pub test_some : {A : Type 0} (b : Bool) (x y : A) → cond b (Some x) None ≡ Some y → (b ≡ true) × (x ≡ y)
test_some true x y e = (refl, cc)
test_some false x y e = absurd cc

-- a test that has to fail
pub test_none : {A : Type 0} (b : Bool) (read : Option A) (y : A) → cond b None read ≡ Some y → (b ≡ false) × (read ≡ Some y)
test_none true read y e = absurd cc
test_none false read y e = (refl, e)

-- a choice by a test
pub chosen : {A : Type 0} (P : Type 0) (b : Bool) (x y z : A) → cond b x y ≡ z → (b ≡ true → x ≡ z → P) → (b ≡ false → y ≡ z → P) → P
chosen P true x y z e at_true at_false = at_true refl e
chosen P false x y z e at_true at_false = at_false refl e

-- a fact about the value of a step
pub some_holds : {A : Type 0} (P : A → Type 0) (read : Option A) → ((x : A) → read ≡ Some x → P x) → IfSome read P
some_holds P None h = tt
some_holds P (Some x) h = h x refl
