-- Where nothing is there.
use Rattle.std.proofs.Common.{◌≡◌, true, Option, Some, None, is_none, option_map, refl}
use Rattle.cells_base.specs.Options.{◌or_else◌}

-- neither of two is there
pub both_none : {A : Type 0} (a b : Option A) → (a or_else b) ≡ None → (a ≡ None) × (b ≡ None)
both_none None b h = (refl, h)
both_none (Some x) b h = cc

pub nothing_of : {X : Type 0} (o : Option X) → is_none o ≡ true → o ≡ None
nothing_of None h = refl
nothing_of (Some x) h = cc

-- where nothing is made of it, it was not there
pub no_value : {X Y : Type 0} (f : X → Y) (o : Option X) → option_map f o ≡ None → o ≡ None
no_value f None h = refl
no_value f (Some x) h = cc
