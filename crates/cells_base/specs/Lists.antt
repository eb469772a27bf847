-- A list with one more behind it, if there is one.
use Rattle.std.specs.Prelude.{List, [], ◌∷◌, ◌++◌, Option, Some, None}

abbrev pub with_entry : {E : Type 0} → List E → Option E → List E
with_entry es None = es
with_entry es (Some e) = es ++ e ∷ []
