-- A helper of the code: taking the front of a list away.
use Rattle.std.specs.Prelude.{◌≡◌, ◌≢◌, List, ◌++◌, Option, Some, None}

-- what stands after a front in a list, if the list begins with it
abbrev pub IsAfter : {X : Type 0} → List X → List X → Option (List X) → Type 0
IsAfter front list (Some after) = list ≡ front ++ after
IsAfter {X} front list None = (after : List X) → list ≢ front ++ after
