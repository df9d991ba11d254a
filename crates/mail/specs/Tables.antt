-- Tables with so many places, which are filled from the front.
use Rattle.std.specs.Prelude.{ℕ, ◌-◌, List, ◌++◌, length, take}

-- what a table of n places holds once items are written behind those that it held, as far as there is room
abbrev pub filled : {X : Type 0} → ℕ → List X → List X → List X
filled n xs ys = xs ++ take (n - length xs) ys
