-- The records of a bundle one behind the other, as letters take them.
use Rattle.std.specs.Prelude.{ℕ, zero, suc, List, [], ◌++◌}
use Rattle.bundle.specs.Layout.{record_bytes}

-- the first n
unfoldable pub gathered : List ℕ → ℕ → List ℕ
gathered bytes zero = []
gathered bytes (suc n) = gathered bytes n ++ record_bytes bytes n
