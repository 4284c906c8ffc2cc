-- A record place is determined by its two parts, so that any two answers that keep the promise of its constructor are equal.
use mathlib.Core.Path.{◌≡◌}
use Rattle.block.specs.declared.RecordPlace.{RecordPlace}

pub places_equal : (one two : RecordPlace) → one.block ≡ two.block → one.start ≡ two.start → one ≡ two
places_equal one two p q = λ i. record { block = p i; start = q i }
