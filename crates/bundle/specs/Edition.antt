-- The editions of a bundle: which number stands in byte 0 over how many role names. Reader and writer alike go by this.
use Rattle.std.specs.Prelude.{ℕ, cond, leb}

-- the most role names of a bundle of the first edition
abbrev pub first_names : ℕ
first_names = 16

-- the most role names of any bundle
abbrev pub most_names : ℕ
most_names = 32

-- the edition of a bundle over R role names: the first as far as it goes, or else the second
unfoldable pub edition_for : ℕ → ℕ
edition_for R = cond (leb R first_names) 1 2
