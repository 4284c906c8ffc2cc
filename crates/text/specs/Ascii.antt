-- The bytes of a fixed text, one for each character.
use Rattle.std.specs.Prelude.{ℕ, List}
use Prim.Native.Char.{code}
use Prim.Native.String.{String, [], ◌∷◌}
use mathlib.Core.List as list

abbrev pub ascii : String → List ℕ
ascii [] = list.[]
ascii (character ∷ text) = list.◌∷◌ (code character) (ascii text)

abbrev pub space : List ℕ
space = ascii " "

abbrev pub newline : List ℕ
newline = ascii "\n"
