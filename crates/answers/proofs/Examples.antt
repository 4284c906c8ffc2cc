-- The lines of some answers and of an accepted bundle, and a message, byte by byte.
use Rattle.std.specs.Prelude.{Ok, Err}
use mathlib.Core.Path.{◌≡◌, refl}
use mathlib.Core.List.{[], ◌∷◌}
use Rattle.base.specs.Refused.{refusal_at}
use Rattle.answers.specs.declared.Answer.TheVariants.{Yes, No, Unsure}
use Rattle.text.specs.Ascii.{ascii}
use Rattle.text.specs.Decimal.{decimal, digits_within}
use Rattle.answers.specs.Line.{accepted_line, message_of, line_of}

-- `YES 4`
yes_4 : line_of (Ok (Yes 4 6)) ≡ 89 ∷ 69 ∷ 83 ∷ 32 ∷ 52 ∷ 10 ∷ []
unfolding decimal digits_within
yes_4 = refl

-- `NO 0`
no_0 : line_of (Ok (No 0)) ≡ 78 ∷ 79 ∷ 32 ∷ 48 ∷ 10 ∷ []
unfolding decimal digits_within
no_0 = refl

-- `UNSURE 7680`
unsure_7680 : line_of (Ok (Unsure 7680)) ≡ 85 ∷ 78 ∷ 83 ∷ 85 ∷ 82 ∷ 69 ∷ 32 ∷ 55 ∷ 54 ∷ 56 ∷ 48 ∷ 10 ∷ []
unfolding decimal digits_within
unsure_7680 = refl

-- `REFUSED 10 6`
refused_10_6 : line_of (Err (refusal_at 10 6)) ≡ 82 ∷ 69 ∷ 70 ∷ 85 ∷ 83 ∷ 69 ∷ 68 ∷ 32 ∷ 49 ∷ 48 ∷ 32 ∷ 54 ∷ 10 ∷ []
unfolding decimal digits_within
refused_10_6 = refl

-- `ACCEPTED 6 6 240`
accepted_6_6_240 : accepted_line 6 6 240
    ≡ 65 ∷ 67 ∷ 67 ∷ 69 ∷ 80 ∷ 84 ∷ 69 ∷ 68 ∷ 32 ∷ 54 ∷ 32 ∷ 54 ∷ 32 ∷ 50 ∷ 52 ∷ 48 ∷ 10 ∷ []
unfolding decimal digits_within
accepted_6_6_240 = refl

-- a message that fits stands as it is
message_fits : message_of (ascii "ask") ≡ 97 ∷ 115 ∷ 107 ∷ []
message_fits = refl
