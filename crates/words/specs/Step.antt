-- A record as the rounds use it: a step, one number that has the record's form, the number of its head's word, and what its body names.
-- A bundle's steps are worked out once; the rounds read them again and again.
use Rattle.std.specs.Prelude.{ℕ, zero, suc, ◌+◌, ◌*◌, ◌/◌, ◌%◌, ◌<◌, min, ◌≡◌, cond, List, length, get_or, set, eqb, Option, Some, None}
use Rattle.std.specs.Int.Bits.{bit_and, bit_or}
use Rattle.base.specs.Range.{outside}
use Rattle.records.specs.declared.form.Record.{Record}
use Rattle.records.specs.declared.form.Record.TheVariants as variant
use Rattle.bundle.specs.Access.{record_of}
use Rattle.words.specs.Sizes.{most_entities, width, table_words, step_part}
use Rattle.words.specs.Give.{place_of, single_of, link_of}

-- ---- a step and its parts

-- the step with a form, a head and three parts of a body
abbrev pub step_with : ℕ → ℕ → ℕ → ℕ → ℕ → ℕ
step_with form head one two three = form + step_part * (head + step_part * (one + step_part * (two + step_part * three)))

abbrev pub form_in : ℕ → ℕ
form_in step = step % step_part

abbrev pub head_in : ℕ → ℕ
head_in step = step / step_part % step_part

abbrev pub body_in : ℕ → ℕ
body_in step = step / step_part / step_part

abbrev pub one_in : ℕ → ℕ
one_in body = body % step_part

abbrev pub two_in : ℕ → ℕ
two_in body = body / step_part % step_part

abbrev pub three_in : ℕ → ℕ
three_in body = body / step_part / step_part

-- ---- the step of a record

-- a number among 1 to most is itself, any other is 0
unfoldable pub among : ℕ → ℕ → ℕ
among most n = cond (outside most n) 0 n

unfoldable pub step_of : Option Record → ℕ
step_of (Some (variant.Entity h B)) = step_with 1 (place_of h.entity h.name) (among most_entities B) 0 0
step_of (Some (variant.Role h ρ)) = step_with 2 (place_of h.entity h.name) (place_of ρ.entity ρ.name) 0 0
step_of (Some (variant.Link h r1 r2)) = step_with 3 (place_of h.entity h.name) (place_of h.entity r1) (among width r2) 0
step_of (Some (variant.TwoParts h ρ σ)) =
    step_with 4 (place_of h.entity h.name) (place_of ρ.entity ρ.name) (place_of σ.entity σ.name) 0
step_of (Some (variant.ThreeParts h ρ σ τ)) =
    step_with 5 (place_of h.entity h.name) (place_of ρ.entity ρ.name) (place_of σ.entity σ.name) (place_of τ.entity τ.name)
step_of None = step_with 0 table_words 0 0 0

-- steps are those of the first n records of a bundle
abbrev pub Stepped : List ℕ → ℕ → List ℕ → Type 0
Stepped bytes n steps = (m : ℕ) → m < n → get_or steps m 0 ≡ step_of (record_of bytes (suc m))

-- lent steps, all filled
pub record Steps (bytes before after : List ℕ) : Type 0 where
  pub size : length after ≡ length before
  pub stepped : Stepped bytes (length before) after

-- ---- what a step gives

-- what a body gives from the words, over E entities, by the form
unfoldable pub body_gives : ℕ → List ℕ → ℕ → ℕ → ℕ
body_gives E ws form body =
    cond (eqb form 1) (single_of (one_in body))
    (cond (eqb form 2) (get_or ws (one_in body) 0)
    (cond (eqb form 3) (link_of ws (get_or ws (one_in body) 0) (two_in body) (min E most_entities))
    (cond (eqb form 4) (bit_and (get_or ws (one_in body) 0) (get_or ws (two_in body) 0))
    (cond (eqb form 5) (bit_and (get_or ws (one_in body) 0) (bit_and (get_or ws (two_in body) 0) (get_or ws (three_in body) 0))) 0))))

abbrev pub step_gives : ℕ → List ℕ → ℕ → ℕ
step_gives E ws step = body_gives E ws (form_in step) (body_in step)

-- the words acc after one use of a step on the words ws
abbrev pub use_step : ℕ → List ℕ → List ℕ → ℕ → List ℕ
use_step E ws acc step = set acc (head_in step) (bit_or (get_or acc (head_in step) 0) (step_gives E ws step))

-- after one use of each of the first n steps
unfoldable pub use_steps : ℕ → List ℕ → List ℕ → List ℕ → ℕ → List ℕ
use_steps E steps ws acc zero = acc
use_steps E steps ws acc (suc n) = use_step E ws (use_steps E steps ws acc n) (get_or steps n 0)
