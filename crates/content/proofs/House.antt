-- The small house as a content: the checks of its two blocks are those of the paper, 101 and 6,884.
use mathlib.Core.Path.{◌≡◌, refl}
use mathlib.Core.List.{[], ◌∷◌, ◌++◌}
use lib.ListN.{replicate}
use Rattle.block.specs.Block.{weighed, check_of}
use Rattle.records.specs.Bytes.{twelve}
use Rattle.bundle.specs.Edition.{edition_for}
use Rattle.content.specs.Content.{Content, tabulate}
use Rattle.content.specs.Encode.{first_byte, records_byte, check_by}

-- all shelves present
pub house : Content
house =
    record {
      entities = 6;
      names = 6;
      marks = replicate 6 1 ++ replicate 26 0;
      records =
          twelve (2 ∷ 1 ∷ 2 ∷ 2 ∷ 3 ∷ [])
          ∷ twelve (1 ∷ 2 ∷ 3 ∷ 3 ∷ [])
          ∷ twelve (3 ∷ 1 ∷ 1 ∷ 2 ∷ 4 ∷ [])
          ∷ twelve (1 ∷ 3 ∷ 4 ∷ 4 ∷ [])
          ∷ twelve (1 ∷ 5 ∷ 5 ∷ 4 ∷ [])
          ∷ twelve (4 ∷ 1 ∷ 6 ∷ 2 ∷ 1 ∷ 1 ∷ 5 ∷ 5 ∷ [])
          ∷ [];
    }

pub first_check_lem : check_by (first_byte house) ≡ 101
unfolding check_by check_of weighed tabulate house edition_for
first_check_lem = refl

pub records_check : check_by (records_byte house 0) ≡ 6884
unfolding check_by check_of weighed tabulate house records_byte
records_check = refl
