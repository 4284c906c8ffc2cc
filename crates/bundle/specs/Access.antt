-- The marks and records of a bundle, by number.
use Rattle.std.specs.Prelude.{ℕ, ◌+◌, ◌-◌, ◌*◌, cond, List, length, eqb, ltb, Option, None, Some}
use Rattle.base.specs.Byte.{byte_at}
use Rattle.base.specs.Range.{outside}
use Rattle.block.specs.Block.{block_of}
use Rattle.records.specs.declared.form.Record.{Record}
use Rattle.records.specs.Form.{record_in}
use Rattle.bundle.specs.declared.access.Mark.{Mark}
use Rattle.bundle.specs.declared.access.Mark.TheVariants.{Present, Absent}
use Rattle.bundle.specs.Layout.{record_bytes}

-- the mark of shelf A: byte 3 + A, 1 present, 2 absent
abbrev pub mark_of : List ℕ → ℕ → Option Mark
mark_of bytes A =
    cond (outside 32 A) None (cond (eqb (byte_at bytes (3 + A)) 1) (Some Present) (cond (eqb (byte_at bytes (3 + A)) 2) (Some Absent) None))

-- record number n, counted from 1, where the bundle has the block that it stands in
unfoldable pub record_of : List ℕ → ℕ → Option Record
record_of bytes n =
    cond (outside 240 n) None
    (cond (ltb (length bytes) (512 * block_of (n - 1) + 512)) None (record_in (record_bytes bytes (n - 1))))
