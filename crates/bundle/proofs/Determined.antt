-- The promise of the reader determines its answer: any two answers that keep it are equal.
use Rattle.std.specs.Prelude.{Result, Ok, Err}
use Rattle.base.specs.declared.refusal.Refusal.{Refusal}
use Rattle.base.specs.Refused.{refusal_at}
use Rattle.base.proofs.Refused.{refused_same}
use Prim.Native.Nat.{ℕ}
use mathlib.Core.Path.{◌≡◌, sym, ap, ◌∙◌}
use mathlib.Core.List.{List}
use native.Mathlib.Omega.{arith}
use Rattle.base.specs.Refusals.{Clear, Due, refused, passed}
use Rattle.base.proofs.Refusals.{due_unique, due_clear, due_number}
use Rattle.bundle.specs.declared.read.Sizes.{Sizes}
use Rattle.bundle.specs.Layout.{sizes_in}
use Rattle.bundle.specs.Rows.{reader_rows, no_sizes, Reads}
use Rattle.bundle.proofs.Refusals.{reader_places, reader_numbers}
use Rattle.bundle.proofs.Accepted.{accepted_contents}

module _ (bytes : List ℕ) where
  -- an accepted bundle has an entity
  pub some_sizes : Clear (reader_rows bytes) → no_sizes ≡ sizes_in bytes → ⊥
  some_sizes c e = omega (arith, (accepted_contents bytes no_sizes (record { clear = c; said = e })).some_entity)

  -- a refusal is one that is due
  pub reads_refused : (n p : ℕ) → Reads bytes (Err (refusal_at n p)) → Due (reader_rows bytes) n p
  reads_refused n p (refused d k) = d
  reads_refused n p (passed _ _ c e) = absurd (some_sizes c e)

  pub readings_equal : (r t : Result Sizes (Refusal ℕ)) → Reads bytes r → Reads bytes t → r ≡ t
  readings_equal (Ok s) (Ok t) (passed _ _ c e) (passed _ _ d f) = ap Ok (e ∙ sym f)
  readings_equal (Ok s) (Ok t) (passed _ _ c e) (refused d k) = absurd (omega (arith, due_number (reader_rows bytes) (reader_numbers bytes) 0 0 d))
  readings_equal (Ok s) (Ok t) (refused d k) q = absurd (omega (arith, due_number (reader_rows bytes) (reader_numbers bytes) 0 0 d))
  readings_equal (Ok s) (Err r) (refused d k) q = absurd (omega (arith, due_number (reader_rows bytes) (reader_numbers bytes) 0 0 d))
  readings_equal (Ok s) (Err r) (passed _ _ c e) (refused d k) = absurd (due_clear (reader_rows bytes) r.number r.place c d)
  readings_equal (Ok s) (Err r) (passed _ _ c e) (passed _ _ _ f) = absurd (some_sizes c f)
  readings_equal (Err r) (Ok t) q (refused d k) = absurd (omega (arith, due_number (reader_rows bytes) (reader_numbers bytes) 0 0 d))
  readings_equal (Err r) (Ok t) (refused d k) (passed _ _ c e) = absurd (due_clear (reader_rows bytes) r.number r.place c d)
  readings_equal (Err r) (Ok t) (passed _ _ _ f) (passed _ _ c e) = absurd (some_sizes c f)
  readings_equal (Err r) (Err t) (refused d k) (refused e l) =
      let (same, place) = due_unique (reader_rows bytes) (reader_places bytes) r.number r.place t.number t.place d e in
      refused_same _ _ same place
  readings_equal (Err r) (Err t) (passed _ _ c e) u = absurd (some_sizes c e)
  readings_equal (Err r) (Err t) (refused d k) (passed _ _ c e) = absurd (some_sizes c e)
