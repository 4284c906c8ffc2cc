-- A list of records judged for its text: each stage answers at the first refusal that applies, and else hands on.
use Rattle.std.specs.Prelude.{Result, Ok, Err}
use Prim.Native.Nat.{ℕ, ◌%◌, ◌<◌, ◌≤◌}
use native.Mathlib.Omega.{arith}
use mathlib.Core.Path.{◌≡◌, refl, sym, ap, ◌∙◌}
use mathlib.Core.Bool.{true, false, true≢false}
use mathlib.Core.Logic.{inl, inr}
use mathlib.Core.List.{List, ◌++◌}
use lib.ListN.{length}
use Rattle.base.specs.declared.refusal.Refusal.{Refusal}
use Rattle.base.specs.Refused.{refusal_at}
use Rattle.base.specs.Refusals.{refused, passed}
use Rattle.base.proofs.Flags.{clash_flag}
use Rattle.base.proofs.Refusals.{due_first}
use Rattle.base.proofs.Judging.{judged_more, judged_behind}
use Rattle.records.specs.Bytes.{credential_in}
use Rattle.records.proofs.ValidRecord.{valid_record}
use Rattle.content.specs.Content.{listed, whole_records}
use Rattle.writer.specs.Rows.{list_rows, FlawBy}
use Rattle.writer.proofs.Tables.{list_none, clear_list}
use Rattle.spelling.proofs.Lengths.{line_short}
use Rattle.letters.specs.Lines.{text_of, credentials_in, counted_bytes, ShortLines}
use Rattle.letters.specs.Rows.{out_of_range, text_rows, write_rows}
use Rattle.letters.specs.Promise.{Says}
use Rattle.letters.proofs.Reading.{range_tells, in_range}
use Rattle.letters.proofs.Filling.{counted_all}

module _ (list : List ℕ) (size : ℕ) where
  -- the number of bytes of its text
  abbrev long : ℕ
  long = length (text_of (credentials_in list))

  pub text_many : 240 < whole_records list → Says (text_rows list size) (Err (refusal_at 12 241)) long
  text_many l = refused (inl (refl, (refl, l))) tt

  module _ (few : whole_records list ≤ 240) (short : ShortLines list) (n : ℕ) (e : n ≡ counted_bytes list (whole_records list)) where
    counted : n ≡ long
    counted = e ∙ counted_all list (whole_records list) short

    pub text_short : size < n → Says (text_rows list size) (Err (refusal_at 13 0)) long
    text_short l = refused (inr (λ (_, (_, many)). omega arith, inl (refl, (refl, omega (arith, counted))))) tt

    pub text_room : n ≤ size → Says (text_rows list size) (Ok n) long
    text_room l = passed refl refl (λ (_, (_, many)). omega arith, (λ (_, (_, no_room)). omega (arith, counted), tt)) (ap Ok counted)

module _ (E R : ℕ) (list : List ℕ) (size : ℕ) where
  pub records_cut : (length list % 12 ≡ 0 → ⊥) → Says (write_rows E R list size) (Err (refusal_at 1 0)) (length (text_of (credentials_in list)))
  records_cut cut = refused (inl (refl, (refl, cut))) tt

  module _ (whole : length list % 12 ≡ 0) where
    pub records_range : out_of_range E R ≡ true → Says (write_rows E R list size) (Err (refusal_at 3 0)) (length (text_of (credentials_in list)))
    records_range h = refused (inr (λ (_, (_, cut)). cut whole, inl (refl, (refl, (range_tells E R).0 h)))) tt

    module _ (range : out_of_range E R ≡ false) where
      behind : (r : Result ℕ (Refusal ℕ)) → Says (list_rows E R list ++ text_rows list size) r (length (text_of (credentials_in list)))
          → Says (write_rows E R list size) r (length (text_of (credentials_in list)))
      behind r h =
          judged_more _ _ (λ (_, (_, cut)). cut whole) (judged_more _ _ (λ (_, (_, out)). clash_flag ((range_tells E R).1 out) range) h)

      pub records_flaw : (why : Refusal ℕ) → FlawBy E R list why.number why.place false
          → Says (write_rows E R list size) (Err why) (length (text_of (credentials_in list)))
      records_flaw why (refused d _) =
          behind (Err why) (refused (due_first (list_rows E R list) (text_rows list size) why.number why.place d) tt)
      records_flaw why (passed _ _ _ ok) = absurd (true≢false (sym ok))

      module _ (h : FlawBy E R list 0 0 true) where
        pub records_short : ShortLines list
        records_short n l =
            let (a, b) = in_range E R range in
            let right = clear_list E R list (list_none E R list h) n l in
            omega (arith, line_short E R a b (credential_in (listed list n)) (valid_record E R (listed list n) right))

        pub records_right : (r : Result ℕ (Refusal ℕ)) → Says (text_rows list size) r (length (text_of (credentials_in list)))
            → Says (write_rows E R list size) r (length (text_of (credentials_in list)))
        records_right r j = behind r (judged_behind (list_rows E R list) (text_rows list size) (list_none E R list h) j)
