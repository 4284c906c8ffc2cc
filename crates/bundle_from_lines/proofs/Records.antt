-- The content that is given by the records of valid credentials one behind the other is the one that holds each by itself.
use Prim.Native.Nat.{ℕ, zero, suc, ◌+◌, ◌*◌, ◌<◌}
use native.Mathlib.Omega.{arith}
use mathlib.Core.Path.{◌≡◌, refl, ap, sym, ◌∙◌}
use mathlib.Core.List.Memᴰ
use mathlib.Core.List.{List, [], ◌∷◌, ◌++◌, map}
use lib.ListN.{length, get_or, take, drop, length-map}
use lib.Seq.{take_at, drop_at, drop-drop}
use Rattle.rt0.specs.Credential.{Credential, AllValid}
use Rattle.records.specs.Bytes.{bytes_of}
use Rattle.content.specs.Content.{tabulate, listed, whole_records, content_from}
use Rattle.content.proofs.Tabulated.{is_tabulate}
use Rattle.candidates.proofs.Records.{record_size}
use Rattle.letters.specs.Lines.{records_of}
use Rattle.letters.proofs.Listed.{count_back}
use Rattle.bundle_from_lines.specs.Prints.{content_with}

module _ (E R : ℕ) where
  -- record i of the list
  record_item : (cs : List Credential) → AllValid E R cs → (i : ℕ) → i < length cs → listed (records_of cs) i ≡ get_or (map bytes_of cs) i []
  unfolding records_of
  record_item [] v i l = absurd (omega arith)
  record_item (c ∷ cs) v zero l = take_at (bytes_of c) (records_of cs) 12 (record_size E R c (v c (Memᴰ.head refl)))
  record_item (c ∷ cs) v (suc i) l =
      let n : 12 * suc i ≡ 12 + 12 * i = omega arith in
      let rest : drop (12 * suc i) (bytes_of c ++ records_of cs) ≡ drop (12 * i) (records_of cs) =
      ap (λ (k : ℕ). drop k (bytes_of c ++ records_of cs)) n
      ∙ sym (drop-drop (12 * i) 12 (bytes_of c ++ records_of cs))
      ∙ ap (drop (12 * i)) (drop_at (bytes_of c) (records_of cs) 12 (record_size E R c (v c (Memᴰ.head refl)))) in
      ap (take 12) rest ∙ record_item cs (λ d m. v d (Memᴰ.tail m)) i (omega arith)

  module _ (cs : List Credential) (v : AllValid E R cs) where
    pub content_is : (marks : List ℕ) → content_from E R marks (records_of cs) ≡ content_with E R marks cs
    content_is marks = ap (λ (rs : List (List ℕ)). record { entities = E; names = R; marks = marks; records = rs }) same
      where
        same : tabulate (listed (records_of cs)) (whole_records (records_of cs)) ≡ map bytes_of cs
        same =
            ap (tabulate (listed (records_of cs))) (count_back E R cs v)
            ∙ sym (is_tabulate (listed (records_of cs)) [] (map bytes_of cs) (length cs) (length-map cs bytes_of) (λ i l. sym (record_item cs v i l)))
