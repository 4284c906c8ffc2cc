-- Records of credentials: the credentials of the records of credentials are these, and a list of right records is that of its credentials.
use Prim.Native.Nat.{ℕ, zero, suc, ◌+◌, ◌*◌, ◌%◌, ◌<◌, ◌≤◌}
use native.Mathlib.Omega.{arith}
use mathlib.Core.Path.{◌≡◌, refl, ap, sym, ◌∙◌}
use mathlib.Core.List.Memᴰ
use mathlib.Core.List.{List, [], ◌∷◌, ◌++◌, append_assoc, append-nil}
use lib.ListN.{length, get_or, take, drop, length-drop}
use lib.Seq.{take_at, drop_at, drop-drop, take-add, take_all, length-take-le}
use Rattle.rt0.specs.Credential.{◌·◌, entity, Credential, ◌⟵◌, Valid, AllValid}
use Rattle.base.proofs.Lowest.{Missed}
use Rattle.records.specs.Mistake.{record_wrong}
use Rattle.records.specs.Bytes.{credential_in, bytes_of}
use Rattle.records.proofs.Mistakes.{right_record}
use Rattle.records.proofs.ValidRecord.{valid_record}
use Rattle.records.proofs.Encoded.{encoded_right, encoded_credential}
use Rattle.content.specs.Content.{tabulate, listed, whole_records}
use Rattle.content.proofs.Tabulated.{is_tabulate}
use Rattle.writer.specs.Rows.{wrong_listed}
use Rattle.candidates.proofs.Records.{record_size, own_record}
use Rattle.letters.specs.Lines.{records_of, credentials_in}
use Rattle.letters.proofs.Texts.{valid_none, valid_last, records_size}

records_last : (cs : List Credential) (c : Credential) → records_of (cs ++ (c ∷ [])) ≡ records_of cs ++ bytes_of c
unfolding records_of
records_last [] c = append-nil (bytes_of c)
records_last (d ∷ cs) c = rw (records_last cs c, append_assoc (bytes_of d) (records_of cs) (bytes_of c))

-- any credential, for the items past the end of a list
abbrev none : Credential
none = 0 · 0 ⟵ entity 0

module _ (E R : ℕ) where
  valid_at : (cs : List Credential) → AllValid E R cs → (i : ℕ) → i < length cs → Valid E R (get_or cs i none)
  valid_at [] v i l = absurd (omega arith)
  valid_at (c ∷ cs) v zero l = v c (Memᴰ.head refl)
  valid_at (c ∷ cs) v (suc i) l = valid_at cs (λ d m. v d (Memᴰ.tail m)) i (omega arith)

  listed_at : (cs : List Credential) → AllValid E R cs → (i : ℕ) → i < length cs → listed (records_of cs) i ≡ bytes_of (get_or cs i none)
  unfolding records_of
  listed_at [] v i l = absurd (omega arith)
  listed_at (c ∷ cs) v zero l = take_at (bytes_of c) (records_of cs) 12 (record_size E R c (v c (Memᴰ.head refl)))
  listed_at (c ∷ cs) v (suc i) l =
      let n : 12 * suc i ≡ 12 + 12 * i = omega arith in
      let rest : drop (12 * suc i) (bytes_of c ++ records_of cs) ≡ drop (12 * i) (records_of cs) =
      ap (λ (k : ℕ). drop k (bytes_of c ++ records_of cs)) n
      ∙ sym (drop-drop (12 * i) 12 (bytes_of c ++ records_of cs))
      ∙ ap (drop (12 * i)) (drop_at (bytes_of c) (records_of cs) 12 (record_size E R c (v c (Memᴰ.head refl)))) in
      ap (take 12) rest ∙ listed_at cs (λ d m. v d (Memᴰ.tail m)) i (omega arith)

  -- the credentials of the records of credentials are these
  module _ (cs : List Credential) (v : AllValid E R cs) where
    pub count_back : whole_records (records_of cs) ≡ length cs
    count_back = omega (arith, records_size E R cs v)

    pub credentials_back : credentials_in (records_of cs) ≡ cs
    credentials_back =
        ap (tabulate (λ n. credential_in (listed (records_of cs) n))) count_back
        ∙ sym (is_tabulate (λ n. credential_in (listed (records_of cs) n)) none cs (length cs) refl
        (λ i l. sym (ap credential_in (listed_at cs v i l) ∙ encoded_credential E R (get_or cs i none) (valid_at cs v i l))))

    pub records_right : Missed (wrong_listed E R (records_of cs)) (whole_records (records_of cs))
    records_right i l =
        let below : i < length cs = omega (arith, count_back) in
        ap (record_wrong E R) (listed_at cs v i below)
        ∙ (right_record E R (bytes_of (get_or cs i none))).1 (encoded_right E R (get_or cs i none) (valid_at cs v i below))

  -- and the other way: a list of right records is that of its credentials
  module _ (list : List ℕ) (right : Missed (wrong_listed E R list) (whole_records list)) where
    abbrev nth : ℕ → Credential
    nth n = credential_in (listed list n)

    valid_to : (n : ℕ) → n ≤ whole_records list → AllValid E R (tabulate nth n)
    unfolding tabulate
    valid_to zero l = valid_none E R
    valid_to (suc n) l = valid_last E R (tabulate nth n) (nth n) (valid_to n (omega arith)) (valid_record E R (listed list n) (right n (omega arith)))

    records_to : (n : ℕ) → n ≤ whole_records list → records_of (tabulate nth n) ≡ take (12 * n) list
    unfolding tabulate records_of
    records_to zero l = refl
    records_to (suc n) l =
        let size : length (listed list n) ≡ 12 = length-take-le 12 (drop (12 * n) list) (omega (arith, length-drop (12 * n) list)) in
        let own : bytes_of (nth n) ≡ listed list n = own_record E R (listed list n) (size, right n (omega arith)) in
        let more : 12 * suc n ≡ 12 * n + 12 = omega arith in
        records_last (tabulate nth n) (nth n)
        ∙ rw (records_to n (omega arith), own)
        (sym (take-add (12 * n) 12 list) ∙ ap (λ (k : ℕ). take k list) (sym more))

    pub valid_listed : AllValid E R (credentials_in list)
    valid_listed = valid_to (whole_records list) (omega arith)

    pub records_listed : length list % 12 ≡ 0 → records_of (credentials_in list) ≡ list
    records_listed whole = records_to (whole_records list) (omega arith) ∙ take_all (12 * whole_records list) list (omega arith)
