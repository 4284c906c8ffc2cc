-- What comparing a line with the line of its candidate tells; and that this is whether the line is right.
use Prim.Native.Nat.{ℕ, ◌<◌}
use native.Mathlib.Omega.{arith}
use mathlib.Core.Path.{◌≡◌, refl, ap, sym, ◌∙◌}
use mathlib.Core.Bool.{Bool, true, false, true≢false}
use mathlib.Core.Logic.{◌↔◌}
use mathlib.Core.List.{List}
use lib.ListN.{length, take, drop}
use lib.Seq.{take_at}
use Rattle.rt0.specs.Credential.{Credential}
use Rattle.base.proofs.Flags.{clash_flag}
use Rattle.text.specs.Written.{Wrote}
use Rattle.text.proofs.Written.{wrote_text}
use Rattle.records.specs.Mistake.{record_wrong}
use Rattle.records.specs.Bytes.{credential_in, bytes_of}
use Rattle.records.proofs.Mistakes.{right_record}
use Rattle.records.proofs.ValidRecord.{valid_record}
use Rattle.records.proofs.Encoded.{encoded_right, encoded_credential}
use Rattle.spelling.specs.Line.{line_of, most_bytes, RightLine}
use Rattle.candidates.specs.Candidate.{candidate_of}
use Rattle.candidates.specs.Tells.{OwnLine, TellsLine, TellsRight}
use Rattle.candidates.proofs.Unique.{candidate_is}
use Rattle.candidates.proofs.Room.{candidate_short}

-- the first bytes of what a credential's line was written into
pub line_tells : (line : List ℕ) (c : Credential) (before after : List ℕ) (n : ℕ) (found : Bool) → length before ≡ most_bytes → Wrote before 0 (line_of c) after n
    → (found ≡ true) ↔ (line ≡ take n after) → TellsLine line c found
line_tells line c before after n found size w (there, back) room =
    let (e, long) = wrote_text w (omega arith) in
    let front : take n after ≡ line_of c =
    rw (e, long) (take_at (line_of c) (drop (length (line_of c)) before) (length (line_of c)) refl) in
    (λ h. there h ∙ front, λ h. back (h ∙ sym front))

module _ (E R : ℕ) (line bytes : List ℕ) (is : bytes ≡ candidate_of line) where
  -- the line of the candidate
  own : line_of (credential_in bytes) ≡ line_of (credential_in (candidate_of line))
  own = ap (λ (l : List ℕ). line_of (credential_in l)) is

  -- a candidate with a mistake
  pub right_no : record_wrong E R bytes ≡ true → TellsRight E R line false
  right_no wrong = (λ h. absurd (true≢false (sym h)), λ (right, _). absurd (clash_flag wrong (ap (record_wrong E R) is ∙ right)))

  -- one without
  pub right_tells : (found : Bool) → record_wrong E R bytes ≡ false → TellsLine line (credential_in bytes) found → TellsRight E R line found
  right_tells found right tells =
      let (there, back) = tells (rw own (candidate_short line)) in
      (λ h. (sym (ap (record_wrong E R) is) ∙ right, there h ∙ own), λ (_, e). back (e ∙ sym own))

-- over entities and names of one digit or two a line is right exactly if it is that of its candidate
pub own_right : (E R : ℕ) → E < 100 → R < 100 → (line : List ℕ) → OwnLine E R line ↔ RightLine E R line
own_right E R a b line = (
  λ (right, e). (credential_in (candidate_of line), valid_record E R (candidate_of line) right, e),
  λ (c, v, e). let same : candidate_of line ≡ bytes_of c = ap candidate_of e ∙ candidate_is E R a b c v in (
    ap (record_wrong E R) same ∙ (right_record E R (bytes_of c)).1 (encoded_right E R c v),
    e ∙ ap line_of (sym (encoded_credential E R c v)) ∙ ap (λ (l : List ℕ). line_of (credential_in l)) (sym same),
  ),
)
