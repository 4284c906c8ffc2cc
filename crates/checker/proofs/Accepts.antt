-- A slip is accepted exactly when it shows, by RT0's definition over the bundle's credentials, what is asked. So what is accepted is
-- a membership; every membership has a slip that is accepted; what is accepted stays accepted when credentials are appended; and any
-- two answers that keep the promise are equal.
use Rattle.std.specs.Prelude.{Ok}
use Prim.Native.Nat.{ℕ, zero, suc, ◌+◌, ◌*◌, ◌/◌, ◌≤◌, ◌<◌}
use native.Mathlib.Omega.{arith}
use mathlib.Core.Path.{◌≡◌, refl, sym, ap, ◌∙◌}
use mathlib.Core.Logic.{◌↔◌}
use mathlib.Core.List.{List, [], ◌++◌, append-nil}
use lib.ListN.{length, take, get_or}
use lib.Seq.{get_or-take, length-take-le}
use Rattle.rt0.specs.Credential.{Credential, ◌∈◌}
use Rattle.rt0.specs.Membership.{Member}
use Rattle.rt0.specs.Book.{Keeps}
use Rattle.rt0.specs.Slip.{SlipFor}
use Rattle.rt0.specs.Bytes.{line_from, lines_of, bytes_of}
use Rattle.rt0.specs.Sizes.{slip_lines, slip_bytes}
use Rattle.rt0.proofs.Slips.{slip_sound, slip_lasts}
use Rattle.rt0.proofs.Books.{book_keeps}
use Rattle.rt0.proofs.SlipBytes.{length_bytes_of, lines_of_bytes_of, bytes_of_small}
use Rattle.rt0.proofs.Bounds.{slip_fits}
use Rattle.base.specs.Refusals.{refused, passed}
use Rattle.base.proofs.Refusals.{clear_first, clear_later, clear_both, due_number}
use Rattle.bundle.specs.declared.read.Sizes.{Sizes}
use Rattle.bundle.specs.declared.question.Question.{Question}
use Rattle.bundle.specs.Layout.{sizes_in, entities_of}
use Rattle.bundle.specs.Rows.{reader_rows, Accepts}
use Rattle.bundle.specs.Held.{held, book_in}
use Rattle.bundle.specs.Question.{role_asked, Asked}
use Rattle.bundle.proofs.Accepted.{accepted_contents, holding_sound}
use Rattle.bundle.proofs.Questions.{asked_clear, clear_asked}
use Rattle.checker.specs.Rows.{checker_rows, Checks}
use Rattle.checker.specs.Shown.{Shown}
use Rattle.checker.proofs.Refusals.{later, checker_numbers, slip_clear, clear_slip}

module _ (bundle : List ℕ) (q : Question) (slip : List ℕ) where
  -- From an acceptance to what it shows, and back.

  module _ (n : ℕ) where
    accepted_shown : Checks bundle q slip (Ok n) → Shown bundle q slip n
    accepted_shown (refused d _) = absurd (omega (arith, due_number (checker_rows bundle q slip) (checker_numbers bundle q slip) 0 0 d))
    accepted_shown (passed _ _ c lines) =
        let accepts : Accepts bundle (sizes_in bundle) = record { clear = clear_first (reader_rows bundle) (later bundle q slip) c; said = refl } in
        let (question_none, slip_none) = clear_later (reader_rows bundle) (later bundle q slip) c in
        let asked = clear_asked bundle (sizes_in bundle) q accepts question_none in
        let (some_line, most_lines, size, right) = clear_slip bundle q slip (sizes_in bundle) accepts slip_none in
        record {
          sizes = sizes_in bundle;
          asked = asked;
          some_line = rw lines some_line;
          most_lines = rw lines most_lines;
          size = rw lines size;
          right = rw lines right;
        }

    shown_accepted : Shown bundle q slip n → Checks bundle q slip (Ok n)
    shown_accepted h =
        let asked = h.asked in
        let lines : n ≡ length slip / 8 = omega (arith, h.size) in
        let rows = slip_clear bundle q slip h.sizes asked.accepts n h.some_line h.most_lines h.size h.right in
        passed refl refl (clear_both (reader_rows bundle) (later bundle q slip) asked.accepts.clear (asked_clear bundle h.sizes q asked, rows)) lines

    -- Accepted exactly when the slip shows it.
    pub accepted_exactly : Checks bundle q slip (Ok n) ↔ Shown bundle q slip n
    accepted_exactly = (accepted_shown, shown_accepted)

    -- What is accepted is a membership.
    pub accepted_member : Checks bundle q slip (Ok n) → Member (held bundle) (role_asked q) q.person
    accepted_member h =
        let s = accepted_shown h in
        let sound = holding_sound bundle s.sizes s.asked.accepts in
        slip_sound (book_in bundle) (held bundle) sound.numbered.only (lines_of slip n) (role_asked q) q.person s.right

-- Every membership has a slip that is accepted, of at most 61,440 bytes, each below 256.

pub record SlipThere (bundle : List ℕ) (q : Question) : Type 0 where
  pub slip : List ℕ
  pub lines : ℕ
  pub accepted : Checks bundle q slip (Ok lines)
  pub size : length slip ≤ slip_bytes
  pub small : (b : ℕ) → b ∈ slip → b < 256

pub member_accepted : (bundle : List ℕ) (s : Sizes) (q : Question) → Asked bundle s q → Member (held bundle) (role_asked q) q.person
    → SlipThere bundle q
member_accepted bundle s q asked m =
    let accepts = asked.accepts in
    let contents = accepted_contents bundle s accepts in
    let sound = holding_sound bundle s accepts in
    let E : entities_of bundle ≤ 32 = omega (arith, contents.entities, contents.entities_most) in
    let (lines, right, once, some_line, most_lines) =
    slip_fits _ _ E (held bundle) sound.valid (book_in bundle) sound.numbered sound.few (role_asked q) q.person m in
    let size = length_bytes_of lines in
    let back : lines_of (bytes_of lines) (length lines) ≡ lines = rw append-nil at (lines_of_bytes_of lines []) in
    let shown : Shown bundle q (bytes_of lines) (length lines) =
    record { sizes = s; asked = asked; some_line = some_line; most_lines = most_lines; size = size; right = rw back right } in
    record {
      slip = bytes_of lines;
      lines = length lines;
      accepted = (accepted_exactly bundle q (bytes_of lines) (length lines)).1 shown;
      size = omega arith;
      small =
          bytes_of_small _ _ (held bundle) sound.valid (book_in bundle) _ sound.numbered (omega arith) (omega (arith, sound.few))
          lines right.right (omega arith);
    }

-- A right slip that stands at the start of a buffer, as the search leaves it, is accepted.

same_line : (xs ys : List ℕ) (i : ℕ) → ((k : ℕ) → k < i + 8 → get_or xs k 0 ≡ get_or ys k 0) → line_from xs i ≡ line_from ys i
same_line xs ys i h =
    rw (
      h i (omega arith),
      h (i + 1) (omega arith),
      h (i + 2) (omega arith),
      h (i + 2 + 1) (omega arith),
      h (i + 4) (omega arith),
      h (i + 4 + 1) (omega arith),
      h (i + 6) (omega arith),
      h (i + 6 + 1) (omega arith),
    )

same_lines : (xs ys : List ℕ) (n : ℕ) → ((k : ℕ) → k < 8 * n → get_or xs k 0 ≡ get_or ys k 0) → lines_of xs n ≡ lines_of ys n
unfolding lines_of
same_lines xs ys zero h = refl
same_lines xs ys (suc n) h =
    rw (same_lines xs ys n (λ k l. h k (omega arith)), same_line xs ys (8 * n) (λ k l. h k (omega arith)))

pub written_accepted : (bundle : List ℕ) (s : Sizes) (q : Question) → Asked bundle s q
    → (bytes : List ℕ) (n : ℕ) → 1 ≤ n → n ≤ slip_lines → 8 * n ≤ length bytes
    → SlipFor (book_in bundle) (role_asked q) q.person (lines_of bytes n) → Checks bundle q (take (8 * n) bytes) (Ok n)
written_accepted bundle s q asked bytes n some_line most_lines long right =
    let start = take (8 * n) bytes in
    let same : lines_of start n ≡ lines_of bytes n = same_lines start bytes n (λ k l. get_or-take (8 * n) bytes k 0 l) in
    (accepted_exactly bundle q start n).1 (record {
      sizes = s;
      asked = asked;
      some_line = some_line;
      most_lines = most_lines;
      size = length-take-le (8 * n) bytes long;
      right = rw same right;
    })

-- What is accepted stays accepted over any bundle that has the same entities and names and keeps what the numbers name; so also when
-- credentials are appended after the last.

pub accepted_kept : (bundle more : List ℕ) (s t : Sizes) (q : Question) (slip : List ℕ) (n : ℕ) → Accepts bundle s → Accepts more t
    → s.entities ≡ t.entities → s.names ≡ t.names → Keeps (book_in bundle) (book_in more)
    → Checks bundle q slip (Ok n) → Checks more q slip (Ok n)
accepted_kept bundle more s t q slip n h k E R keeps c =
    let shown = (accepted_exactly bundle q slip n).0 c in
    let same : shown.sizes ≡ s = shown.asked.accepts.said ∙ sym h.said in
    let entities : shown.sizes.entities ≡ t.entities = ap (λ (x : Sizes). x.entities) same ∙ E in
    let names : shown.sizes.names ≡ t.names = ap (λ (x : Sizes). x.names) same ∙ R in
    (accepted_exactly more q slip n).1 (record {
      sizes = t;
      asked = record {
        accepts = k;
        person = rw entities at shown.asked.person;
        entity = rw entities at shown.asked.entity;
        name = rw names at shown.asked.name;
      };
      some_line = shown.some_line;
      most_lines = shown.most_lines;
      size = shown.size;
      right = slip_lasts (book_in bundle) (book_in more) keeps (lines_of slip n) (role_asked q) q.person shown.right;
    })

pub accepted_lasts : (bundle more : List ℕ) (s t : Sizes) (q : Question) (slip : List ℕ) (n : ℕ) (ks : List Credential)
    → Accepts bundle s → Accepts more t → s.entities ≡ t.entities → s.names ≡ t.names → held more ≡ held bundle ++ ks
    → Checks bundle q slip (Ok n) → Checks more q slip (Ok n)
accepted_lasts bundle more s t q slip n ks h k E R appended =
    accepted_kept bundle more s t q slip n h k E R (rw appended (book_keeps (held bundle) ks))
