-- Round after round of an accepted bundle: while every round so far changed something, the words are those after so many rounds and
-- the number of rounds is small; the next round leaves less room, or the words are at rest.
use Prim.Native.Nat.{ℕ, suc, ◌+◌, ◌*◌, ◌<◌, ◌≤◌}
use native.Mathlib.Nat.{mul-le-mul}
use native.Mathlib.Numerals.{add-one}
use native.Mathlib.Omega.{arith}
use mathlib.Core.Path.{◌≡◌, refl, sym, ◌∙◌}
use mathlib.Core.List.{List}
use borrow.Author.Count.{below_none, below_more}
use lib.ListN.{length}
use Rattle.rt0.specs.Credential.{Credential}
use Rattle.rt0.specs.Table.{distinct_heads}
use Rattle.rt0.specs.Word.{round_words, times_words, Fits}
use Rattle.rt0.specs.Sizes.{most_rounds}
use Rattle.rt0.proofs.Heads.{heads_few}
use Rattle.rt0.proofs.Shown.{times_fits}
use Rattle.rt0.proofs.Settle.{room, room_falls, moving_few}
use Rattle.bundle.specs.declared.read.Sizes.{Sizes}
use Rattle.bundle.specs.Rows.{Accepts}
use Rattle.bundle.specs.Held.{held}
use Rattle.bundle.proofs.Accepted.{Contents, accepted_contents, holding_sound}
use Rattle.words.specs.Sizes.{most_entities, width}
use Rattle.tables.specs.Rest.{AtRest}
use Rattle.words.specs.Step.{Stepped, use_steps}
use Rattle.tables.proofs.Held.{held_names}
use Rattle.tables.proofs.Rounds.{steps_round}

-- n rounds from the words start lead to the words ws, and each of them changed something
pub record Going (E : ℕ) (cs : List Credential) (start : List ℕ) (n : ℕ) (ws : List ℕ) : Type 0 where
  pub reached : ws ≡ times_words E width cs n start
  pub moving : (m : ℕ) → m < n → times_words E width cs (suc m) start ≡ times_words E width cs m start → ⊥

pub going_none : (E : ℕ) (cs : List Credential) (start : List ℕ) → Going E cs start 0 start
unfolding times_words
going_none E cs start = record { reached = refl; moving = below_none _ }

module _ (bytes : List ℕ) {s : Sizes} (h : Accepts bytes s) {start : List ℕ} (f : Fits s.entities most_entities width start) where
  abbrev cs : List Credential
  cs = held bytes

  contents : Contents bytes s
  contents = accepted_contents bytes s h

  module _ {n : ℕ} {ws : List ℕ} (g : Going s.entities cs start n ws) where
    going_fits : Fits s.entities most_entities width ws
    going_fits = rw g.reached (times_fits s.entities s.names most_entities width contents.entities_most (held_names bytes h) cs contents.valid n start f)

    pub going_few : n ≤ most_rounds
    going_few =
        let few : n ≤ s.entities * length (distinct_heads cs) =
        moving_few s.entities s.names most_entities width contents.entities_most (held_names bytes h) cs contents.valid start f n g.moving in
        let heads : length (distinct_heads cs) ≤ 240 = omega (arith, heads_few (holding_sound bytes s h).numbered, (holding_sound bytes s h).few) in
        omega (arith, mul-le-mul contents.entities_most heads)

    -- one round more, from a copy of the words, by the steps
    module _ (steps : List ℕ) (t : Stepped bytes s.records steps) {from after : List ℕ} (copied : from ≡ ws) (used : after ≡ use_steps s.entities steps from ws s.records) where
      made : after ≡ round_words s.entities width cs from
      made = steps_round bytes h steps t from (rw copied going_fits.size) copied used

      next : after ≡ times_words s.entities width cs (suc n) start
      unfolding times_words
      next = rw (← g.reached, ← copied) made

      pub going_more : (from ≡ after → ⊥) → Going s.entities cs start (n + 1) after
      going_more changed = record {
        reached = rw add-one next;
        moving = below_more _ n g.moving (λ e. changed (copied ∙ g.reached ∙ sym e ∙ sym next));
      }

      pub going_less : (from ≡ after → ⊥) → room s.entities width cs after < room s.entities width cs ws
      going_less changed =
          rw (made, copied) (room_falls s.entities s.names most_entities width contents.entities_most (held_names bytes h) cs contents.valid ws going_fits
          (λ e. changed (copied ∙ sym e ∙ rw (← copied) (sym made))))

      pub at_rest : from ≡ after → AtRest s.entities cs start n after
      at_rest same =
          let rest : after ≡ ws = sym same ∙ copied in
          record {
            settled = record { reached = rest ∙ g.reached; still = rw (← same) (sym made ∙ sym same); moving = g.moving };
            most = going_few;
            fits = rw rest going_fits;
          }
