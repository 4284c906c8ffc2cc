-- The result of who must hold a record: what is packed is the answer, and two results that keep the promise are the same number.
use Rattle.std.specs.Prelude.{Result, Ok, Err, Option, Some, None}
use Prim.Native.Nat.{ℕ, ◌/◌, ◌%◌}
use native.Mathlib.Omega.{arith}
use mathlib.Core.Path.{◌≡◌, sym, ap, ◌∙◌}
use mathlib.Core.List.{List}
use Rattle.base.specs.declared.refusal.Refusal.{Refusal}
use Rattle.base.specs.Refused.{refusal_at}
use Rattle.answers.specs.Pack.{Packs}
use Rattle.storage.specs.Promise.{StoragePromise}
use Rattle.storage.proofs.Refusals.{answers_equal}
use Rattle.capi.specs.Holders.{packed_storage, PackedHolders}

-- the two halves of a word of shelves stand side by side
pub packs_held : (answer : Result (Option ℕ) (Refusal ℕ)) (shelves high low result : ℕ) → answer ≡ Ok (Some shelves) → high ≡ shelves / 65536 → low ≡ shelves % 65536
    → Packs (record { number = 0; place = 0; verdict = 1; rounds = high; lines = low }) result → result ≡ packed_storage answer
packs_held answer shelves high low result e h l p = rw e (omega (arith, p.packing))

pub packs_ill : (answer : Result (Option ℕ) (Refusal ℕ)) (result : ℕ) → answer ≡ Ok None
    → Packs (record { number = 0; place = 0; verdict = 0; rounds = 0; lines = 0 }) result → result ≡ packed_storage answer
packs_ill answer result e p = rw e (omega (arith, p.packing))

pub packs_refusal : (answer : Result (Option ℕ) (Refusal ℕ)) (number place result : ℕ) → answer ≡ Err (refusal_at number place)
    → Packs (record { number = number; place = place; verdict = 0; rounds = 0; lines = 0 }) result → result ≡ packed_storage answer
packs_refusal answer number place result e p = rw e (omega (arith, p.packing))

pub packed_holders : (bundle sheet : List ℕ) (n : ℕ) (answer : Result (Option ℕ) (Refusal ℕ)) (result : ℕ) → StoragePromise bundle sheet n answer
    → result ≡ packed_storage answer → PackedHolders bundle sheet n result
packed_holders bundle sheet n answer result promise packing = record { answer = answer; promise = promise; packing = packing }

-- two results are the same number
pub holders_same : (bundle sheet : List ℕ) (n one two : ℕ) → PackedHolders bundle sheet n one → PackedHolders bundle sheet n two → one ≡ two
holders_same bundle sheet n one two p q =
    p.packing ∙ ap (λ (a : Result (Option ℕ) (Refusal ℕ)). packed_storage a) (answers_equal bundle sheet n p.answer q.answer p.promise q.promise)
    ∙ sym q.packing
