-- What the code's own values mean: a claim is a fact of RT0.
use Rattle.std.specs.Prelude.{ℕ, zero, suc, Option as Maybe, Some, None}
use Rattle.std.proofs.Math.Option.{Option, none, some}
use Rattle.rt0.specs.Slip.{Fact, ◌∋◌}
use Rattle.records.specs.declared.form.Role.{Role}
use Rattle.records.specs.Form.{role_of}
use Rattle.checker.specs.declared.claim.Claim.{Claim}

-- the fact that a claim is, where there is one
abbrev pub fact_in : Maybe Claim → Option Fact
fact_in (Some claim) = some (role_of claim.role ∋ claim.member)
fact_in None = none

-- the claim that a member is in a head, if there is one
abbrev pub claim_of : ℕ → Maybe Role → Maybe Claim
claim_of member (Some ρ) = Some (record { role = ρ; member = member })
claim_of member None = None

-- claim number j of three, counted from 0
abbrev pub pick_claim : ℕ → Maybe Claim → Maybe Claim → Maybe Claim → Maybe Claim
pick_claim zero first second third = first
pick_claim (suc zero) first second third = second
pick_claim (suc (suc j)) first second third = third
