-- The flags of an intersection tell its type, by its parts: a part and the others together, one part after the other.
use mathlib.Core.Path.{refl, sym, subst}
use mathlib.Core.Bool.{◌&&◌, ◌||◌, true≢false}
use mathlib.Core.Logic.{◌⊎◌, inl, inr, ⊎_elim, ⊎_map, ◌↔◌}
use mathlib.Core.List.Memᴰ
use mathlib.Core.List.{List, [], ◌∷◌}
use Rattle.base.proofs.Flags.{or_tells}
use Rattle.rt0.specs.Credential.{Role, name_of, intersection, ◌∈◌}
use Rattle.types.specs.declared.Traces.{Traces}
use Rattle.types.specs.Name.{Types, IssuerTracesAll, SubjectTracesAll, WeaklyWellTyped, WellTyped}
use Rattle.types.specs.Body.{BodyIssuerTracesAll, BodySubjectTracesAll, BodyWeaklyWellTyped}
use Rattle.types.specs.Flags.{name_traces, well_typed, both_traces, parts_traces}
use Rattle.types.proofs.Names.{and_tells, tells_as, TracesTold, strongly_told, name_told}

-- some part is such, and every part is
abbrev pub SomePart : (Role → Type 0) → List Role → Type 0
SomePart P parts = (ρ : Role) × (ρ ∈ parts) × P ρ

abbrev EveryPart : (Role → Type 0) → List Role → Type 0
EveryPart P parts = (ρ : Role) → ρ ∈ parts → P ρ

module _ (P : Role → Type 0) (ρ : Role) (ρs : List Role) where
  every_more : (P ρ × EveryPart P ρs) ↔ EveryPart P (ρ ∷ ρs)
  every_more = (every, λ all. (all ρ (Memᴰ.head refl), λ σ i. all σ (Memᴰ.tail i)))
    where
      every : P ρ × EveryPart P ρs → EveryPart P (ρ ∷ ρs)
      every (here, there) σ (Memᴰ.head e) = subst P (sym e) here
      every (here, there) σ (Memᴰ.tail i) = there σ i

  pub some_more : (P ρ ⊎ SomePart P ρs) ↔ SomePart P (ρ ∷ ρs)
  some_more = (⊎_elim (λ p. (ρ, Memᴰ.head refl, p)) (λ (σ, i, p). (σ, Memᴰ.tail i, p)), found)
    where
      found : SomePart P (ρ ∷ ρs) → P ρ ⊎ SomePart P ρs
      found (σ, Memᴰ.head e, p) = inl (subst P e p)
      found (σ, Memᴰ.tail i, p) = inr (σ, i, p)

module _ {Issuer Subject Weakly Issuer' Subject' Weakly' : Type 0} (one two : Traces) (k : TracesTold one Issuer Subject Weakly)
    (l : TracesTold two Issuer' Subject' Weakly') where
  -- a part and the others together
  both_told : TracesTold (both_traces one two)
      ((Issuer ⊎ Issuer') × (((Issuer ⊎ Subject) ⊎ Weakly) × ((Issuer' ⊎ Subject') ⊎ Weakly')))
      ((Subject ⊎ Subject') × (((Issuer ⊎ Subject) ⊎ Weakly) × ((Issuer' ⊎ Subject') ⊎ Weakly')))
      (Weakly × Weakly')
  both_told =
      let well = and_tells (well_typed one) (well_typed two) (strongly_told one k) (strongly_told two l) in
      record {
        issuer = and_tells (one.issuer || two.issuer) (well_typed one && well_typed two)
            (or_tells one.issuer two.issuer k.issuer l.issuer) well;
        subject = and_tells (one.subject || two.subject) (well_typed one && well_typed two)
            (or_tells one.subject two.subject k.subject l.subject) well;
        weakly = and_tells one.weakly two.weakly k.weakly l.weakly;
      }

module _ (T : Types) where
  abbrev Issuers : Role → Type 0
  Issuers ρ = IssuerTracesAll (T (name_of ρ))

  abbrev Subjects : Role → Type 0
  Subjects ρ = SubjectTracesAll (T (name_of ρ))

  abbrev Weak : Role → Type 0
  Weak ρ = WeaklyWellTyped (T (name_of ρ))

  abbrev Well : Role → Type 0
  Well ρ = WellTyped (T (name_of ρ))

  abbrev PartsWell : List Role → Type 0
  PartsWell parts = ((SomePart Issuers parts × EveryPart Well parts) ⊎ (SomePart Subjects parts × EveryPart Well parts)) ⊎ EveryPart Weak parts

  -- where every part is well typed, some part traces all on one side, or all are weakly well typed
  parts_split : (parts : List Role) → EveryPart Well parts → PartsWell parts
  parts_split [] all = inr (λ ρ i. absurd (Memᴰ.not-nil i))
  parts_split (ρ ∷ ρs) all = here (all ρ (Memᴰ.head refl)) (parts_split ρs ((every_more Well ρ ρs).1 all).1)
    where
      here : Well ρ → PartsWell ρs → PartsWell (ρ ∷ ρs)
      here (inl (inl i)) there = inl (inl ((some_more Issuers ρ ρs).0 (inl i), all))
      here (inl (inr s)) there = inl (inr ((some_more Subjects ρ ρs).0 (inl s), all))
      here (inr w) (inl (inl (some, _))) = inl (inl ((some_more Issuers ρ ρs).0 (inr some), all))
      here (inr w) (inl (inr (some, _))) = inl (inr ((some_more Subjects ρ ρs).0 (inr some), all))
      here (inr w) (inr weak) = inr ((every_more Weak ρ ρs).0 (w, weak))

  parts_well : (parts : List Role) → PartsWell parts ↔ EveryPart Well parts
  parts_well parts = (⊎_elim (⊎_elim (λ w. w.1) (λ w. w.1)) (λ weak ρ i. inr (weak ρ i)), parts_split parts)

  -- one part more, on one side
  side_more : (P : Role → Type 0) (ρ : Role) (ρs : List Role)
      → ((P ρ ⊎ (SomePart P ρs × EveryPart Well ρs)) × (Well ρ × PartsWell ρs)) ↔ (SomePart P (ρ ∷ ρs) × EveryPart Well (ρ ∷ ρs))
  side_more P ρ ρs = (
    λ (some, (well, rest)). ((some_more P ρ ρs).0 (⊎_map (λ p. p) (λ w. w.0) some), (every_more Well ρ ρs).0 (well, (parts_well ρs).0 rest)),
    λ (some, all).
        let (well, rest) = (every_more Well ρ ρs).1 all in
        (⊎_map (λ p. p) (λ w. (w, rest)) ((some_more P ρ ρs).1 some), (well, (parts_well ρs).1 rest)),
  )

  pub parts_told : (parts : List Role)
      → TracesTold (parts_traces T parts) (BodyIssuerTracesAll T (intersection parts)) (BodySubjectTracesAll T (intersection parts))
      (BodyWeaklyWellTyped T (intersection parts))
  parts_told [] = record {
    issuer = (λ h. absurd (true≢false (sym h)), λ w. absurd (Memᴰ.not-nil w.0.1));
    subject = (λ h. absurd (true≢false (sym h)), λ w. absurd (Memᴰ.not-nil w.0.1));
    weakly = (λ h ρ i. absurd (Memᴰ.not-nil i), λ w. refl);
  }
  parts_told (ρ ∷ []) =
      let one = name_told (T (name_of ρ)) in
      let alone : (P : Role → Type 0) → P ρ → EveryPart P (ρ ∷ []) = λ P p. (every_more P ρ []).0 (p, λ σ i. absurd (Memᴰ.not-nil i)) in
      let here : (P : Role → Type 0) → SomePart P (ρ ∷ []) → P ρ = λ P s. ⊎_elim (λ p. p) (λ n. absurd (Memᴰ.not-nil n.1)) ((some_more P ρ []).1 s) in
      record {
        issuer = tells_as (λ i. ((some_more Issuers ρ []).0 (inl i), alone Well (inl (inl i))), λ w. here Issuers w.0) one.issuer;
        subject = tells_as (λ i. ((some_more Subjects ρ []).0 (inl i), alone Well (inl (inr i))), λ w. here Subjects w.0) one.subject;
        weakly = tells_as (alone Weak, λ w. w ρ (Memᴰ.head refl)) one.weakly;
      }
  parts_told (ρ ∷ σ ∷ ρs) =
      let both = both_told (name_traces (T (name_of ρ))) (parts_traces T (σ ∷ ρs)) (name_told (T (name_of ρ))) (parts_told (σ ∷ ρs)) in
      record {
        issuer = tells_as (side_more Issuers ρ (σ ∷ ρs)) both.issuer;
        subject = tells_as (side_more Subjects ρ (σ ∷ ρs)) both.subject;
        weakly = tells_as (every_more Weak ρ (σ ∷ ρs)) both.weakly;
      }
