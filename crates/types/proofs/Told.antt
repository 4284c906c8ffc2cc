-- The flags tell what the definitions say, of the four bodies and of structurally well typed credentials.
use Prim.Native.Nat.{ℕ}
use mathlib.Core.Path.{refl, sym}
use mathlib.Core.Bool.{not, ◌&&◌, ◌||◌, true≢false}
use Rattle.base.proofs.Flags.{Tells, or_tells, not_tells}
use Rattle.rt0.specs.Credential.{name_of, Body, entity, role, link, intersection, Credential}
use Rattle.types.specs.declared.Traces.{Traces}
use Rattle.types.specs.Name.{Types}
use Rattle.types.specs.Body.{BodyIssuerTracesAll, BodySubjectTracesAll, BodyWeaklyWellTyped, BodyWellTyped}
use Rattle.types.specs.Typed.{body_of, head_type, StructurallyWellTyped}
use Rattle.types.specs.Flags.{name_traces, well_typed, link_traces, body_traces, structurally}
use Rattle.types.proofs.Names.{and_tells, then_tells, tells_as, TracesTold, sums, strongly_told, name_told, well_told}
use Rattle.types.proofs.Parts.{parts_told}

module _ (T : Types) where
  abbrev BodyTold : Traces → Body → Type 0
  BodyTold t e = TracesTold t (BodyIssuerTracesAll T e) (BodySubjectTracesAll T e) (BodyWeaklyWellTyped T e)

  -- a linked role
  link_told : (r1 r2 : ℕ) → BodyTold (link_traces (name_traces (T r1)) (name_traces (T r2))) (link r1 r2)
  link_told r1 r2 =
      let one = name_traces (T r1) in
      let two = name_traces (T r2) in
      let issuers = and_tells one.issuer two.issuer (name_told (T r1)).issuer (name_told (T r2)).issuer in
      let subjects = and_tells one.subject two.subject (name_told (T r1)).subject (name_told (T r2)).subject in
      record {
        issuer = issuers;
        subject = subjects;
        weakly = tells_as
            (λ w. (w.0.0, w.0.1, w.1), λ w. ((w.0, w.1), w.2))
            (and_tells (not (one.issuer && two.issuer) && not (one.subject && two.subject)) _
            (and_tells (not (one.issuer && two.issuer)) (not (one.subject && two.subject)) (not_tells _ issuers) (not_tells _ subjects))
            (or_tells (one.issuer && well_typed two) (well_typed one && two.subject)
            (and_tells one.issuer (well_typed two) (name_told (T r1)).issuer (well_told (T r2)))
            (and_tells (well_typed one) two.subject (well_told (T r1)) (name_told (T r2)).subject)));
      }

  pub body_told : (e : Body) → BodyTold (body_traces T e) e
  body_told (entity B) = record {
    issuer = (λ h. tt, λ w. refl);
    subject = (λ h. tt, λ w. refl);
    weakly = (λ h. absurd (true≢false (sym h)), λ w. absurd w);
  }
  body_told (role ρ) = name_told (T (name_of ρ))
  body_told (link r1 r2) = link_told r1 r2
  body_told (intersection parts) = parts_told T parts

  body_well : (e : Body) → Tells (well_typed (body_traces T e)) (BodyWellTyped T e)
  body_well e = tells_as sums (strongly_told (body_traces T e) (body_told e))

  pub structurally_told : (c : Credential) → Tells (structurally T c) (StructurallyWellTyped T c)
  structurally_told c =
      let head = name_traces (head_type T c) in
      let body = body_traces T (body_of c) in
      let name = name_told (head_type T c) in
      tells_as (
        λ ((well, issuer), subject). record { head_typed = well.0; body_typed = well.1; by_issuer_side = issuer; by_subject_side = subject },
        λ s. (((s.head_typed, s.body_typed), s.by_issuer_side), s.by_subject_side),
      )
      (and_tells ((well_typed head && well_typed body) && (not head.issuer || body.issuer)) (not head.subject || body.subject)
      (and_tells (well_typed head && well_typed body) (not head.issuer || body.issuer)
      (and_tells (well_typed head) (well_typed body) (well_told (head_type T c)) (body_well (body_of c)))
      (then_tells head.issuer body.issuer name.issuer (body_told (body_of c)).issuer))
      (then_tells head.subject body.subject name.subject (body_told (body_of c)).subject))
