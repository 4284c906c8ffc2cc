-- The flags of a role name tell its type, and so whether it is well typed; and ill typed names in the documents' other words.
use mathlib.Core.Path.{◌≡◌, refl, sym, ap}
use mathlib.Core.Bool.{Bool, true, false, not, ◌&&◌, ◌||◌, true≢false}
use mathlib.Core.Logic.{◌⊎◌, inl, inr, ⊎_elim, ◌↔◌}
use Rattle.base.proofs.Flags.{Tells, or_tells}
use Rattle.types.specs.declared.Traces.{Traces}
use Rattle.types.specs.Name.{IssuerSide, issuer_traces_none, issuer_traces_def, issuer_traces_all, SubjectSide, subject_traces_none, subject_traces_all}
use Rattle.types.specs.Name.{NameType, IssuerTracesAll, SubjectTracesAll, WeaklyWellTyped, WellTyped, IllTyped, traces_all, traces_def, subjects_trace}
use Rattle.types.specs.Flags.{name_traces, well_typed}

-- ---- tests

pub and_tells : {P Q : Type 0} (a b : Bool) → Tells a P → Tells b Q → Tells (a && b) (P × Q)
and_tells true b p q = (λ h. (p.0 refl, q.0 h), λ w. q.1 w.1)
and_tells false b p q = (λ h. absurd (true≢false (sym h)), λ w. p.1 w.0)

-- if one then the other
pub then_tells : {P Q : Type 0} (a b : Bool) → Tells a P → Tells b Q → Tells (not a || b) (P → Q)
then_tells true b p q = (λ h _. q.0 h, λ w. q.1 (w (p.0 refl)))
then_tells false b p q = (λ h x. absurd (true≢false (sym (p.1 x))), λ w. refl)

-- a test of the same thing said otherwise
pub tells_as : {P Q : Type 0} {b : Bool} → P ↔ Q → Tells b P → Tells b Q
tells_as e t = (λ h. e.0 (t.0 h), λ q. t.1 (e.1 q))

-- ---- names

all_told : (s : IssuerSide) → Tells (traces_all s) (s ≡ issuer_traces_all)
all_told issuer_traces_none = (λ h. absurd (true≢false (sym h)), λ e. ap traces_all e)
all_told issuer_traces_def = (λ h. absurd (true≢false (sym h)), λ e. ap traces_all e)
all_told issuer_traces_all = (λ h. refl, λ e. refl)

def_told : (s : IssuerSide) → Tells (traces_def s) (s ≡ issuer_traces_def)
def_told issuer_traces_none = (λ h. absurd (true≢false (sym h)), λ e. ap traces_def e)
def_told issuer_traces_def = (λ h. refl, λ e. refl)
def_told issuer_traces_all = (λ h. absurd (true≢false (sym h)), λ e. ap traces_def e)

subject_told : (s : SubjectSide) → Tells (subjects_trace s) (s ≡ subject_traces_all)
subject_told subject_traces_none = (λ h. absurd (true≢false (sym h)), λ e. ap subjects_trace e)
subject_told subject_traces_all = (λ h. refl, λ e. refl)

none_told : (s : SubjectSide) → Tells (not (subjects_trace s)) (s ≡ subject_traces_none)
none_told subject_traces_none = (λ h. refl, λ e. refl)
none_told subject_traces_all = (λ h. absurd (true≢false (sym h)), λ e. ap (λ (x : SubjectSide). not (subjects_trace x)) e)

-- who must store a credential by the type of its head
pub issuer_stores : (s : IssuerSide) → Tells (traces_def s || traces_all s) ((s ≡ issuer_traces_def) ⊎ (s ≡ issuer_traces_all))
issuer_stores s = or_tells (traces_def s) (traces_all s) (def_told s) (all_told s)

pub subject_stores : (t : NameType) → Tells (subjects_trace t.on_subject) (SubjectTracesAll t)
subject_stores t = subject_told t.on_subject

-- the three flags of a type tell these
pub record TracesTold (t : Traces) (Issuer Subject Weakly : Type 0) : Type 0 where
  pub issuer : Tells t.issuer Issuer
  pub subject : Tells t.subject Subject
  pub weakly : Tells t.weakly Weakly

module _ {Issuer Subject Weakly : Type 0} where
  pub sums : ((Issuer ⊎ Subject) ⊎ Weakly) ↔ (Issuer ⊎ (Subject ⊎ Weakly))
  sums = (⊎_elim (⊎_elim inl (λ s. inr (inl s))) (λ w. inr (inr w)), ⊎_elim (λ i. inl (inl i)) (⊎_elim (λ s. inl (inr s)) inr))

  -- so they tell whether it is well typed
  pub strongly_told : (t : Traces) → TracesTold t Issuer Subject Weakly → Tells (well_typed t) ((Issuer ⊎ Subject) ⊎ Weakly)
  strongly_told t k = or_tells (t.issuer || t.subject) t.weakly (or_tells t.issuer t.subject k.issuer k.subject) k.weakly

pub name_told : (t : NameType) → TracesTold (name_traces t) (IssuerTracesAll t) (SubjectTracesAll t) (WeaklyWellTyped t)
name_told t = record {
  issuer = all_told t.on_issuer;
  subject = subject_told t.on_subject;
  weakly = and_tells (traces_def t.on_issuer) (not (subjects_trace t.on_subject)) (def_told t.on_issuer) (none_told t.on_subject);
}

pub well_told : (t : NameType) → Tells (well_typed (name_traces t)) (WellTyped t)
well_told t = strongly_told (name_traces t) (name_told t)

-- in the documents' other words: a name is ill typed exactly if it is both issuer-traces-none and subject-traces-none
pub ill_typed_none : (t : NameType) → IllTyped t ↔ ((t.on_issuer ≡ issuer_traces_none) × (t.on_subject ≡ subject_traces_none))
ill_typed_none t = by t.on_issuer t.on_subject
  where
    by : (i : IssuerSide) (s : SubjectSide)
        → IllTyped (record { on_issuer = i; on_subject = s }) ↔ ((i ≡ issuer_traces_none) × (s ≡ subject_traces_none))
    by i subject_traces_all = (λ ill. absurd (ill (inl (inr refl))), λ n. absurd (true≢false (ap subjects_trace n.1)))
    by issuer_traces_none subject_traces_none = (
      λ ill. (refl, refl),
      λ n. ⊎_elim (⊎_elim (λ e. true≢false (sym (ap traces_all e))) (λ e. true≢false (sym (ap subjects_trace e)))) (λ w. true≢false (sym (ap traces_def w.0))),
    )
    by issuer_traces_def subject_traces_none = (λ ill. absurd (ill (inr (refl, refl))), λ n. absurd (true≢false (ap traces_def n.0)))
    by issuer_traces_all subject_traces_none = (λ ill. absurd (ill (inl (inl refl))), λ n. absurd (true≢false (ap traces_all n.0)))
