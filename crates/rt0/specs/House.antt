-- The small house: the papers' example, with the ten cases P1 to P10 that every maker of answers has to get right, and the case of a present
-- shelf that does not complete a role.
use Rattle.std.specs.Prelude.{ℕ, Bool, true, false, ◌||◌, List, [], ◌∷◌, ◌++◌, take, drop, eqb}
use Rattle.rt0.specs.Credential.{Role, ◌·◌, entity, role, link, intersection, Credential, ◌⟵◌}
use Rattle.rt0.specs.Table.{Rounds}
use Rattle.rt0.specs.Completion.{Shelf, Present, Absent, Open, open_with, Verdict, YES, NO, UNSURE, Answers}

-- entities
abbrev pub Archive : ℕ
Archive = 1

abbrev pub Board : ℕ
Board = 2

abbrev pub Upland : ℕ
Upland = 3

abbrev pub Nina : ℕ
Nina = 4

abbrev pub Guild : ℕ
Guild = 5

abbrev pub Tomas : ℕ
Tomas = 6

-- role names
abbrev pub reader : ℕ
reader = 1

abbrev pub college : ℕ
college = 2

abbrev pub accredited : ℕ
accredited = 3

abbrev pub student : ℕ
student = 4

abbrev pub member : ℕ
member = 5

abbrev pub signer : ℕ
signer = 6

-- credentials 1 to 6
unfoldable pub house : List Credential
house =
    (Archive · college ⟵ role (Board · accredited))
    ∷ (Board · accredited ⟵ entity Upland)
    ∷ (Archive · reader ⟵ link college student)
    ∷ (Upland · student ⟵ entity Nina)
    ∷ (Guild · member ⟵ entity Nina)
    ∷ (Archive · signer ⟵ intersection (Archive · reader ∷ Guild · member ∷ []))
    ∷ []

-- credential 5 removed
unfoldable pub house_without5 : List Credential
unfolding house
house_without5 = take 4 house ++ drop 5 house

abbrev pub shelf_if : Bool → Shelf → Shelf
shelf_if true other = Absent
shelf_if false other = other

-- every shelf is present but those of the entities listed, which are absent
unfoldable pub present_but : List ℕ → ℕ → Shelf
present_but [] A = Present
present_but (B ∷ Bs) A = shelf_if (eqb A B) (present_but Bs A)

-- a name is one of those listed
unfoldable pub among : List ℕ → ℕ → Bool
among [] r = false
among (s ∷ ss) r = eqb r s || among ss r

-- these credentials held over so many entities and names, the shelves of the entities listed as absent being absent, and any shelf may keep
-- the credentials of the names listed as loose: the verdict on whether the one asked about is in the role, and the number of rounds
pub record Case : Type 0 where
  pub entities : ℕ
  pub names : ℕ
  pub held : List Credential
  pub absent : List ℕ
  pub loose : List ℕ
  pub asked : ℕ
  pub into : Role
  pub verdict : Verdict
  pub rounds : ℕ

-- P1 to P7 ask who signs for the Archive
abbrev pub in_house : List Credential → List ℕ → ℕ → Verdict → ℕ → Case
in_house cs away D v n =
    record { entities = 6; names = 6; held = cs; absent = away; loose = []; asked = D; into = Archive · signer; verdict = v; rounds = n }

-- one entity and one name: is 1 in 1.1?
abbrev pub of_one : List Credential → List ℕ → Verdict → ℕ → Case
of_one cs away v n = record { entities = 1; names = 1; held = cs; absent = away; loose = []; asked = 1; into = 1 · 1; verdict = v; rounds = n }

-- only Tomas's shelf is absent: is he a reader of the Archive, these names being loose?
abbrev pub reader_tomas : List ℕ → Verdict → Case
reader_tomas names v =
    record {
      entities = 6;
      names = 6;
      held = house;
      absent = Tomas ∷ [];
      loose = names;
      asked = Tomas;
      into = Archive · reader;
      verdict = v;
      rounds = 4;
    }

-- P1 to P10; and Tomas, who may be a student by a credential that his own shelf keeps where students' credentials may stand on any
unfoldable pub cases : List Case
unfolding house house_without5
cases =
    in_house house [] Nina YES 4
    ∷ in_house house [] Tomas NO 4
    ∷ in_house house (Guild ∷ []) Tomas NO 4
    ∷ in_house house (Upland ∷ []) Tomas NO 4
    ∷ in_house house (Upland ∷ Guild ∷ []) Tomas UNSURE 4
    ∷ in_house house_without5 [] Nina NO 3
    ∷ in_house house_without5 (Guild ∷ []) Nina UNSURE 3
    ∷ of_one [] [] NO 0
    ∷ of_one [] (1 ∷ []) UNSURE 0
    ∷ of_one ((1 · 1 ⟵ role (1 · 1)) ∷ []) [] NO 0
    ∷ reader_tomas [] NO
    ∷ reader_tomas (student ∷ []) UNSURE
    ∷ []

-- the roles that are open in a case
abbrev pub opens : Case → Open
opens k = open_with (among k.loose) (present_but k.absent) k.entities

-- the verdict and the number of rounds that a case states are right
abbrev pub RightCase : Case → Type 0
RightCase k =
    Answers k.entities k.names (opens k) k.held k.into k.asked k.verdict
    × Rounds k.held k.rounds
