-- What a bundle holds for RT0: its shelves, the credentials that its records are and their numbers, and so what a question is asked of.
use Rattle.std.specs.Prelude.{ℕ, zero, suc, List, [], ◌∷◌, ◌++◌, Option, Some, None}
use Rattle.rt0.specs.Credential.{Credential}
use Rattle.rt0.specs.Completion.{Shelf, Open, open_by}
use Rattle.rt0.specs.Completion.{Present as PresentShelf, Absent as AbsentShelf}
use Rattle.rt0.specs.Book.{Book, book_of}
use Rattle.rt0.specs.Holding.{Holding}
use Rattle.records.specs.Bytes.{credential_in}
use Rattle.bundle.specs.declared.access.Mark.{Mark}
use Rattle.bundle.specs.declared.access.Mark.TheVariants.{Present, Absent}
use Rattle.bundle.specs.Layout.{entities_of, names_of, records_of, record_bytes}
use Rattle.bundle.specs.Access.{mark_of}

abbrev pub shelf_of : Option Mark → Shelf
shelf_of (Some Present) = PresentShelf
shelf_of (Some Absent) = AbsentShelf
shelf_of None = PresentShelf

-- the shelves of a bundle
abbrev pub shelves : List ℕ → ℕ → Shelf
shelves bytes A = shelf_of (mark_of bytes A)

-- the first n credentials of a bundle
unfoldable pub credentials : List ℕ → ℕ → List Credential
credentials bytes zero = []
credentials bytes (suc i) = credentials bytes i ++ (credential_in (record_bytes bytes i) ∷ [])

-- all of them
abbrev pub held : List ℕ → List Credential
held bytes = credentials bytes (records_of bytes)

-- the roles that further credentials may define: those of the entities marked absent
abbrev pub open_of : List ℕ → Open
open_of bytes = open_by (shelves bytes)

-- the credentials by the numbers of their records
abbrev pub book_in : List ℕ → Book
book_in bytes = book_of (held bytes)

-- what a question on a bundle is asked of where these roles are open
abbrev pub holding_with : Open → List ℕ → Holding
holding_with is_open bytes =
    record {
      entities = entities_of bytes;
      names = names_of bytes;
      is_open = is_open;
      held = held bytes;
      book = book_in bytes;
      records = records_of bytes;
    }

-- by its marks alone
abbrev pub holding_in : List ℕ → Holding
holding_in bytes = holding_with (open_of bytes) bytes
