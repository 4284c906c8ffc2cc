-- A holding: what a question is asked of. So many entities and role names, which roles are open, the credentials that count, and the book by
-- whose numbers slips name them.
use Rattle.std.specs.Prelude.{ℕ, ◌≤◌, List}
use Rattle.rt0.specs.Credential.{Credential, AllValid}
use Rattle.rt0.specs.Completion.{Open}
use Rattle.rt0.specs.Book.{Book, Numbers}

pub record Holding : Type 0 where
  -- entities are 1 to this number, and role names 1 to that
  pub entities : ℕ
  pub names : ℕ
  -- the roles that further credentials may define
  pub is_open : Open
  -- the credentials that count
  pub held : List Credential
  -- the numbers by which slips name them, 1 to the number of records; a number whose record does not count names none
  pub book : Book
  pub records : ℕ

-- a holding is sound: every credential that counts is valid over its entities and names and has a number in the book, the book names no
-- other, and there are at most 240 numbers
pub record SoundHolding (h : Holding) : Type 0 where
  pub valid : AllValid h.entities h.names h.held
  pub numbered : Numbers h.book h.held h.records
  pub few : h.records ≤ 240
