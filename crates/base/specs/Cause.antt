-- The number that the tables of refusals give each cause.
use Rattle.std.specs.Prelude.{ℕ}
use Rattle.base.specs.declared.refusal.Cause.{Cause}
use Rattle.base.specs.declared.refusal.Cause.TheVariants.{Length, Checks, Layout, BlockCount, Beside, UnknownForm, NumberOfParts, EntityOutOfRange, NameOutOfRange, ByteNotZero, Question, Memory, SlipLength, Line, Fact, TooMany, Room, Letter, Sheet}

abbrev pub number_for : Cause → ℕ
number_for Length = 1
number_for Checks = 2
number_for Layout = 3
number_for BlockCount = 4
number_for Beside = 5
number_for UnknownForm = 61
number_for NumberOfParts = 62
number_for EntityOutOfRange = 63
number_for NameOutOfRange = 64
number_for ByteNotZero = 65
number_for Question = 7
number_for Memory = 8
number_for SlipLength = 9
number_for Line = 10
number_for Fact = 11
number_for TooMany = 12
number_for Room = 13
number_for Letter = 14
number_for Sheet = 15
