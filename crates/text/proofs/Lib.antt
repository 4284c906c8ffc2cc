-- The laws of the definitions of specs/. Decimal: a number's digits read back as the number, with no zero before them.
-- Written: bytes written one after the other, and a text that has room.
pub mod Decimal
pub mod Written
