-- Text as bytes. Ascii: the bytes of a fixed text. Decimal: a number in decimal digits. Written: bytes written into lent memory from a
-- place on, as far as there is room.
pub mod Ascii
pub mod Decimal
pub mod Written
