-- What a bundle holds, and its bytes. Content: E, R, the marks and the records, when they are right, and the content that bytes have.
-- Encode: the bytes of a content, each by its place, as the paper describes the format. InPlace: what writing in place leaves.
pub mod Content
pub mod Encode
pub mod InPlace
