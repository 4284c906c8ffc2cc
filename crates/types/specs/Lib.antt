-- The type system for credential storage, over the role names. Name: the types of names. Body: of the four bodies. Typed: structurally well
-- typed credentials, and who must store one. Flags: the same as tests that compute.
pub mod Name
pub mod Body
pub mod Typed
pub mod Flags
