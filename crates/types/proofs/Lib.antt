-- The laws of the type system. Traced: members of issuer-traces-all roles come from the credentials for such roles alone. Together: why that is
-- not so with intersections. Names, Parts, Told: the flags tell what the definitions say, of names, of intersections, and of all bodies and
-- credentials.
pub mod Traced
pub mod Together
pub mod Names
pub mod Parts
pub mod Told
