-- What a line of a slip is. Fact: facts by number, and the index of their lines. Premise: where a line's premises stand, as they are found at
-- every input and as a line needs them. Line: the line of a record and a member, and a slip with one more line.
pub mod Fact
pub mod Premise
pub mod Line
