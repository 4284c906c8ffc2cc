-- Block: a block, its check, and where a record stands among the blocks.
pub mod Block
