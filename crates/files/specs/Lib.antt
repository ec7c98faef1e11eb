-- What a reader must believe of converter files: first `Answers`, what the writer and the block reader promise.
pub mod Files
pub mod FileRefusals
pub mod Answers
