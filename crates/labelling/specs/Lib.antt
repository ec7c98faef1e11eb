-- Nobody has to believe these definitions: they are what the functions of this crate promise each other and the crates above. The promises are judge/specs/Judge and judge/specs/Quick.
pub mod Labelling
pub mod Needed
