-- What a reader must believe of the judge is `Judge`, and of the quick verdict `Quick`. Nobody has to believe `Rules`: it is what the functions of this crate promise each other.
pub mod Judge
pub mod Quick
pub mod Rules
