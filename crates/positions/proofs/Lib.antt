-- How many positions there are, as they are counted.
pub mod Chains
pub mod FormKinds
pub mod PositionCount
