pub mod Chains
pub mod Stacks
pub mod Walks
