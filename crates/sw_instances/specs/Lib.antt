pub mod AllInstances
pub mod Instances
pub mod Laws
pub mod Matrix
pub mod Named
pub mod Numbered
pub mod Values
