pub mod Satisfaction
pub mod Propagation
pub mod Trail
pub mod Verdict
pub mod Laws
