pub mod BackReferences
pub mod Covering
pub mod Order
pub mod Reports
