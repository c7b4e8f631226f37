pub mod ClassTexts
pub mod Classes
pub mod Literals
pub mod Members
pub mod Others
pub mod SimpleClasses
