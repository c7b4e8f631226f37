pub mod Drawing
pub mod Xml
