pub mod ClassTexts
pub mod Returning
pub mod RoundTrip
