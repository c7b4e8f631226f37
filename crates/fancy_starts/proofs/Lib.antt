pub mod Firsts
pub mod LaterStarts
pub mod Placeless
pub mod KeptStarts
pub mod Matches
pub mod Longest
pub mod Skipped
