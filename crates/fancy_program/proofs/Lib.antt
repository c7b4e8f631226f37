pub mod FitsLaws
pub mod BodyLaws
pub mod BackLaws
pub mod ThreadsLaws
pub mod PlacesLaws
pub mod StepsLaws
