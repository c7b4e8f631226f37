mod GlobLaws
pub mod LineLaws
pub mod MatchingLaws
pub mod OutputLaws
pub mod PrintedLaws
pub mod StandingLaws
pub mod WalkLaws
