pub mod ThreadsLaws
pub mod SteppersLaws
pub mod MeaningLaws
pub mod BoundsLaws
pub mod SingleDelegateLaws
pub mod AttemptsLaws
