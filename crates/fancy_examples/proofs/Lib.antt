pub mod Notation
mod WaysOfNodes
mod Answers
mod OptionAnswers
mod LongestMatches
mod Layouts
mod UndelegatedLayouts
mod Runs
mod Characters
mod Sizes
mod Hardness
mod FragmentStates
mod PatternTexts
mod Anchors
mod GroupNumbers
mod Programs
mod Refusals
pub mod CallsAtOnce
pub mod Acceptance
mod LeftRecursion
mod CompileRefused
mod Accepted
mod NeverEnding
mod UnreachedCycle
mod WellFormedness
mod ClassTexts
mod ContextAnswers
mod Bounds
mod CallPlaces
pub mod PlainTrees
mod WrittenParts
mod AcceptedInputs
mod EndlessLoop
mod Reached
