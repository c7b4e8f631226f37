pub mod NfaStates
pub mod NfaCode
pub mod NfaSearch
pub mod FirstWays
