-- Tests on one character that no character beyond ASCII passes.
use Rattle.std.specs.Prelude.{◌≡◌, ◌≤◌, ℕ, Bool, false}
use Rattle.std.specs.Char.{IsScalar}

abbrev pub LacksOthers : (test : ℕ → Bool) → Type 0
LacksOthers test = (c : ℕ) → IsScalar c → 128 ≤ c → test c ≡ false
