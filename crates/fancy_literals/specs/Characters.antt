-- Which characters a node matches, as bytes.
use Rattle.std.specs.Prelude.{◌≡◌, ◌≤◌, ◌<◌, ℕ, Bool, true, List}
use Rattle.std.specs.Char.{IsScalar}
use Rattle.fancy_meaning.specs.Chars.{class_takes, literal_takes}
use Rattle.fancy_meaning.specs.Tree.{Tree, Literal, Delegate}
use Rattle.fancy_literals.specs.ByteSets.{is_in}

-- The set tells which ASCII characters pass the test, and has all other bytes if another character passes.
pub record Tells (bytes : List Bool) (test : ℕ → Bool) : Type 0 where
  pub ascii : (c : ℕ) → c < 128 → is_in bytes c ≡ test c
  pub others : (c byte : ℕ) → IsScalar c → 128 ≤ c → test c ≡ true → 128 ≤ byte → byte < 256 → is_in bytes byte ≡ true

-- the node is a literal or a class of these characters
abbrev pub AreCharacters : (unicode : Bool) → (bytes : List Bool) → Tree → Type 0
AreCharacters unicode bytes (Literal c casei) = Tells bytes (literal_takes unicode c casei)
AreCharacters unicode bytes (Delegate inner casei) = Tells bytes (class_takes unicode inner casei)
AreCharacters unicode bytes e = ⊥
