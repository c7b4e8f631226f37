-- Of which bytes each way of a node takes one, by cases of the node.
use Rattle.std.specs.Prelude.{◌≡◌, ◌⊎◌, ◌<◌, ℕ, Bool, true, false, List, encode_utf8, slice_index_or}
use Rattle.std.specs.Char.{IsScalar}
use Rattle.fancy_meaning.specs.Chars.{class_takes, literal_takes}
use Rattle.fancy_meaning.specs.Tree.{Tree, Trees, none, more, Literal, Delegate, Concat, Alt, Group, Repeat, AtomicGroup, LookAround, LookAhead, LookBehind}
use Rattle.fancy_literals.specs.Required.{begins_among}

-- the second set has each byte of the first
abbrev pub Includes : (bytes larger : List Bool) → Type 0
Includes bytes larger = (byte : ℕ) → byte < 256 → slice_index_or bytes byte false ≡ true → slice_index_or larger byte false ≡ true

-- each character that passes the test begins with one of the bytes
abbrev pub BeginAmong : (bytes : List Bool) → (test : ℕ → Bool) → Type 0
BeginAmong bytes test = (c : ℕ) → IsScalar c → test c ≡ true → begins_among bytes (encode_utf8 c) ≡ true

-- `behind`: where what look-behinds take counts
module _ (unicode behind : Bool) (bytes : List Bool) where
  abbrev mutual
    pub TakesByte : Tree → Type 0
    TakesByte (Literal c casei) = BeginAmong bytes (literal_takes unicode c casei)
    TakesByte (Delegate inner casei) = BeginAmong bytes (class_takes unicode inner casei)
    TakesByte (Concat es) = OneTakesByte es
    TakesByte (Alt es) = EachTakesByte es
    TakesByte (Group g e) = TakesByte e
    TakesByte (AtomicGroup e) = TakesByte e
    TakesByte (Repeat lo hi greedy e) = (0 < lo) × TakesByte e
    TakesByte (LookAround LookAhead e) = TakesByte e
    TakesByte (LookAround LookBehind e) = (behind ≡ true) × TakesByte e
    TakesByte e = ⊥

    -- one of the nodes takes such a byte
    pub OneTakesByte : Trees → Type 0
    OneTakesByte none = ⊥
    OneTakesByte (more e es) = TakesByte e ⊎ OneTakesByte es

    -- each of the nodes does
    pub EachTakesByte : Trees → Type 0
    EachTakesByte none = Unit {0}
    EachTakesByte (more e es) = TakesByte e × EachTakesByte es
