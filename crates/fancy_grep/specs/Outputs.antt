-- What is written to an output: what its sink takes, if this is known, and what is kept for it.
use Rattle.std.specs.Prelude.{◌≡◌, ℕ, List, Option, None}
use Rattle.std.specs.Io.KnownBytes.{Appends, append_known}
use Rattle.fancy_grep.specs.declared.output.Output.{Output}

-- the bytes that the sink has, and those that it is still to get
abbrev pub written : {W : Type 0} → (W → Option (List ℕ)) → Output W → Option (List ℕ)
written contents o = append_known (contents o.sink) o.kept.items

-- These bytes were written and no others, unless a write failed.
pub record Writes {W : Type 0} (contents : W → Option (List ℕ)) (old new : Output W) (bytes : List ℕ) : Type 0 where
  pub unless_failed : new.error ≡ None → (old.error ≡ None) × Appends (written contents old) (written contents new) bytes

-- The sink got these bytes, unless a write failed, and what is kept stays.
pub record Sends {W : Type 0} (contents : W → Option (List ℕ)) (old new : Output W) (bytes : List ℕ) : Type 0 where
  pub unless_failed : new.error ≡ None → (old.error ≡ None) × Appends (contents old.sink) (contents new.sink) bytes
  pub kept : new.kept.items ≡ old.kept.items
