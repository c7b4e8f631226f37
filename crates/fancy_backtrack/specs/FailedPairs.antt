-- Which pairs the code has memoized.
use Rattle.std.specs.Prelude.{ℕ, ◌/◌, ◌%◌, Bool, List, Option, Some, None, ◌==◌, nat_eq}
use Rattle.std.specs.Int.{bit_at}
use Rattle.std.specs.HashMap.{HashMap, get}
use Rattle.std.specs.HashSet.{contains_by}
use Rattle.std.specs.declared.hash.FoldHasher.{FoldHasher}
use Rattle.std.specs.declared.hash.BuildHasherDefault.{BuildHasherDefault}
use Rattle.fancy_backtrack.specs.PairKeys.{same_numbers}
use Rattle.fancy_backtrack.specs.PairNumbers.{pair_value}
use Rattle.fancy_backtrack.specs.declared.failed.Failed.{Failed}

-- words by their index
abbrev pub Words : Type 0
Words = HashMap ℕ ℕ (BuildHasherDefault FoldHasher)

-- a word, which has no bits where there is none
abbrev pub word_of : Option ℕ → ℕ
word_of None = 0
word_of (Some word) = word

-- bit n of the words, counted from the lowest bit of the word at 0
abbrev pub number_is_set : Words → ℕ → Bool
number_is_set words n = bit_at (word_of (get nat_eq words (n / 64))) (n % 64) == 1

-- by its number, or else by its list
abbrev pub is_memoized : Option ℕ → Failed → List ℕ → Bool
is_memoized None s k = contains_by (λ v. same_numbers k v.items) s.lists
is_memoized (Some n) s k = number_is_set s.words n

-- a pair with these numbers was memoized
unfoldable pub has_pair : Failed → List ℕ → Bool
has_pair s k = is_memoized (pair_value s.numbers s.base k) s k
