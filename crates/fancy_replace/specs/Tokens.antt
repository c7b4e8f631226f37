-- What clauses see of a text that is read token by token.
use Rattle.std.specs.Prelude.{◌≡◌, ℕ, true, false, List, ◌++◌, Option, Some, None, codes, drop}
use Rattle.std.specs.List.{before_first, after_first, list_any}
use Rattle.fancy_replace.specs.Reading as plain
use Rattle.fancy_replace.specs.Reading.{is_closing}
use Rattle.fancy_replace.specs.declared.tokens.Token.{Token}
use Rattle.fancy_replace.specs.declared.tokens.Token.TheVariants.{Literal, Reference}
use Rattle.fancy_replace.specs.declared.tokens.Tokens.{Tokens}

abbrev pub token_of : Token → plain.Token
token_of (Literal text) = plain.Literal text.now
token_of (Reference name) = plain.Reference name.now

-- what is still to be read
abbrev pub text_left : Tokens → List ℕ
text_left s = s.rest.now

abbrev pub tokens_left : Tokens → List plain.Token
tokens_left s = plain.tokens (text_left s)

-- so many bytes of the text belong to the token, which are passed over
abbrev pub PassesToken : plain.Token × ℕ → List ℕ → plain.Token → List ℕ → Type 0
PassesToken read text token rest = (token ≡ read.0) × (rest ≡ drop read.1 text)

-- the text does not begin with braces that are closed
abbrev pub HasNoBraces : List ℕ → Type 0
HasNoBraces text = (inside : List ℕ) → text ≡ codes "{" ++ inside → list_any is_closing inside ≡ false

-- what stands in braces that are closed at the front of the text, and what follows them; or there are none
abbrev pub TakesBraces : List ℕ → Option (List ℕ) → List ℕ → Type 0
TakesBraces text None rest = HasNoBraces text × (rest ≡ text)
TakesBraces text (Some name) rest =
    (inside : List ℕ) × (text ≡ codes "{" ++ inside) × (list_any is_closing inside ≡ true)
    × (name ≡ before_first is_closing inside) × (rest ≡ after_first is_closing inside)
