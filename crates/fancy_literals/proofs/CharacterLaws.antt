-- Sets of bytes that tell which characters pass a test.
use Rattle.std.proofs.Common.{◌≡◌, ⊎_elim, ◌+◌, ◌<◌, ◌≤◌, ℕ, Bool, true, false, List, length, length-set, replicate, set, nat_le, refl, sym, ap, ◌∙◌, arith, encode_utf8, eqb-true, le-leb, ne_eqb, subst}
use Rattle.std.proofs.lemmas.Bool.{cases_eq, false≢true}
use Rattle.std.proofs.lemmas.Grind.{get_or-set_at}
use Rattle.std.proofs.lemmas.List.{get_or-replicate, get_or-set_other}
use Rattle.fancy_meaning.specs.Chars.{class_takes, literal_takes}
use Rattle.fancy_meaning.specs.Tree.{Tree, Delegate, Literal}
use Rattle.fancy_characters.specs.Others.{LacksOthers}
use Rattle.fancy_literals.specs.ByteSets.{is_in}
use Rattle.fancy_literals.specs.Characters.{AreCharacters, Tells}
use Rattle.fancy_literals.specs.Opens.{Opens}
use Rattle.fancy_literals.specs.Required.{begins_among}
use Rattle.fancy_literals.specs.TakesByte.{BeginAmong, Includes, TakesByte}
use Rattle.fancy_literals.proofs.OpenLaws.{among_by, class_opens, literal_opens}

-- the set tells of the characters below `at`, and of all bytes that are no ASCII the same
pub record ToldTo (at : ℕ) (bytes : List Bool) (test : ℕ → Bool) (others : Bool) : Type 0 where
  pub ascii : (c : ℕ) → c < at → is_in bytes c ≡ test c
  pub beyond : (byte : ℕ) → 128 ≤ byte → byte < 256 → is_in bytes byte ≡ others
  pub long : length bytes ≡ 256

pub none_told : (test : ℕ → Bool) (others : Bool) → ToldTo 0 (replicate 256 others) test others
none_told test others = record {
  ascii = λ c never. absurd (omega (arith, never));
  beyond = λ byte large below. get_or-replicate 256 byte others false below;
  long = refl;
}

pub one_told : (at : ℕ) (bytes : List Bool) (test : ℕ → Bool) (others b : Bool) → at < 128 → b ≡ test at → ToldTo at bytes test others →
    ToldTo (at + 1) (set bytes at b) test others
one_told at bytes test others b small is told =
    let long = told.long in
    record {
      ascii = λ c below. ⊎_elim
          (λ same. get_or-set_at bytes at c b false same (omega (arith, small, long)) ∙ is ∙ ap test (sym same))
          (λ other. get_or-set_other bytes at c b false other ∙ told.ascii c (omega (arith, below, other)))
          (cases_eq c at);
      beyond = λ byte large below. get_or-set_other bytes at byte b false (λ same. omega (arith, same, large, small)) ∙ told.beyond byte large below;
      long = length-set bytes at b ∙ long;
    }

pub all_told : (at : ℕ) (bytes : List Bool) (test : ℕ → Bool) (others : Bool) → 128 ≤ at → ToldTo at bytes test others → (others ≡ false → LacksOthers test) →
    Tells bytes test
all_told at bytes test true all told lacks = record {
  ascii = λ c small. told.ascii c (omega (arith, all, small));
  others = λ c byte scalar beyond is large below. told.beyond byte large below;
}
all_told at bytes test false all told lacks = record {
  ascii = λ c small. told.ascii c (omega (arith, all, small));
  others = λ c byte scalar beyond is large below. absurd (false≢true (sym (lacks refl c scalar beyond) ∙ is));
}

-- a literal that is not folded takes its own character alone
pub plain_lacks : (unicode : Bool) (c : ℕ) → nat_le 128 c ≡ false → LacksOthers (literal_takes unicode c false)
plain_lacks unicode c small d scalar large = ne_eqb c d (λ same. false≢true (sym small ∙ le-leb 128 c (omega (arith, same, large))))

-- ---- with which bytes such characters begin

pub begin_among : (bytes : List Bool) (test : ℕ → Bool) → Tells bytes test → BeginAmong bytes test
begin_among bytes test tells =
    among_by bytes test (λ c small is. tells.ascii c small ∙ is) (λ c scalar large is byte from below. tells.others c byte scalar large is from below)

larger_among : (bytes larger : List Bool) (test : ℕ → Bool) → Includes bytes larger → Tells bytes test → BeginAmong larger test
larger_among bytes larger test inside tells =
    among_by larger test (λ c small is. inside c (omega (arith, small)) (tells.ascii c small ∙ is))
    (λ c scalar large is byte from below. inside byte below (tells.others c byte scalar large is from below))

pub takes_characters : (unicode behind : Bool) (bytes : List Bool) (e : Tree) → AreCharacters unicode bytes e → TakesByte unicode behind bytes e
takes_characters unicode behind bytes (Literal c casei) tells = begin_among bytes (literal_takes unicode c casei) tells
takes_characters unicode behind bytes (Delegate inner casei) tells = begin_among bytes (class_takes unicode inner casei) tells
takes_characters unicode behind bytes e tells = absurd tells

pub characters_open : (unicode : Bool) (bytes larger : List Bool) → Includes bytes larger → (e : Tree) → AreCharacters unicode bytes e → Opens unicode false larger e
characters_open unicode bytes larger inside (Literal c casei) tells = literal_opens unicode larger c casei (larger_among bytes larger (literal_takes unicode c casei) inside tells)
characters_open unicode bytes larger inside (Delegate inner casei) tells =
    class_opens unicode larger inner casei (larger_among bytes larger (class_takes unicode inner casei) inside tells)
characters_open unicode bytes larger inside e tells = absurd tells

-- a literal that is not folded
pub one_opens : (unicode : Bool) (bytes : List Bool) (c : ℕ) → begins_among bytes (encode_utf8 c) ≡ true → Opens unicode false bytes (Literal c false)
one_opens unicode bytes c begins =
    literal_opens unicode bytes c false (λ d scalar is. subst (λ x. begins_among bytes (encode_utf8 x) ≡ true) (eqb-true c d is) begins)
