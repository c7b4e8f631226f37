-- Known bytes that are read and made blocks.
use Rattle.std.proofs.Common.{◌≡◌, drop_of_length-le, arith, ℕ, List, [], ◌++◌, Option, Some, None, option_map, length, take, drop, refl, sym, ap, subst, ◌∙◌, append_assoc}
use Rattle.std.specs.Io.KnownBytes.{Consumes, IsAtEnd, Keeps}
use Rattle.std.proofs.lemmas.List.{take-append-drop}

-- the bytes that follow a block of n bytes
abbrev pub after : ℕ → List ℕ → Option (List ℕ) → Option (List ℕ)
after n read known = option_map (λ rest. drop n read ++ rest) known

pub Keeps-refl : (u : Option (List ℕ)) → Keeps u u
Keeps-refl None = tt
Keeps-refl (Some xs) = refl

pub Keeps-same : (u v : Option (List ℕ)) → v ≡ u → Keeps u v
Keeps-same u v is = subst (Keeps u) (sym is) (Keeps-refl u)

pub Keeps-then : (u v w : Option (List ℕ)) → Keeps u v → Keeps v w → Keeps u w
Keeps-then None v w x y = tt
Keeps-then (Some xs) None w x y = absurd x
Keeps-then (Some xs) (Some ys) None x y = absurd y
Keeps-then (Some xs) (Some ys) (Some zs) x y = y ∙ x

pub Kept-consumes : (u v w : Option (List ℕ)) (a : List ℕ) → Keeps u v → Consumes v w a → Consumes u w a
Kept-consumes None v w a x y = tt
Kept-consumes (Some xs) None w a x y = absurd x
Kept-consumes (Some xs) (Some ys) None a x y = absurd y
Kept-consumes (Some xs) (Some ys) (Some zs) a x y = sym x ∙ y

pub Consumes-then : (u v w : Option (List ℕ)) (a b : List ℕ) → Consumes u v a → Consumes v w b → Consumes u w (a ++ b)
Consumes-then None v w a b x y = tt
Consumes-then (Some xs) None w a b x y = absurd x
Consumes-then (Some xs) (Some ys) None a b x y = absurd y
Consumes-then (Some xs) (Some ys) (Some zs) a b x y = x ∙ ap (λ (t : List ℕ). a ++ t) y ∙ sym (append_assoc a b zs)

-- The first n bytes that are read become the block.
pub cuts : (m n : ℕ) (read : List ℕ) (known : Option (List ℕ)) → m ≡ 0 → Consumes (after m read known) (after n read known) (take n read)
cuts m n read None is = tt
cuts m n read (Some rest) is = rw is (ap (λ (t : List ℕ). t ++ rest) (sym (take-append-drop n read)) ∙ append_assoc (take n read) (drop n read) rest)

pub ends : (read : List ℕ) (known : Option (List ℕ)) → IsAtEnd known → IsAtEnd (after (length read) read known)
ends read None end = tt
ends read (Some rest) end = ap (λ (t : List ℕ). t ++ rest) (drop_of_length-le read (omega arith)) ∙ end

-- Nothing is cut off.
pub Keeps-uncut : (u v : Option (List ℕ)) (n : ℕ) (read : List ℕ) → n ≡ 0 → Consumes u v (take n read) → Keeps u v
Keeps-uncut None v n read is h = tt
Keeps-uncut (Some xs) None n read is h = absurd h
Keeps-uncut (Some xs) (Some ys) n read is h =
    let all : xs ≡ take 0 read ++ ys = subst (λ m. xs ≡ take m read ++ ys) is h in sym all

-- what is left where all that is read is the block and the reader is at its end
pub all_is_block : (u v w : Option (List ℕ)) (m n k : ℕ) (before read : List ℕ) (known : Option (List ℕ)) →
    Keeps u v → m ≡ 0 → Consumes v w (take m before) → Keeps w (after k read known) → k ≡ 0 → Consumes u (after n read known) (take n read)
all_is_block u v w m n k before read known h is cut more at =
    Kept-consumes u (after k read known) (after n read known) (take n read)
    (Keeps-then u v (after k read known) h (Keeps-then v w (after k read known) (Keeps-uncut v w m before is cut) more))
    (cuts k n read known at)
