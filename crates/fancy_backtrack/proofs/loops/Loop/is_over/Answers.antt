use Rattle.std.proofs.Common.{◌≡◌, ◌^◌, ◌-◌, ℕ, ◌||◌, false, not, Some, None, if◌then◌else◌, nat_le, nat_lt, arith, sym, ap, ap₂, ◌∙◌}
use Rattle.std.proofs.lemmas.Bool.{ne_eqb, eq-eqb}
use Rattle.std.proofs.lemmas.Bool.Decides.{nat_tests}
use Rattle.fancy_nfa_laws.specs.NfaSearch as plain
use Rattle.fancy_expr.specs.Views.{bound_of}
use Rattle.fancy_backtrack.proofs.PathLaws.{option_stays}
use Rattle.fancy_backtrack.proofs.loops.Loop.is_over.Goals as goal

no_bound : (hi count : ℕ) → hi ≡ 2 ^ 64 - 1 → plain.is_last (bound_of hi) count ≡ false
no_bound hi count e = ap (λ b. plain.is_last (if b then None else Some hi) count) (eq-eqb hi (2 ^ 64 - 1) e)

turned : (hi count : ℕ) → not (nat_lt count hi) ≡ nat_le hi count
turned hi count = grind (arith, nat_tests)

bound : (hi count : ℕ) → ¬ (hi ≡ 2 ^ 64 - 1) → plain.is_last (bound_of hi) count ≡ nat_le hi count
bound hi count apart =
    ap (λ b. plain.is_last (if b then None else Some hi) count) (ne_eqb hi (2 ^ 64 - 1) apart) ∙ turned hi count

pub returns-then-eq : goal.returns-then-eq
returns-then-eq c =
    c.if-eq.true
    ∙ sym (ap (λ b. b || plain.is_last (bound_of c.args.self.hi) c.args.counter.count)
    (sym (option_stays c.args.counter.since c.args.place) ∙ sym c.eq.ensures ∙ c.if-eq.true))

pub returns-then-self-ne18446744073709551615 : goal.returns-then-self-ne18446744073709551615
returns-then-self-ne18446744073709551615 c =
    sym (ap₂ (λ a b. a || b) (sym (option_stays c.args.counter.since c.args.place) ∙ sym c.eq.ensures ∙ c.if-eq.false)
    (bound c.args.self.hi c.args.counter.count c.if-self-ne18446744073709551615.true))

pub returns-else-self-ne18446744073709551615 : goal.returns-else-self-ne18446744073709551615
returns-else-self-ne18446744073709551615 c =
    ap not (eq-eqb c.args.self.hi (2 ^ 64 - 1) c.if-self-ne18446744073709551615.false)
    ∙ sym (ap₂ (λ a b. a || b) (sym (option_stays c.args.counter.since c.args.place) ∙ sym c.eq.ensures ∙ c.if-eq.false)
    (no_bound c.args.self.hi c.args.counter.count c.if-self-ne18446744073709551615.false))
