use Rattle.std.proofs.Common.{◌∙◌, true, false}
use Rattle.fancy_grep.proofs.GlobLaws.{has_first, has_last}
use Rattle.fancy_grep.proofs.globs.+between.Goals as goal

pub returns-in-Some-true : goal.returns-in-Some-true
returns-in-Some-true t c =
    has_first c.args.tokens.now c.token-item.result c.args.name.now c.c-item.result _ true
    c.in-len1-up-len1-up.if-tokens-lt1-own.false c.in-len1-up-len1-up.if-this-lt1-own.false
    c.token-item.is c.c-item.is c.in-Some-true.ensures c.in-Some-true.field-0-test
    ∙ c.between.ensures

pub returns-in-Some-false : goal.returns-in-Some-false
returns-in-Some-false t c =
    has_first c.args.tokens.now c.token-item.result c.args.name.now c.c-item.result _ false
    c.in-len1-up-len1-up.if-tokens-lt1-own.false c.in-len1-up-len1-up.if-this-lt1-own.false
    c.token-item.is c.c-item.is c.in-Some-false.ensures c.in-Some-false.field-0-test

pub returns-in-Some-true-has_alone : goal.returns-in-Some-true-has_alone
returns-in-Some-true-has_alone t c =
    has_last c.args.tokens.now c.token-item-2.result c.args.name.now c.c-item-2.result _ true
    c.in-len1-up-len1-up-2.if-tokens-lt1-2-own.false c.in-len1-up-len1-up-2.if-this-lt1-2-own.false
    c.token-item-2.is c.c-item-2.is c.in-Some-true-has_alone.ensures c.in-Some-true-has_alone.field-0-test
    ∙ c.between-in-Some-true-has_alone.ensures

pub returns-in-Some-false-has_alone : goal.returns-in-Some-false-has_alone
returns-in-Some-false-has_alone t c =
    has_last c.args.tokens.now c.token-item-2.result c.args.name.now c.c-item-2.result _ false
    c.in-len1-up-len1-up-2.if-tokens-lt1-2-own.false c.in-len1-up-len1-up-2.if-this-lt1-2-own.false
    c.token-item-2.is c.c-item-2.is c.in-Some-false-has_alone.ensures c.in-Some-false-has_alone.field-0-test
