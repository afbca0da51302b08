use Rattle.std.proofs.Common.{◌≡◌, ◌-◌, ◌∙◌, [], ap, refl, append-nil, arith, map, suc, Ok, Err}
use Rattle.plurals.specs.Tokens.{as_spot}
use Rattle.plurals.proofs.TokenLemmas.{broken_word, last_words, no_more_words, no_words_yet}
use Rattle.plurals.proofs.TokenLemmas.{one_more_word}
use Rattle.plurals.proofs.token.tokens_of.Goals as goal

pub loop-taken-init : goal.loop-taken-init
loop-taken-init c = λ left e.
    rw c.new-tokens.ensures.items (no_words_yet c.args.rule.now left e)

pub returns-in-Err : goal.returns-in-Err
returns-in-Err c =
    let left = 1000 - c.loop-taken._taken in
    broken_word (map as_spot c.loop-taken.tokens.items) c.loop-taken.rest.end
    c.loop-taken.rest.text.now _ left c.in-Err.fault
    (c.loop-taken.invariant left (omega (arith, c.loop-taken-test.true))) c.in-Err.ensures.next

pub returns-in-Ok-None : goal.returns-in-Ok-None
returns-in-Ok-None c =
    let left = 1000 - c.loop-taken._taken in
    no_more_words (map as_spot c.loop-taken.tokens.items) c.loop-taken.rest.end
    c.loop-taken.rest.text.now _ left
    (c.loop-taken.invariant left (omega (arith, c.loop-taken-test.true)))
    (rw c.in-Ok-None.field-0-is at c.in-Ok-None.ensures.next)

pub loop-taken-preserved : goal.loop-taken-preserved
loop-taken-preserved c = λ left e.
    let ends : c.in-Ok-Some.after.end ≡ c.loop-taken.rest.end =
    rw c.in-Ok-Some.field-0-is at c.in-Ok-Some.ensures.end in
    rw ends (one_more_word (map as_spot c.loop-taken.tokens.items)
    c.loop-taken.rest.end c.loop-taken.rest.text.now _ left c.in-Ok-Some.after.text.now
    (as_spot c.in-Ok-Some.token) (map as_spot c.push_token.new.tokens.items)
    (c.loop-taken.invariant (suc left) (omega (arith, e)))
    (rw c.in-Ok-Some.field-0-is at c.in-Ok-Some.ensures.next) c.in_ok-push_token-in-Ok-Some.ensures)

pub returns-in-Ok : goal.returns-in-Ok
returns-in-Ok c =
    last_words (map as_spot c.loop-taken.tokens.items) c.loop-taken.rest.end
    c.loop-taken.rest.text.now _ 0 (Ok [])
    (c.loop-taken.invariant 0 (omega (arith, c.loop-taken-test.false, c.loop-taken.auto._taken-end))) refl (rw c.next-2.ensures.next at c.in-Ok.ensures)
    ∙ ap Ok (append-nil _)

pub returns : goal.returns
returns c =
    last_words (map as_spot c.loop-taken.tokens.items) c.loop-taken.rest.end
    c.loop-taken.rest.text.now _ 0 (Err c.in-Err-long.fault)
    (c.loop-taken.invariant 0 (omega (arith, c.loop-taken-test.false, c.loop-taken.auto._taken-end))) refl (rw c.next-2.ensures.next at c.in-Err-long.ensures)
