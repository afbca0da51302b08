use Rattle.std.proofs.Common.{◌≡◌, ◌∙◌, true, false, rules, string_bytes}
use Rattle.strangers.specs.Reading.{ends_flags, is_flag}
use Rattle.strangers.proofs.ReadingLemmas.{after_flag}
use Rattle.strangers.proofs.reading.asked_by.Goals as goal

pub loop-first-preserved : goal.loop-first-preserved
loop-first-preserved c =
    let more : ends_flags (string_bytes c.in_ok-first.first.now) ≡ false = search rules in
    let flag : is_flag (string_bytes c.in_ok-first.first.now) ≡ true = search rules in
    after_flag c.loop-first.allowed c.in_ok-allowed.allowed c.in_ok-first.first.now
    c.in_ok-number.number.now c.loop-first.rest.now c.in_ok-first.others.now
    c.in_ok-number.others.now c.in_ok-first.ensures.cases.0 c.in_ok-number.ensures.cases.0 more flag
    (rw (c.as_str-in-loop-first-2.ensures.value, c.as_str-in-loop-first-3.ensures.value)
    at c.in_ok-allowed.ensures)
    ∙ c.loop-first.invariant
