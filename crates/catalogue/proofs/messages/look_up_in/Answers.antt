use Rattle.std.proofs.Common.{◌≡◌, length, map, arith, string_bytes, sym}
use Rattle.std.proofs.{lemmas.Bool.Decides.nat_tests, lemmas.Result.IfOk-weaker}
use Rattle.catalogue.specs.{Files.as_page, Messages.GiveValues, Sought.as_found}
use Rattle.catalogue.proofs.{AnswerLemmas.answers_line, KindLemmas.all_given}
use Rattle.catalogue.proofs.SoundLemmas.{sound_among}
use Rattle.catalogue.proofs.messages.look_up_in.Goals as goal

pub returns-in-Some-clause-answers : goal.returns-in-Some-clause-answers
returns-in-Some-clause-answers c =
    let clean : length (string_bytes c.in_ok-reported.field-0.reported) ≡ 0 = grind (arith, nat_tests) in
    let pages = map as_page c.args.pages.now in
    let words = c.args.words.now in
    let objects = c.given-objects.result.now in
    let sound = c.in_ok-reported.ensures.sound clean in
    let known = as_found c.in-Some.found in
    let under = sym (rw c.in-Some.is at c.in_ok-reported.ensures.found) in
    let gives : GiveValues words objects =
    rw (c.given-objects.ensures, c.in-Ok.is) (rw c.in-Ok.is at c.in_ok-values.ensures.given) in
    IfOk-weaker c.reply.result _ _ (λ answer replies.
    answers_line c.args.escape pages c.args.key.now words answer (record {
      sound = sound;
      values = objects;
      given = gives;
      known = known;
      under = under;
      replies = replies
          (sound_among objects c.args.key.now pages known sound under)
          (all_given string_bytes words objects gives);
    })) c.reply.ensures.replies

pub returns-clause-answers : goal.returns-clause-answers
returns-clause-answers c =
    let clean : length (string_bytes c.in_ok-reported.field-0.reported) ≡ 0 = grind (arith, nat_tests) in
    record {
      sound = c.in_ok-reported.ensures.sound clean;
      values = c.given-objects.result.now;
      given = rw (c.given-objects.ensures, c.in-Ok.is)
          (rw c.in-Ok.is at c.in_ok-values.ensures.given);
      none = sym (rw c.in-None.is at c.in_ok-reported.ensures.found);
      says = c.in_ok-absent-in-None.ensures.reported;
    }

pub returns-in-Err-clause-answers : goal.returns-in-Err-clause-answers
returns-in-Err-clause-answers c =
    let clean : length (string_bytes c.in_ok-reported.field-0.reported) ≡ 0 = grind (arith, nat_tests) in
    record {
      sound = c.in_ok-reported.ensures.sound clean;
      first = rw c.in_ok-bad-in-Err.ensures.ok (rw c.in-Err.is at c.in_ok-values.ensures.given);
    }
