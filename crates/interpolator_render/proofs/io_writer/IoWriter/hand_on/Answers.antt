use Rattle.std.proofs.Common.{◌≡◌, [], append-nil, arith, refl, string_bytes, take, take_all}
use Rattle.std.proofs.lemmas.Str.{chars-nil, IsUtf8-string_bytes}
use Rattle.interpolator_render.proofs.IoWriterLemmas.{front_got, hands_part, open_below}
use Rattle.interpolator_render.proofs.IoWriterLemmas.{passed_part, passed_whole}
use Rattle.interpolator_render.proofs.io_writer.IoWriter.hand_on.Goals as goal

pub invariant_of-self : goal.invariant_of-self
invariant_of-self g c = let old = c.args.self.now in
    let all : take c.write-result.result.0 c.as_bytes.result.now ≡ string_bytes old.held =
    grind (arith, take_all) in
    let opened = open_below old.below.failed old.no_memory c.requires in
    let more = passed_whole old.passed_on.start _ _ old.passed_on.text (string_bytes old.held)
    (IsUtf8-string_bytes old.held) (old.whole opened) (rw all at c.write-result.ensures.got) in
    record {
      whole = λ f. rw (c.and-self.ensures.0, c.and-self.ensures.1) more;
      front = rw (c.and-self.ensures.0, c.and-self.ensures.1)
          (front_got _ _ _ (string_bytes c.clear.new.self) _ more refl);
    }

pub invariant_of-self-in-Err-1 : goal.invariant_of-self-in-Err-1
invariant_of-self-in-Err-1 g c = let old = c.args.self.now in
    let opened = open_below old.below.failed old.no_memory c.requires in
    let same : c.as_bytes.result.now ≡ string_bytes old.held = grind arith in
    record {
      whole = λ f. grind arith;
      front = passed_part old.passed_on.start _ _ old.passed_on.text (string_bytes old.held) _
          (old.whole opened) (rw same at c.write-result.ensures.got);
    }

pub returns-in-Ok-clause-written : goal.returns-in-Ok-clause-written
returns-in-Ok-clause-written g c = grind (arith, chars-nil, append-nil)

pub returns-in-Ok-clause-passed_on : goal.returns-in-Ok-clause-passed_on
returns-in-Ok-clause-passed_on g c = record {
  front = string_bytes c.args.self.now.held;
  rest = [];
  parts = refl;
  got = grind (arith, take_all);
  held = λ f. c.clear.ensures.bytes;
}

pub returns-in-Err-clause-passed_on : goal.returns-in-Err-clause-passed_on
returns-in-Err-clause-passed_on g c =
    let same : c.as_bytes.result.now ≡ string_bytes c.args.self.now.held = grind arith in
    hands_part g.W.Write.contents _ _ _ (rw same at c.write-result.ensures.got) (grind arith)
