use Rattle.std.proofs.Common.{rules, arith, ◌≡◌, ◌≤◌, sym, ap, ◌∙◌, length, take, drop}
use Rattle.std.proofs.lemmas.{List.drop_all, List.length-drop, List.take_all, Str.chars-nil}
use Rattle.std.specs.Str.{chars}
use Rattle.interpolator.proofs.PositionLemmas.{read_none, read_more, read_front, read_end}
use Rattle.interpolator.proofs.excerpt.split_after.Goals as goal

pub loop-c-init : goal.loop-c-init
loop-c-init c = record {
  read = rw (c.into_iter-c-iterator.ensures.into_iter_gives, c.chars-c-items.ensures.rest)
      (read_none _ c.utf8.text);
  within = omega arith;
}

pub loop-c-preserved : goal.loop-c-preserved
loop-c-preserved c = record {
  read = read_more c.utf8.text c.loop-c.invariant.read _ _ _ c.len_utf8-end.ensures.value
      c.in-Some.ensures.steps.0;
  within = omega arith;
}

pub overflow_add-end : goal.overflow_add-end
overflow_add-end c =
    let more = read_more c.utf8.text c.loop-c.invariant.read _ _ _ c.len_utf8-end.ensures.value
    c.in-Some.ensures.steps.0 in omega (arith, more.boundary.0)

pub split_at-requires : goal.split_at-requires
split_at-requires c = c.loop-c.invariant.read.boundary

pub returns-then-seen-count : goal.returns-then-seen-count
returns-then-seen-count c =
    let read = c.loop-c.invariant.read in
    let all : c.loop-c.seen ≡ c.args.count = omega arith in
    let front : c.split_at.result.0.now ≡ take c.loop-c.end c.args.text.now = search rules in
    let rest : c.split_at.result.1.now ≡ drop c.loop-c.end c.args.text.now = search rules in
    record {
      front = rw (front, ← all) (read_front c.utf8.text read);
      rest = rw (rest, ← all) (ap chars read.there ∙ read.left);
    }

pub returns : goal.returns
returns c =
    let none = read_end c.utf8.text c.loop-c.invariant.read c.in-None.ensures.steps.0.0 in
    let cs = chars c.args.text.now in
    let short : length cs ≤ c.args.count =
    omega (arith, ap length none, length-drop c.loop-c.seen cs, c.loop-c.invariant.within) in
    record {
      front = sym (take_all c.args.count cs short);
      rest = chars-nil ∙ sym (drop_all c.args.count cs short);
    }
