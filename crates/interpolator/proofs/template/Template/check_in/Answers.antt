use Rattle.std.proofs.Common.{ap, ◌∙◌, subst, rules, ◌<◌, ◌^◌, length}
use Rattle.std.proofs.lemmas.Str.{IsUtf8-string_bytes}
use Rattle.std.specs.{Prelude.string_bytes, Str.chars, Str.IsUtf8}
use Rattle.interpolator_syntax.specs.{Places.outermost, Faults.result_answer, Nodes.nodes}
use Rattle.interpolator_eval.specs.Meaning.Samples.{sample_of, level_in}
use Rattle.interpolator_pieces.specs.{NodeSamples.faults_over, Stored.nodes_of}
use Rattle.interpolator.proofs.SamplePlaceLemmas.{first_lies_over}
use Rattle.interpolator.proofs.SampleWalkLemmas.{walk_whole, walk_deep, walk_tells}
use Rattle.interpolator_pieces.proofs.CollectLemmas.{answers_first}
use Rattle.interpolator.proofs.template.Template.check_in.Goals as goal

pub collect_pieces-requires : goal.collect_pieces-requires
collect_pieces-requires g c =
    let utf8 = IsUtf8-string_bytes c.self.inside.text in
    let all = ap (λ bs. nodes_of bs c.deref.result.now) c.as_str.ensures.value
    ∙ ap (nodes_of (string_bytes c.self.inside.text)) c.deref.ensures.value ∙ c.self.invariant in
    let small : length (string_bytes c.self.inside.text) < 2 ^ 64 = search rules in
    record {
      whole = walk_whole _ _ (string_bytes c.self.inside.text) utf8 all;
      deep = walk_deep _ _ (string_bytes c.self.inside.text) utf8 all
          (level_in c.outermost-environment.result) c.outermost-environment.ensures.level small;
    }

pub returns-clause-first : goal.returns-clause-first
returns-clause-first g c =
    let utf8 = subst IsUtf8 c.self.view_is (IsUtf8-string_bytes c.self.inside.text) in
    let all = ap (λ bs. nodes_of bs c.deref.result.now) c.as_str.ensures.value
    ∙ ap (nodes_of (string_bytes c.self.inside.text)) c.deref.ensures.value ∙ c.self.invariant
    ∙ ap (λ bs. nodes (outermost (chars bs))) c.self.view_is in
    answers_first
    (faults_over g.C.Object.Value.shows (g.C.Context.finds c.args.sample.now)
    (outermost (chars c.args.self.now)))
    c.first-collector.result c.collect_pieces.new.collector (result_answer c.collect_pieces.result)
    c.first-collector.ensures
    (walk_tells _ _ c.args.self.now utf8 all g.C.Object.Value.shows
    (g.C.Context.finds c.args.sample.now) (sample_of g.C.Context.finds c.outermost-environment.result)
    c.first-collector.result c.collect_pieces.new.collector (result_answer c.collect_pieces.result)
    c.outermost-environment.ensures.sample c.collect_pieces.ensures.collects)

pub returns-clause-place : goal.returns-clause-place
returns-clause-place g c =
    first_lies_over g.C.Object.Value.shows (g.C.Context.finds c.args.sample.now) c.args.self.now
    (result_answer c.collect_pieces.result)
    (subst IsUtf8 c.self.view_is (IsUtf8-string_bytes c.self.inside.text)) (returns-clause-first g c)
