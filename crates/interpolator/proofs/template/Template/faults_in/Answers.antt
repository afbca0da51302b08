use Rattle.std.proofs.Common.{ap, ◌∙◌, subst, rules, ◌<◌, ◌^◌, length, None}
use Rattle.std.proofs.{lemmas.Result.err_from_is_err_and, lemmas.Str.IsUtf8-string_bytes}
use Rattle.std.specs.{Prelude.string_bytes, Str.chars, Str.IsUtf8}
use Rattle.interpolator_syntax.specs.{Places.outermost, Faults.answer_of, Nodes.nodes}
use Rattle.interpolator_eval.specs.Meaning.Samples.{sample_of, level_in}
use Rattle.interpolator_pieces.specs.{NodeSamples.faults_over, Stored.nodes_of}
use Rattle.interpolator.proofs.SampleWalkLemmas.{walk_whole, walk_deep, walk_tells}
use Rattle.interpolator.proofs.SamplePlaceLemmas.{reported_lie_over}
use Rattle.interpolator_pieces.proofs.CollectLemmas.{all_kept, only_memory}
use Rattle.interpolator.proofs.template.Template.faults_in.Goals as goal

pub collect_pieces-requires : goal.collect_pieces-requires
collect_pieces-requires g c =
    let utf8 = IsUtf8-string_bytes c.self.inside.text in
    let all = ap (λ bs. nodes_of bs c.deref.result.now) c.as_str.ensures.value
    ∙ ap (nodes_of (string_bytes c.self.inside.text)) c.deref.ensures.value ∙ c.self.invariant in
    let small : length (string_bytes c.self.inside.text) < 2 ^ 64 = search rules in
    record {
      whole = walk_whole _ _ (string_bytes c.self.inside.text) utf8 all;
      deep = walk_deep _ _ (string_bytes c.self.inside.text) utf8 all
          (level_in c.outermost-environment.result) c.outermost-environment.ensures.level small;
    }

pub returns-clause-all : goal.returns-clause-all
returns-clause-all g c =
    let utf8 = subst IsUtf8 c.self.view_is (IsUtf8-string_bytes c.self.inside.text) in
    let all = ap (λ bs. nodes_of bs c.deref.result.now) c.as_str.ensures.value
    ∙ ap (nodes_of (string_bytes c.self.inside.text)) c.deref.ensures.value ∙ c.self.invariant
    ∙ ap (λ bs. nodes (outermost (chars bs))) c.self.view_is in
    let a = outermost (chars c.args.self.now) in
    rw (c.into_kept.ensures)
    (all_kept (faults_over g.C.Object.Value.shows (g.C.Context.finds c.args.sample.now) a)
    c.all-collector.result c.collect_pieces.new.collector c.all-collector.ensures.none
    (walk_tells _ _ c.args.self.now utf8 all g.C.Object.Value.shows
    (g.C.Context.finds c.args.sample.now) (sample_of g.C.Context.finds c.outermost-environment.result)
    c.all-collector.result c.collect_pieces.new.collector None c.outermost-environment.ensures.sample
    c.in_ok-collect_pieces.ensures.collects))

pub returns-in_err-collect_pieces-clause-refused : goal.returns-in_err-collect_pieces-clause-refused
returns-in_err-collect_pieces-clause-refused g c =
    let err = err_from_is_err_and c.from_residual.result c.from_residual.ensures.1 in
    let a = answer_of c.in_err-collect_pieces.field-0.0 in
    rw (err.1, err.2)
    (only_memory _ c.all-collector.result c.collect_pieces.new.collector a c.all-collector.ensures.all
    c.in_err-collect_pieces.ensures.collects)

pub returns-clause-places : goal.returns-clause-places
returns-clause-places g c =
    let utf8 = subst IsUtf8 c.self.view_is (IsUtf8-string_bytes c.self.inside.text) in
    reported_lie_over g.C.Object.Value.shows (g.C.Context.finds c.args.sample.now) c.args.self.now utf8 _
    (returns-clause-all g c)
