use Rattle.std.proofs.Common.{◌≡◌, arith, length, length-append, length-take-le, rules}
use Rattle.std.proofs.Common.{ap, chars, refl, string_bytes, string_capacity}
use Rattle.std.proofs.lemmas.Str.{chars-append, encodes-chars, IsUtf8-string_bytes}
use Rattle.interpolator_render.proofs.WrittenLemmas.{appends_nothing, chars_nonempty, refuses_all}
use Rattle.interpolator_render.proofs.BoundLemmas.{beginning_over, beginning_refused}
use Rattle.interpolator_render.proofs.BoundLemmas.{refused_over_bound}
use Rattle.interpolator_render.proofs.bounded.BoundedTextWrite.write_str.Goals as goal

pub returns-then-is_empty-clause-written : goal.returns-then-is_empty-clause-written
returns-then-is_empty-clause-written c = appends_nothing _ _ (search rules)

pub returns-then-is_empty-clause-within : goal.returns-then-is_empty-clause-within
returns-then-is_empty-clause-within c = grind (arith, encodes-chars, IsUtf8-string_bytes)

pub returns-then-text-left-clause-written : goal.returns-then-text-left-clause-written
returns-then-text-left-clause-written c =
    grind (arith, chars-append, refuses_all, IsUtf8-string_bytes, chars_nonempty)

pub returns-then-is_empty-clause-left : goal.returns-then-is_empty-clause-left
returns-then-is_empty-clause-left c = grind (arith, encodes-chars)

pub returns-then-text-left-clause-left : goal.returns-then-text-left-clause-left
returns-then-text-left-clause-left c =
    grind (arith, encodes-chars, IsUtf8-string_bytes, length-append)

pub returns-then-text-left-clause-why : goal.returns-then-text-left-clause-why
returns-then-text-left-clause-why c = grind (arith, encodes-chars, IsUtf8-string_bytes)

pub returns-then-text-left-clause-within : goal.returns-then-text-left-clause-within
returns-then-text-left-clause-within c =
    grind (arith, encodes-chars, IsUtf8-string_bytes, length-append)

pub returns-clause-written : goal.returns-clause-written
returns-clause-written c = let put = c.append_beginning in let b = c.self.inside in
    let held : c.len.result ≡ length (string_bytes b.text) = search rules in
    let utf8 = IsUtf8-string_bytes b.text in let within = c.self.invariant.0 in
    rw (← c.self.view_is) (beginning_refused _ _ (string_bytes b.text) c.args.text.now
    put.result.taken utf8 c.utf8.text refl (ap chars put.ensures.bytes) put.ensures.flag
    put.ensures.boundary (omega (arith, put.ensures.fits)) put.ensures.none refl
    (beginning_over b.ready b.refused (string_bytes b.text) c.args.text.now b.most
    (string_capacity b.text) put.result.taken _ utf8 c.utf8.text c.self.invariant.1 (omega arith)
    put.ensures.boundary put.ensures.fits (omega arith) put.ensures.longest))

pub returns-clause-why : goal.returns-clause-why
returns-clause-why c = let put = c.append_beginning in
    let held : c.len.result ≡ length (string_bytes c.self.inside.text) = search rules in
    let within = c.self.invariant.0 in
    refused_over_bound _ (string_bytes c.self.inside.text) _ c.args.text.now
    c.self.inside.refused _ _ _ _ _ put.result.taken _ (IsUtf8-string_bytes c.self.inside.text)
    c.utf8.text c.self.view_is put.ensures.bytes (omega arith) put.ensures.boundary
    put.ensures.fits (omega arith) put.ensures.longest

pub returns-clause-within : goal.returns-clause-within
returns-clause-within c =
    grind (arith, encodes-chars, IsUtf8-string_bytes, length-append, length-take-le)
