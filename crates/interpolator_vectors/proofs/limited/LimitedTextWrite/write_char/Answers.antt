use Rattle.std.proofs.Common.{◌∙◌, ap, inl, sym, refl, arith, string_bytes, encode_utf8}
use Rattle.std.specs.Str.{chars}
use Rattle.std.proofs.lemmas.Str.{IsUtf8-string_bytes}
use Rattle.interpolator_render.specs.Writers.{Written}
use Rattle.interpolator_render.proofs.WrittenLemmas.{buffer_appends, chars-encode, may_refuse}
use Rattle.interpolator_render.proofs.WrittenLemmas.{refuses_all}
use Rattle.interpolator_vectors.proofs.limited.LimitedTextWrite.write_char.Goals as goal

pub returns-in-Ok : goal.returns-in-Ok
returns-in-Ok c = rw (← chars-encode c.args.c c.ranges.c.0)
    (buffer_appends _ _ (string_bytes c.self.inside.text) (encode_utf8 c.args.c)
    (IsUtf8-string_bytes c.self.inside.text)
    (sym (ap (λ (w : Written). w.text) c.self.view_is))
    (sym (ap (λ (w : Written). w.refused) c.self.view_is) ∙ c.if-self.false)
    (ap chars c.in-Ok.ensures.bytes) c.if-self.false
    (ap (λ (w : Written). w.origin) c.self.view_is))

pub returns-then-self : goal.returns-then-self
returns-then-self c =
    refuses_all _ _ _ (omega arith) refl (sym (ap (λ (w : Written). w.refused) c.self.view_is)
    ∙ c.if-self.true) refl (may_refuse _ _ _
    (inl (sym (ap (λ (w : Written). w.origin.bound) c.self.view_is))))

pub returns-in-Err : goal.returns-in-Err
returns-in-Err c =
    refuses_all _ _ _ (omega arith) (ap chars c.in-Err.ensures.bytes
    ∙ ap (λ (w : Written). w.text) c.self.view_is) refl
    (ap (λ (w : Written). w.origin) c.self.view_is) (may_refuse _ _ _
    (inl (sym (ap (λ (w : Written). w.origin.bound) c.self.view_is))))

pub returns-then-self-eq0 : goal.returns-then-self-eq0
returns-then-self-eq0 c =
    refuses_all _ _ _ (omega arith) (ap (λ (w : Written). w.text) c.self.view_is) refl
    (ap (λ (w : Written). w.origin) c.self.view_is) (may_refuse _ _ _
    (inl (sym (ap (λ (w : Written). w.origin.bound) c.self.view_is))))
