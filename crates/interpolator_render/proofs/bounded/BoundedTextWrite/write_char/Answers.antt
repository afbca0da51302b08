use Rattle.std.proofs.Common.{[], ◌∷◌, append-nil, arith, inl, inr, length-append, refl}
use Rattle.std.proofs.lemmas.Str.{chars-append, encodes-chars, IsUtf8-string_bytes}
use Rattle.interpolator_render.proofs.BoundLemmas.{past_bound}
use Rattle.interpolator_render.proofs.WrittenLemmas.{chars-encode, refuses_all}
use Rattle.interpolator_render.proofs.bounded.BoundedTextWrite.write_char.Goals as goal

pub returns-then-len_utf8-self-clause-written : goal.returns-then-len_utf8-self-clause-written
returns-then-len_utf8-self-clause-written c =
    grind (arith, chars-append, append-nil, refuses_all, chars-encode, IsUtf8-string_bytes)

pub returns-then-len_utf8-self-clause-left : goal.returns-then-len_utf8-self-clause-left
returns-then-len_utf8-self-clause-left c =
    grind (arith, encodes-chars, IsUtf8-string_bytes, append-nil, length-append)

pub returns-then-len_utf8-self-clause-why : goal.returns-then-len_utf8-self-clause-why
returns-then-len_utf8-self-clause-why c =
    grind (arith, encodes-chars, IsUtf8-string_bytes, append-nil)

pub returns-then-len_utf8-self-clause-within : goal.returns-then-len_utf8-self-clause-within
returns-then-len_utf8-self-clause-within c =
    grind (arith, encodes-chars, IsUtf8-string_bytes, length-append)

pub returns-clause-written : goal.returns-clause-written
returns-clause-written c = let b = c.self.inside in
    rw (← c.self.view_is) (refuses_all _ _ (c.args.c ∷ []) (omega arith) refl refl refl
    (past_bound b.ready b.refused b.most _
    (inr (grind (arith, encodes-chars, IsUtf8-string_bytes)))))

pub returns-clause-why : goal.returns-clause-why
returns-clause-why c = inr (inl (record {
  beginning = [];
  next = c.args.c;
  rest = [];
  parts = refl;
  appended = grind (arith, append-nil);
  over = grind (arith, encodes-chars, IsUtf8-string_bytes);
}))

pub returns-clause-within : goal.returns-clause-within
returns-clause-within c = grind (arith, encodes-chars, IsUtf8-string_bytes)
