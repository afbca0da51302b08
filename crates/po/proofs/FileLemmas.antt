-- A file has one list of tokens, or one fault.
use Rattle.std.proofs.Common.{◌≡◌, ℕ, List, [], ◌∷◌, ◌∙◌, arith, refl, inl, inr, sym, ap, length}
use Rattle.std.proofs.Common.{◌==◌}
use Rattle.std.specs.{List.after_first, List.before_first, Str.trim_start}
use Rattle.po.proofs.OnceLemmas.{IsOnly, IsStuck, one_string, read_once, string_or_fault}
use Rattle.po.specs.Marks.{NotFirst, hash, line_feed, quote}
use Rattle.po.specs.Tokens.{BreaksToken, HasTokens, IsBroken, IsToken, ReadsSpot, Spot, Word, note}
use Rattle.po.specs.Tokens.{note_of, string, word, word_of}
use Rattle.po.specs.{declared.fault.Fault.Fault, declared.token.Note.Note}

rest_is : (b : ℕ) (bs cs text : List ℕ) → text ≡ b ∷ bs → text ≡ b ∷ cs → bs ≡ cs
rest_is b bs cs text e f = cc

-- a comment, a string and a word begin otherwise
hash_is_no_quote : (text bs cs : List ℕ) → text ≡ hash ∷ bs → text ≡ quote ∷ cs → ⊥
hash_is_no_quote text bs cs e f = absurd (cc)

not_first : (b : ℕ) (bs text : List ℕ) → text ≡ b ∷ bs → NotFirst b text → ⊥
not_first b bs [] e other = absurd (cc)
not_first b bs (c ∷ cs) e other = other (cc)

note_in : List ℕ → Note
note_in more = note_of (before_first (λ b. b == line_feed) more)

after_note : List ℕ → List ℕ
after_note more = after_first (λ b. b == line_feed) more

only_token : (one other : Word) (text rest tail : List ℕ) → IsToken one text rest
    → IsToken other text tail → (one ≡ other) × (rest ≡ tail)
unfolding note_in after_note
only_token (note n) (note m) text rest tail (more, e, is, ends) (also, f, other, stops) =
    let same = rest_is hash more also text e f in (
      ap note (is ∙ (ap note_in same ∙ sym other)),
      ends ∙ (ap after_note same ∙ sym stops),
    )
only_token (note n) (string v) text rest tail (more, e, is, ends) (also, f, other) =
    absurd (hash_is_no_quote text more also e f)
only_token (note n) (word w) text rest tail (more, e, is, ends) (no_hash, no_quote, some, other, stops) =
    absurd (not_first hash more text e no_hash)
only_token (string v) (note n) text rest tail (more, e, is) (also, f, other, ends) =
    absurd (hash_is_no_quote text also more f e)
only_token (string v) (string w) text rest tail (more, e, is) (also, f, other) =
    let all = one_string more v w rest tail is (rw (← rest_is quote more also text e f) at other) in
    (ap string all.0, all.1)
only_token (string v) (word w) text rest tail (more, e, is) (no_hash, no_quote, some, other, ends) =
    absurd (not_first quote more text e no_quote)
only_token (word w) (note n) text rest tail (no_hash, no_quote, some, other, stops) (more, e, is, ends) =
    absurd (not_first hash more text e no_hash)
only_token (word w) (string v) text rest tail (no_hash, no_quote, some, other, ends) (more, e, is) =
    absurd (not_first quote more text e no_quote)
only_token (word w) (word v) text rest tail (a, b, c, is, ends) (d, e, f, other, stops) =
    (ap word (is ∙ sym other), ends ∙ sym stops)

only_spot : (end : ℕ) → IsOnly (ReadsSpot end)
only_spot end text (place, one) rest (other_place, other) tail (reads, at) (also, there) =
    let all = only_token one other (trim_start text) rest tail reads also in
    let same : place ≡ other_place = at ∙ sym there in
    (grind (arith, all.0, same), all.1)

-- at the end of a file there is no token
no_token_at_end : (one : Word) (text rest : List ℕ) → text ≡ [] → IsToken one text rest → ⊥
no_token_at_end (note n) text rest none (more, e, is, ends) = absurd (cc)
no_token_at_end (string v) text rest none (more, e, is) = absurd (cc)
no_token_at_end (word w) text rest none (no_hash, no_quote, some, is, ends) =
    let empty : word_of text ≡ [] = rw none refl in some (is ∙ empty)

stuck_at_end : (end : ℕ) (text : List ℕ) → trim_start text ≡ [] → IsStuck (ReadsSpot end) text
stuck_at_end end text none spot rest reads =
    no_token_at_end spot.1 (trim_start text) rest none reads.0

-- nor where there is a fault
no_token_at_fault : (end : ℕ) (one : Word) (text rest : List ℕ) (fault : Fault)
    → BreaksToken end text fault → IsToken one text rest → ⊥
no_token_at_fault end (note n) text rest fault (inl (more, e, broken)) (also, f, is, ends) =
    hash_is_no_quote text also more f e
no_token_at_fault end (string v) text rest fault (inl (more, e, broken)) (also, f, is) =
    string_or_fault end more v rest fault (rw (← rest_is quote more also text e f) at is) broken
no_token_at_fault end (word w) text rest fault (inl (more, e, broken)) (a, no_quote, some, is, ends) =
    not_first quote more text e no_quote
no_token_at_fault end (note n) text rest fault (inr (no_hash, a, b, c, d)) (also, f, is, ends) =
    not_first hash also text f no_hash
no_token_at_fault end (string v) text rest fault (inr (a, no_quote, b, c, d)) (also, f, is) =
    not_first quote also text f no_quote
no_token_at_fault end (word w) text rest fault (inr (a, b, c, none, d)) (e, f, some, is, ends) =
    some (is ∙ none)

stuck_at_fault : (end : ℕ) (text : List ℕ) (fault : Fault) → BreaksToken end (trim_start text) fault
    → IsStuck (ReadsSpot end) text
stuck_at_fault end text fault breaks spot rest reads =
    no_token_at_fault end spot.1 (trim_start text) rest fault breaks reads.0

pub tokens_once : (text : List ℕ) (one other : List Spot) → HasTokens text one
    → HasTokens text other → one ≡ other
tokens_once text one other (last, reads, none) (end, also, nothing) =
    let all = read_once (ReadsSpot (length text)) (only_spot (length text)) text one other last end
    reads also (stuck_at_end (length text) last none) (stuck_at_end (length text) end nothing) in
    all.0

-- the end of a file is no fault
end_is_no_fault : (end : ℕ) (text : List ℕ) (fault : Fault) → text ≡ []
    → BreaksToken end text fault → ⊥
end_is_no_fault end text fault none (inl (more, e, broken)) = absurd (cc)
end_is_no_fault end text fault none (inr (a, b, some, c, d)) = some none

pub never_both : (text : List ℕ) (spots : List Spot) (fault : Fault) → HasTokens text spots
    → IsBroken text fault → ⊥
never_both text spots fault (last, reads, none) (others, end, also, breaks) =
    let all = read_once (ReadsSpot (length text)) (only_spot (length text)) text spots others last
    end reads also (stuck_at_end (length text) last none)
    (stuck_at_fault (length text) end fault breaks) in
    end_is_no_fault (length text) (trim_start end) fault (rw (← all.1) none) breaks
