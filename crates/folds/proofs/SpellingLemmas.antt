-- What is left of a text, character by character.
use Rattle.std.proofs.Common.{◌≡◌, ◌∙◌, ap, sym, refl, arith, ℕ, ◌+◌, ◌-◌, ◌<◌, ◌≤◌, true, false}
use Rattle.std.proofs.Common.{List, [], ◌∷◌, ◌++◌, Option, None, Some, Ok, Err, append_assoc}
use Rattle.std.proofs.Common.{append-nil, drop, get_or, length}
use Rattle.std.proofs.lemmas.{Bool.Decides.nat_tests, List.at_drop_all, List.at_drop_more}
use Rattle.std.specs.Str.{chars}
use Rattle.folds.specs.Spellings.{Spelling, and_meant, begin_of, by_step, byte_after, bytes_of}
use Rattle.folds.specs.Spellings.{bytes_of_one, is_open, left_at, passed, spelled, spelling, step}
use Rattle.folds.specs.Spellings.{text_in}
use Rattle.folds.specs.{declared.spelling.After.After, declared.spelling.At.At}

-- a character is the next of some
abbrev pub IsNext : List ℕ → ℕ → ℕ → Type 0
IsNext cs n c = (n < length cs) × (c ≡ get_or cs n c)

-- what is left begins with it
next_left : (at : At) (cs : List ℕ) (n c : ℕ) → IsNext cs n c
    → spelled at (drop n cs) ≡ by_step (step at.after c) (begin_of at)
    (λ after. spelled (passed at after c) (drop (n + 1) cs))
next_left at cs n c h = at_drop_more (spelled at) cs n c h.0
    ∙ ap (λ x. spelled at (x ∷ drop (n + 1) cs)) (sym h.1)

-- the characters that are meant, if it is not wrong
next_meant : (at : At) (cs : List ℕ) (n c : ℕ) (after : After) (meant : Option ℕ) → IsNext cs n c
    → step at.after c ≡ Some (after, meant) → spelled at (drop n cs)
    ≡ and_meant meant (begin_of at) (spelled (passed at after c) (drop (n + 1) cs))
next_meant at cs n c after meant h e = next_left at cs n c h ∙ rw e refl

next_wrong : (at : At) (cs : List ℕ) (n c : ℕ) → IsNext cs n c → step at.after c ≡ None
    → spelled at (drop n cs) ≡ record { meant = []; wrong = Some (begin_of at) }
next_wrong at cs n c h e = next_left at cs n c h ∙ rw e refl

bytes_meant : (meant : Option ℕ) (begin : ℕ) (rest : Spelling)
    → bytes_of (and_meant meant begin rest).meant ≡ bytes_of_one meant ++ bytes_of rest.meant
bytes_meant None begin rest = refl
bytes_meant (Some c) begin rest = refl

wrong_meant : (meant : Option ℕ) (begin : ℕ) (rest : Spelling)
    → (and_meant meant begin rest).wrong ≡ rest.wrong
wrong_meant None begin rest = refl
wrong_meant (Some c) begin rest = refl

-- the text so far and what is left are the whole, after one more character
pub text_next : (at : At) (cs : List ℕ) (n c : ℕ) (after : After) (meant : Option ℕ)
    (text new all : List ℕ) → IsNext cs n c → step at.after c ≡ Some (after, meant)
    → text ++ bytes_of (spelled at (drop n cs)).meant ≡ all → new ≡ text ++ bytes_of_one meant
    → new ++ bytes_of (spelled (passed at after c) (drop (n + 1) cs)).meant ≡ all
text_next at cs n c after meant text new all h e so_far more =
    let rest = spelled (passed at after c) (drop (n + 1) cs) in
    rw (
      more,
      append_assoc text (bytes_of_one meant) (bytes_of rest.meant),
      ← bytes_meant meant (begin_of at) rest,
    ) (rw (next_meant at cs n c after meant h e) at so_far)

pub wrong_next : (at : At) (cs : List ℕ) (n c : ℕ) (after : After) (meant : Option ℕ)
    (all : Option ℕ) → IsNext cs n c → step at.after c ≡ Some (after, meant)
    → (spelled at (drop n cs)).wrong ≡ all
    → (spelled (passed at after c) (drop (n + 1) cs)).wrong ≡ all
wrong_next at cs n c after meant all h e so_far =
    let rest = spelled (passed at after c) (drop (n + 1) cs) in
    sym (wrong_meant meant (begin_of at) rest)
    ∙ (rw (next_meant at cs n c after meant h e) at so_far)

-- a backslash is wrong
found_wrong : (written : List ℕ) (left place : ℕ) → (spelling written).wrong ≡ Some left
    → place ≡ length written - left → text_in written ≡ Err place
found_wrong written left place wrong is = rw (wrong, is) refl

pub wrong_there : (written : List ℕ) (at : At) (n c place : ℕ) → IsNext (chars written) n c
    → (spelled at (drop n (chars written))).wrong ≡ (spelling written).wrong
    → step at.after c ≡ None → place ≡ length written - begin_of at
    → text_in written ≡ Err place
wrong_there written at n c place h same none is =
    found_wrong written (begin_of at) place
    (sym same ∙ ap (λ (s : Spelling). s.wrong) (next_wrong at (chars written) n c h none)) is

-- nothing is left
at_end : (at : At) (cs : List ℕ) (n : ℕ) → length cs ≤ n → spelled at (drop n cs) ≡ spelled at []
at_end at cs n h = at_drop_all (spelled at) cs n h

slash_end : (at : At) → is_open at ≡ true → (spelled at []).wrong ≡ Some (begin_of at)
slash_end at ends = rw ends refl

shut_end : (at : At) → is_open at ≡ false → spelled at [] ≡ record { meant = []; wrong = None }
shut_end at shut = rw shut refl

pub wrong_end : (written : List ℕ) (at : At) (n place : ℕ) → length (chars written) ≤ n
    → (spelled at (drop n (chars written))).wrong ≡ (spelling written).wrong
    → is_open at ≡ true → place ≡ length written - begin_of at → text_in written ≡ Err place
wrong_end written at n place h same ends is =
    found_wrong written (begin_of at) place
    (sym same ∙ (ap (λ (s : Spelling). s.wrong) (at_end at (chars written) n h)
    ∙ slash_end at ends)) is

-- the text is whole
whole_text : (written text : List ℕ) → None ≡ (spelling written).wrong
    → text ≡ bytes_of (spelling written).meant → text_in written ≡ Ok text
whole_text written text right is = rw (← right, is) refl

pub text_end : (written text : List ℕ) (at : At) (n : ℕ) → length (chars written) ≤ n
    → text ++ bytes_of (spelled at (drop n (chars written))).meant
    ≡ bytes_of (spelling written).meant
    → (spelled at (drop n (chars written))).wrong ≡ (spelling written).wrong
    → is_open at ≡ false → text_in written ≡ Ok text
text_end written text at n h so_far same shut =
    let end = at_end at (chars written) n h ∙ shut_end at shut in
    whole_text written text (rw end at same) (sym (append-nil text) ∙ (rw end at so_far))

-- the byte that is looked for is written before, or later
left_none : (byte begin : ℕ) (meant : Option ℕ) (rest : Spelling) → byte_after byte meant ≡ None
    → left_at byte (and_meant meant begin rest).meant ≡ begin
left_none byte begin None rest e = absurd (cc)
left_none byte begin (Some c) rest e = grind (arith, nat_tests, e)

left_some : (byte begin next : ℕ) (meant : Option ℕ) (rest : Spelling)
    → byte_after byte meant ≡ Some next
    → left_at byte (and_meant meant begin rest).meant ≡ left_at next rest.meant
left_some byte begin next None rest e = grind (arith, e)
left_some byte begin next (Some c) rest e = grind (arith, nat_tests, e)

pub place_next : (at : At) (cs : List ℕ) (n c byte next all : ℕ) (after : After)
    (meant : Option ℕ) → IsNext cs n c → step at.after c ≡ Some (after, meant)
    → byte_after byte meant ≡ Some next → left_at byte (spelled at (drop n cs)).meant ≡ all
    → left_at next (spelled (passed at after c) (drop (n + 1) cs)).meant ≡ all
place_next at cs n c byte next all after meant h e passes so_far =
    let rest = spelled (passed at after c) (drop (n + 1) cs) in
    sym (left_some byte (begin_of at) next meant rest passes)
    ∙ (rw (next_meant at cs n c after meant h e) at so_far)

pub place_here : (written : List ℕ) (at : At) (n c byte all place : ℕ) (after : After)
    (meant : Option ℕ) → IsNext (chars written) n c → step at.after c ≡ Some (after, meant)
    → byte_after byte meant ≡ None
    → left_at byte (spelled at (drop n (chars written))).meant ≡ all
    → place ≡ length written - begin_of at → place ≡ length written - all
place_here written at n c byte all place after meant h e here so_far is =
    let rest = spelled (passed at after c) (drop (n + 1) (chars written)) in
    is ∙ ap (λ left. length written - left)
    (sym (left_none byte (begin_of at) meant rest here)
    ∙ (rw (next_meant at (chars written) n c after meant h e) at so_far))

-- there is nothing more that is written, so it is behind all
pub place_wrong : (written : List ℕ) (at : At) (n c byte all : ℕ) → IsNext (chars written) n c
    → step at.after c ≡ None → left_at byte (spelled at (drop n (chars written))).meant ≡ all
    → length written ≡ length written - all
place_wrong written at n c byte all h none so_far =
    let no : 0 ≡ all = rw (next_wrong at (chars written) n c h none) at so_far in
    omega (arith, no)

left_end : (at : At) (byte : ℕ) → left_at byte (spelled at []).meant ≡ 0
left_end at byte = grind arith

pub place_end : (written : List ℕ) (at : At) (n byte all : ℕ) → length (chars written) ≤ n
    → left_at byte (spelled at (drop n (chars written))).meant ≡ all
    → length written ≡ length written - all
place_end written at n byte all h so_far =
    let no : 0 ≡ all = sym (left_end at byte) ∙ (rw (at_end at (chars written) n h) at so_far) in
    omega (arith, no)
