-- Taking characters one by one, of bytes that are read ahead.
use Rattle.std.proofs.Common.{◌≡◌, ℕ, ◌+◌, ◌-◌, ◌*◌, ◌^◌, ◌<◌, ◌≤◌, Bool, cond, true, false, List, [], ◌∷◌, ◌++◌, take, drop, length, length-append, drop-drop, Option, Some, None, IfSome, refl, sym, ap, subst, ◌∙◌, arith, append_assoc, append-nil, encode_utf8, encode_utf8_all, true≢false, option_to_list}
use Rattle.std.proofs.lemmas.Bool.Decides.{nat_tests}
use Rattle.std.proofs.lemmas.List.{drop-append-le, take-append-le, take_all, drop_all}
use Rattle.tcl_chan.specs.Characters.{input_chars}
use Rattle.tcl_chan.specs.Devices.{unread_bytes, StaysLeft}
use Rattle.tcl_chan.specs.Ahead.{Grew, IsFront, TakesCount}
use Rattle.tcl_chan.proofs.Steps.{input_chars-nil}

-- What is left of an input is what is held, and more behind it, none where the input has ended.
pub record Behind (held : List ℕ) (ended : Bool) (bytes : List ℕ) : Type 0 where
  pub more : List ℕ
  pub whole : bytes ≡ held ++ more
  pub none : ended ≡ true → more ≡ []

or_nil : Option (List ℕ) → List ℕ
or_nil None = []
or_nil (Some zs) = zs

is_none : Option (List ℕ) → Bool
is_none None = true
is_none (Some zs) = false

some_same : (xs ys : List ℕ) → Some xs ≡ Some ys → xs ≡ ys
unfolding or_nil
some_same xs ys e = ap or_nil e

option_apart : (xs : List ℕ) → None ≡ Some xs → ⊥
unfolding is_none
option_apart xs e = true≢false (ap is_none e)

pub behind : (held : List ℕ) (ended : Bool) (device : Option (List ℕ)) (bytes : List ℕ) → unread_bytes held ended device ≡ Some bytes → Behind held ended bytes
behind held true device bytes is = record { more = []; whole = sym (some_same held bytes is) ∙ sym (append-nil held); none = λ _. refl }
behind held false None bytes is = absurd (option_apart bytes is)
behind held false (Some rest) bytes is = record { more = rest; whole = sym (some_same (held ++ rest) bytes is); none = λ e. absurd (true≢false (sym e)) }

-- and after some of them were let go of
pub passed : (held : List ℕ) (ended : Bool) (device : Option (List ℕ)) (bytes : List ℕ) (size : ℕ) → size ≤ length held
    → unread_bytes held ended device ≡ Some bytes → unread_bytes (drop size held) ended device ≡ Some (drop size bytes)
passed held true device bytes size within is = ap (λ t. Some (drop size t)) (some_same held bytes is)
passed held false None bytes size within is = absurd (option_apart bytes is)
passed held false (Some rest) bytes size within is =
    ap Some (sym (drop-append-le size held rest within)) ∙ ap (λ t. Some (drop size t)) (some_same (held ++ rest) bytes is)

spelled-more : (xs : List ℕ) (c : ℕ) → encode_utf8_all (xs ++ c ∷ []) ≡ encode_utf8_all xs ++ encode_utf8 c
spelled-more [] c = append-nil (encode_utf8 c)
spelled-more (x ∷ xs) c =
    ap (λ t. encode_utf8 x ++ t) (spelled-more xs c) ∙ sym (append_assoc (encode_utf8 x) (encode_utf8_all xs) (encode_utf8 c))

-- So far: the characters that the text is of, and how many are still wanted.
pub record Taking (count left : ℕ) (bytes text : List ℕ) (size : ℕ) : Type 0 where
  pub taken : List ℕ
  pub spells : text ≡ encode_utf8_all taken
  pub wanted : length taken + left ≡ count
  pub chars : input_chars bytes ≡ taken ++ input_chars (drop size bytes)

module _ (held : List ℕ) (ended : Bool) (bytes : List ℕ) (b : Behind held ended bytes) (size n : ℕ) (within : size ≤ length held) where
  next_chars : (char : Option ℕ) → IsFront (drop size held) ended char n → input_chars (drop size bytes) ≡ option_to_list char ++ input_chars (drop (size + n) bytes)
  next_chars char front =
      let here : drop size bytes ≡ drop size held ++ b.more = ap (drop size) b.whole ∙ drop-append-le size held b.more within in
      let then : drop n (drop size bytes) ≡ drop n (drop size held) ++ b.more = ap (drop n) here ∙ drop-append-le n (drop size held) b.more front.within in
      ap input_chars here ∙ front.reads b.more b.none ∙ ap (λ t. option_to_list char ++ input_chars t) (sym then ∙ drop-drop n size bytes)

  taking_char : (count left : ℕ) (text : List ℕ) (c : ℕ) → 0 < left → IsFront (drop size held) ended (Some c) n
      → Taking count left bytes text size → Taking count (left - 1) bytes (text ++ encode_utf8 c) (size + n)
  taking_char count left text c some front so =
      record {
        taken = so.taken ++ c ∷ [];
        spells = ap (λ t. t ++ encode_utf8 c) so.spells ∙ sym (spelled-more so.taken c);
        wanted = omega (arith, length-append so.taken (c ∷ []), so.wanted);
        chars = so.chars ∙ ap (λ t. so.taken ++ t) (next_chars (Some c) front) ∙ sym (append_assoc so.taken (c ∷ []) (input_chars (drop (size + n) bytes)));
      }

  taking_none : (count left : ℕ) (text : List ℕ) → IsFront (drop size held) ended None n
      → Taking count left bytes text size → Taking count left bytes text (size + n)
  taking_none count left text front so =
      record { taken = so.taken; spells = so.spells; wanted = so.wanted; chars = so.chars ∙ ap (λ t. so.taken ++ t) (next_chars None front) }

-- What a loop keeps of the text: where the input told its bytes.
abbrev pub Kept : Option (List ℕ) → List ℕ → Bool → Option (List ℕ) → ℕ → ℕ → List ℕ → ℕ → Type 0
Kept told held ended device count left text size = IfSome told (λ bytes. (unread_bytes held ended device ≡ Some bytes) × Taking count left bytes text size)

pub kept-char : (told : Option (List ℕ)) (held : List ℕ) (ended : Bool) (device : Option (List ℕ)) (count left : ℕ) (text : List ℕ) (size c n : ℕ)
    → size ≤ length held → 0 < left → IsFront (drop size held) ended (Some c) n → Kept told held ended device count left text size
    → Kept told held ended device count (left - 1) (text ++ encode_utf8 c) (size + n)
kept-char None held ended device count left text size c n within some front so = tt
kept-char (Some bytes) held ended device count left text size c n within some front so =
    (so.0, taking_char held ended bytes (behind held ended device bytes so.0) size n within count left text c some front so.1)

pub kept-none : (told : Option (List ℕ)) (held : List ℕ) (ended : Bool) (device : Option (List ℕ)) (count left : ℕ) (text : List ℕ) (size n : ℕ)
    → size ≤ length held → IsFront (drop size held) ended None n → Kept told held ended device count left text size
    → Kept told held ended device count left text (size + n)
kept-none None held ended device count left text size n within front so = tt
kept-none (Some bytes) held ended device count left text size n within front so =
    (so.0, taking_none held ended bytes (behind held ended device bytes so.0) size n within count left text front so.1)

-- more bytes were read
pub kept-filled : (told : Option (List ℕ)) (held new_held : List ℕ) (ended new_ended : Bool) (device new_device : Option (List ℕ)) (count left : ℕ) (text : List ℕ) (size : ℕ)
    → IfSome (unread_bytes held ended device) (λ bytes. unread_bytes new_held new_ended new_device ≡ Some bytes) → Kept told held ended device count left text size
    → Kept told new_held new_ended new_device count left text size
kept-filled None held new_held ended new_ended device new_device count left text size fill so = tt
kept-filled (Some bytes) held new_held ended new_ended device new_device count left text size fill so =
    (subst (λ o. IfSome o (λ bs. unread_bytes new_held new_ended new_device ≡ Some bs)) so.0 fill, so.1)

-- nothing is taken yet
pub kept-first : (held : List ℕ) (ended : Bool) (device : Option (List ℕ)) (count : ℕ) → Kept (unread_bytes held ended device) held ended device count count [] 0
kept-first held ended device count = of (unread_bytes held ended device) refl
  where
    of : (o : Option (List ℕ)) → unread_bytes held ended device ≡ o → IfSome o (λ bytes. (unread_bytes held ended device ≡ Some bytes) × Taking count count bytes [] 0)
    of None is = tt
    of (Some bytes) is = (is, record { taken = []; spells = refl; wanted = omega arith; chars = refl })

-- all that were wanted are taken
pub took-all : (count left : ℕ) (bytes text : List ℕ) (size : ℕ) → left ≡ 0 → Taking count left bytes text size → TakesCount count bytes text size false
took-all count left bytes text size none so =
    let rest = input_chars (drop size bytes) in
    let long = length-append so.taken rest in
    let total = ap length so.chars in
    let wanted = so.wanted in
    record {
      spells = so.spells ∙ ap encode_utf8_all (sym (ap (take count) so.chars ∙ take-append-le count so.taken rest (omega arith) ∙ take_all count so.taken (omega arith)));
      rest = sym (ap (drop count) so.chars ∙ drop-append-le count so.taken rest (omega arith) ∙ ap (λ t. t ++ rest) (drop_all count so.taken (omega arith)));
      fewer = let order : count ≤ length (input_chars bytes) = omega arith in grind (arith, nat_tests);
    }

-- or there are no more
pub took-fewer : (count left : ℕ) (bytes text : List ℕ) (size : ℕ) → 0 < left → drop size bytes ≡ [] → Taking count left bytes text size → TakesCount count bytes text size true
took-fewer count left bytes text size some end so =
    let none : input_chars (drop size bytes) ≡ [] = ap input_chars end ∙ input_chars-nil in
    let all : input_chars bytes ≡ so.taken = so.chars ∙ ap (λ t. so.taken ++ t) none ∙ append-nil so.taken in
    let total = ap length all in
    let wanted = so.wanted in
    record {
      spells = so.spells ∙ ap encode_utf8_all (sym (ap (take count) all ∙ take_all count so.taken (omega arith)));
      rest = none ∙ sym (drop_all count (input_chars bytes) (omega arith));
      fewer = let order : length (input_chars bytes) < count = omega arith in grind (arith, nat_tests);
    }

-- what the loop leaves, at either end
pub kept-all : (told : Option (List ℕ)) (held : List ℕ) (ended : Bool) (device : Option (List ℕ)) (count left : ℕ) (text : List ℕ) (size : ℕ)
    → left ≡ 0 → Kept told held ended device count left text size → IfSome told (λ bytes. TakesCount count bytes text size false)
kept-all None held ended device count left text size none so = tt
kept-all (Some bytes) held ended device count left text size none so = took-all count left bytes text size none so.1

pub kept-fewer : (told : Option (List ℕ)) (held : List ℕ) (ended : Bool) (device : Option (List ℕ)) (count left : ℕ) (text : List ℕ) (size : ℕ)
    → 0 < left → ended ≡ true → size ≡ length held → Kept told held ended device count left text size → IfSome told (λ bytes. TakesCount count bytes text size true)
kept-fewer None held ended device count left text size some end all so = tt
kept-fewer (Some bytes) held ended device count left text size some end all so =
    let b = behind held ended device bytes so.0 in
    let held_all : bytes ≡ held = b.whole ∙ ap (λ t. held ++ t) (b.none end) ∙ append-nil held in
    took-fewer count left bytes text size some (ap (drop size) held_all ∙ drop_all size held (omega arith)) so.1

-- the same, with the new text and count by their equations
pub kept-pushed : (told : Option (List ℕ)) (held : List ℕ) (ended : Bool) (device : Option (List ℕ)) (count left new_left : ℕ) (text new_text : List ℕ) (size c n : ℕ) (char : Option ℕ)
    → char ≡ Some c → new_text ≡ text ++ encode_utf8 c → new_left ≡ left - 1
    → size ≤ length held → 0 < left → IsFront (drop size held) ended char n → Kept told held ended device count left text size
    → Kept told held ended device count new_left new_text (size + n)
kept-pushed told held ended device count left new_left text new_text size c n char is pushed fewer within some front so =
    subst (λ l. Kept told held ended device count l new_text (size + n)) (sym fewer)
    (subst (λ t. Kept told held ended device count (left - 1) t (size + n)) (sym pushed)
    (kept-char told held ended device count left text size c n within some (subst (λ o. IsFront (drop size held) ended o n) is front) so))

pub kept-skipped : (told : Option (List ℕ)) (held : List ℕ) (ended : Bool) (device : Option (List ℕ)) (count left new_left : ℕ) (text new_text : List ℕ) (size n : ℕ) (char : Option ℕ)
    → char ≡ None → new_text ≡ text → new_left ≡ left
    → size ≤ length held → IsFront (drop size held) ended char n → Kept told held ended device count left text size
    → Kept told held ended device count new_left new_text (size + n)
kept-skipped told held ended device count left new_left text new_text size n char is same_text same within front so =
    subst (λ l. Kept told held ended device count l new_text (size + n)) (sym same)
    (subst (λ t. Kept told held ended device count left t (size + n)) (sym same_text)
    (kept-none told held ended device count left text size n within (subst (λ o. IsFront (drop size held) ended o n) is front) so))

-- the measure of the loop falls where bytes are read
pub filled-smaller : (held now : List ℕ) (ended now_ended : Bool) (size : ℕ) → ended ≡ false → Grew held now now_ended → length now < 2 ^ 63 → size ≤ length held
    → 2 * (2 ^ 63 - length now) + (length now - size) + cond now_ended 0 1 < 2 * (2 ^ 63 - length held) + (length held - size) + cond ended 0 1
filled-smaller held now true now_ended size is grew small within = absurd (true≢false is)
filled-smaller held now false true size is grew small within =
    omega (arith, length-append held grew.more, ap length grew.front)
filled-smaller held now false false size is grew small within =
    omega (arith, length-append held grew.more, ap length grew.front, grew.some refl)

-- what stays left stays so
pub stays_on : (first mid last : Option (List ℕ)) → StaysLeft first mid → StaysLeft mid last → StaysLeft first last
stays_on None mid last a b = tt
stays_on (Some bytes) mid last a b = subst (λ o. StaysLeft o last) a b
