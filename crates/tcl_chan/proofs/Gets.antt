-- What a call takes of an input with a line.
use Rattle.std.proofs.Common.{◌≡◌, ◌≢◌, ℕ, ◌+◌, ◌-◌, ◌<◌, Bool, true, false, List, [], ◌∷◌, ◌++◌, take, drop, length, length-append, slice_index, Option, Some, None, IfSome, refl, sym, ap, subst, ◌∙◌, arith, append_assoc, append-nil, encode_utf8_all, get_or-take, take-append-drop, length-take-le, Result, Ok, Err, IfOk, true≢false, is_some}
use Rattle.std.proofs.lemmas.List.{drop-append-le, drop_all, drop_more, get_or_append_left, same_from_push}
use Rattle.std.specs.Option.{option_eq}
use Rattle.std.specs.Prelude.{eqb, ◌==◌}
use Rattle.std.proofs.lemmas.Bool.{eqb-true}
use Rattle.std.proofs.lemmas.Bool.Decides.{nat_tests}
use Rattle.bstr.specs.Utf8.{or_replacement, lossy_chars, IsLastPiece}
use Rattle.bstr.proofs.lemmas.PieceLemmas.{lossy_chars-last, lossy_chars-step, lossy_chars-nil}
use Rattle.memchr.specs.Find.{Passes, Nowhere, is_byte}
use Rattle.tcl_chan.specs.Characters.{input_chars, line_taken}
use Rattle.tcl_chan.specs.Newlines.{joined_newlines}
use Rattle.tcl_chan.specs.Devices.{unread_bytes}
use Rattle.tcl_chan.specs.Ahead.{OneLine, IsLineOf}
use Rattle.tcl_chan.specs.Sources.{TakesLine}
use Rattle.tcl_chan.proofs.Fronts.{lossy_chars-split}
use Rattle.tcl_chan.proofs.Lines.{NoReturn, one_line-text, joined-line, joined-before, joined-return, taken-line, taken-nothing, taken-last}
use Rattle.tcl_chan.proofs.Scalars.{line-reads}
use Rattle.tcl_chan.proofs.Takes.{behind, passed}
use Rattle.tcl_chan.proofs.Steps.{input_chars-nil}

one_line-front : (xs ys : List ℕ) → OneLine (xs ++ ys) → OneLine xs
one_line-front xs ys one = record { each = λ k below is. one.each k (omega (arith, length-append xs ys)) (get_or_append_left xs ys 0 k below ∙ is) }

-- the line ends with CR
pub line-return : (bytes text : List ℕ) (size : ℕ) → IsLastPiece bytes (record { char = Some 13; size = size })
    → text ≡ encode_utf8_all (lossy_chars (take (length bytes - size) bytes)) → IsLineOf bytes text
line-return bytes text size last spells =
    let front = lossy_chars (take (length bytes - size) bytes) in
    let whole : lossy_chars bytes ≡ front ++ 13 ∷ [] = lossy_chars-last bytes _ last in
    let one : OneLine bytes → OneLine front = λ h. one_line-front front (13 ∷ []) (subst OneLine whole (one_line-text bytes h)) in
    record {
      chars = front;
      spells = spells;
      joined = λ h more. ap (λ t. joined_newlines (t ++ 10 ∷ more)) whole ∙ ap joined_newlines (append_assoc front (13 ∷ []) (10 ∷ more))
          ∙ joined-return front more (one h);
      one = one;
    }

is_return : (o : Option ℕ) → or_replacement o ≡ 13 → o ≡ Some 13
is_return None is = absurd (omega arith)
is_return (Some c) is = ap Some is

no_return_in : (bytes : List ℕ) (char : Option ℕ) (size : ℕ) → (0 < length bytes → IsLastPiece bytes (record { char = char; size = size })) → char ≢ Some 13 → NoReturn (lossy_chars bytes)
no_return_in [] char size last other = record {
  last = λ front e. let long = ap length (sym lossy_chars-nil ∙ e) in absurd (omega (arith, length-append front (13 ∷ [])));
}
no_return_in (b ∷ bs) char size last other =
    let whole = lossy_chars-last (b ∷ bs) _ (last (omega arith)) in
    record { last = λ front e. other (is_return char (same_from_push _ front (or_replacement char) 13 (sym whole ∙ e)).1) }

-- or it doesn't
pub line-plain : (bytes text : List ℕ) (char : Option ℕ) (size : ℕ) → (0 < length bytes → IsLastPiece bytes (record { char = char; size = size })) → char ≢ Some 13
    → text ≡ encode_utf8_all (lossy_chars bytes) → IsLineOf bytes text
line-plain bytes text char size last other spells = record {
  chars = lossy_chars bytes;
  spells = spells;
  joined = λ h more. joined-before (lossy_chars bytes) more (one_line-text bytes h) (no_return_in bytes char size last other);
  one = λ h. one_line-text bytes h;
}

-- a line feed stands at a place, and none before it
pub gets-line : (told : Option (List ℕ)) (held : List ℕ) (ended : Bool) (device after : Option (List ℕ)) (place : ℕ) (met : Bool) (text : List ℕ)
    → IfSome told (λ bytes. unread_bytes held ended device ≡ Some bytes) → place < length held → slice_index held place ≡ 10 → OneLine (take place held)
    → IsLineOf (take place held) text → after ≡ unread_bytes (drop (place + 1) held) ended device
    → IfSome told (λ bytes. TakesLine bytes met (Some text) after met)
gets-line None held ended device after place met text is below feed one line gone = tt
gets-line (Some bytes) held ended device after place met text is below feed one line gone =
    let b = behind held ended device bytes is in
    let front = take place held in
    let later = drop (place + 1) held in
    let rest = drop (place + 1) bytes in
    let rest_is : rest ≡ later ++ b.more = ap (drop (place + 1)) b.whole ∙ drop-append-le (place + 1) held b.more (omega arith) in
    let held_is : held ≡ front ++ 10 ∷ later =
    sym (take-append-drop place held) ∙ ap (λ t. front ++ t) (drop_more held place 0 below ∙ ap (λ x. x ∷ later) feed) in
    let all : bytes ≡ front ++ 10 ∷ rest =
    b.whole ∙ ap (λ t. t ++ b.more) held_is ∙ append_assoc front (10 ∷ later) b.more ∙ ap (λ t. front ++ 10 ∷ t) (sym rest_is) in
    let chars : input_chars bytes ≡ line.chars ++ 10 ∷ input_chars rest =
    ap input_chars all ∙ ap joined_newlines (lossy_chars-split front 10 rest (omega arith)) ∙ line.joined one (lossy_chars rest) in
    let taken = ap (λ cs. line_taken cs met) chars ∙ taken-line line.chars (input_chars rest) met (line.one one) in
    let spells = ap Some line.spells in
    record {
      rest = rest;
      left = gone ∙ passed held ended device bytes (place + 1) (omega arith) is;
      chars = Some line.chars;
      spells = spells;
      reads = line-reads bytes met (Some text) (Some line.chars) _ spells taken;
      taken = taken;
    }

-- nothing is left
pub gets-nothing : (told : Option (List ℕ)) (held : List ℕ) (ended : Bool) (device : Option (List ℕ)) (met : Bool)
    → IfSome told (λ bytes. unread_bytes held ended device ≡ Some bytes) → ended ≡ true → length held ≡ 0
    → IfSome told (λ bytes. TakesLine bytes met None (unread_bytes held ended device) true)
gets-nothing None held ended device met is end none = tt
gets-nothing (Some bytes) (x ∷ xs) ended device met is end none = absurd (omega arith)
gets-nothing (Some bytes) [] ended device met is end none =
    let b = behind [] ended device bytes is in
    let empty : bytes ≡ [] = b.whole ∙ b.none end in
    let chars : input_chars bytes ≡ [] = ap input_chars empty ∙ input_chars-nil in
    record {
      rest = bytes;
      left = is;
      chars = None;
      spells = refl;
      reads = refl;
      taken = ap (λ cs. line_taken cs met) chars ∙ taken-nothing met ∙ ap (λ cs. record { text = None; left = record { chars = cs; met_end = true } }) (sym chars);
    }

last_taken : (cs : List ℕ) (met : Bool) → 0 < length cs → OneLine cs → line_taken cs met ≡ record { text = Some cs; left = record { chars = []; met_end = true } }
last_taken [] met some one = absurd (omega arith)
last_taken (c ∷ cs) met some one = taken-last c cs met one

-- the last line
pub gets-last : (told : Option (List ℕ)) (held : List ℕ) (ended : Bool) (device after : Option (List ℕ)) (met : Bool) (text : List ℕ)
    → IfSome told (λ bytes. unread_bytes held ended device ≡ Some bytes) → ended ≡ true → 0 < length held → OneLine held
    → text ≡ encode_utf8_all (lossy_chars held) → after ≡ unread_bytes (drop (length held) held) ended device
    → IfSome told (λ bytes. TakesLine bytes met (Some text) after true)
gets-last None held ended device after met text is end some one spells gone = tt
gets-last (Some bytes) held ended device after met text is end some one spells gone =
    let b = behind held ended device bytes is in
    let all : bytes ≡ held = b.whole ∙ ap (λ t. held ++ t) (b.none end) ∙ append-nil held in
    let cs = lossy_chars held in
    let chars : input_chars bytes ≡ cs = ap input_chars all ∙ joined-line cs (one_line-text held one) in
    let nonempty : 0 < length cs = subst (λ l. 0 < length l) (sym (lossy_chars-step held some)) (omega arith) in
    let empty : drop (length held) bytes ≡ [] = ap (drop (length held)) all ∙ drop_all (length held) held (omega arith) in
    let none : input_chars (drop (length held) bytes) ≡ [] = ap input_chars empty ∙ input_chars-nil in
    let taken = ap (λ l. line_taken l met) chars ∙ last_taken cs met nonempty (one_line-text held one)
    ∙ ap (λ l. record { text = Some cs; left = record { chars = l; met_end = true } }) (sym none) in
    record {
      rest = drop (length held) bytes;
      left = gone ∙ passed held ended device bytes (length held) (omega arith) is;
      chars = Some cs;
      spells = ap Some spells;
      reads = line-reads bytes met (Some text) (Some cs) _ (ap Some spells) taken;
      taken = taken;
    }

pub on_ok : {A E : Type 0} (r : Result A E) (P Q : A → Type 0) → ((x : A) → P x → Q x) → IfOk r P → IfOk r Q
on_ok (Ok x) P Q step h = step x h
on_ok (Err e) P Q step h = h

pub char_is : (o : Option ℕ) → true ≡ option_eq eqb o (Some 13) → o ≡ Some 13
char_is None is = absurd (true≢false is)
char_is (Some c) is = ap Some (eqb-true c 13 (sym is))

pub char_is_not : (o : Option ℕ) → false ≡ option_eq eqb o (Some 13) → o ≢ Some 13
char_is_not None is = λ e. absurd (true≢false (sym (ap is_some e)))
char_is_not (Some c) is = λ e. true≢false (sym (ap (λ o. option_eq eqb o (Some 13)) e) ∙ sym is)

pub some_bytes : (bytes : List ℕ) (char : Option ℕ) → char ≡ Some 13 → (length bytes ≡ 0 → (char ≡ None) × Unit {0}) → 0 < length bytes
some_bytes [] char is empty = absurd (true≢false (ap is_some (sym is ∙ (empty refl).0)))
some_bytes (b ∷ bs) char is empty = omega arith

passes_ten : (bytes : List ℕ) (k : ℕ) → slice_index bytes k ≡ 10 → Passes (is_byte 10) bytes k
passes_ten bytes k is = grind (arith, nat_tests)

-- the search found none
pub one_line-all : (held : List ℕ) → Nowhere (Passes (is_byte 10) held) 0 (length held) → OneLine held
one_line-all held none = record { each = λ k below is. none k (omega arith) below (passes_ten held k is) }

pub one_line-before : (held : List ℕ) (place : ℕ) → place < length held → Nowhere (Passes (is_byte 10) held) 0 place → OneLine (take place held)
one_line-before held place within none =
    let long = length-take-le place held (omega arith) in
    record { each = λ k below is. none k (omega arith) (omega arith) (passes_ten held k (sym (get_or-take place held k 0 (omega arith)) ∙ is)) }

pub feed_at : (held : List ℕ) (k : ℕ) → Passes (is_byte 10) held k → slice_index held k ≡ 10
feed_at held k is = grind (arith, nat_tests)

-- what is left is the same, by its parts
pub gone_as : (held left new_held : List ℕ) (ended new_ended : Bool) (device new_device : Option (List ℕ))
    → new_held ≡ left → new_ended ≡ ended → new_device ≡ device → unread_bytes new_held new_ended new_device ≡ unread_bytes left ended device
gone_as held left new_held ended new_ended device new_device a b d = rw (a, b, d) refl

pub no_bytes : (len n : ℕ) → true ≡ (len == 0) → len ≡ n → n ≡ 0
no_bytes len n empty same = grind (arith, nat_tests)

pub some_held : (len n : ℕ) → false ≡ (len == 0) → len ≡ n → 0 < n
some_held len n nonempty same = grind (arith, nat_tests)

-- what is left is what is left
pub stays_itself : (told : Option (List ℕ)) → IfSome told (λ bytes. told ≡ Some bytes)
stays_itself None = tt
stays_itself (Some bytes) = refl

pub some_left : (bytes held : List ℕ) → bytes ≡ held → length bytes ≢ 0 → 0 < length held
some_left bytes held same some = omega (arith, some, ap length same)
