-- What writing to a world is to the definition.
use Rattle.std.proofs.Common.{◌≡◌, ℕ, Bool, true, false, length, arith, List, [], ◌∷◌, ◌++◌, codes, Option, Some, None, option_map, Result, Ok, Err, OnOk, OnErr, refl, sym, ap, ◌∙◌, subst, append_assoc}
use Rattle.std.specs.Prelude.{◌==◌}
use Rattle.std.specs.Str.{chars, IsUtf8, encode_utf8_all}
use Rattle.std.proofs.lemmas.Bool.{eqb-true, eqb-false}
use Rattle.std.proofs.lemmas.Str.{encodes-append, encodes-chars, chars-nil}
use Rattle.tcl_chan.specs.Characters.{input_chars}
use Rattle.tcl_chan.specs.Devices.{put_behind}
use Rattle.tcl_chan.specs.Outputs.{picked}
use Rattle.tcl_chan.specs.Worlds.{stdout, stderr, SameInput, SameOther}
use Rattle.tcl_chan.specs.Writing.{WroteFront}
use Rattle.tcl_chan.specs.declared.fault.Out.{Out}
use Rattle.tcl_chan.specs.declared.reading.Reader.{Reader}
use Rattle.tcl_chan.specs.declared.world.World.{World}
use Rattle.tcl_channels.specs.Shown.{channels_of, output_at, over}
use Rattle.tcl_channels.proofs.ChannelLemmas.{wrote_whole, wrote_front}
use Rattle.tcl_chars.specs.Characters.{newline}
use Rattle.tcl_chars.proofs.Literals.{literal_chars, literal_is_utf8}
use Rattle.tcl_pages.specs.Texts.{Text}
use Rattle.tcl_meaning.specs.Beginnings.{OutputsBegin}
use Rattle.tcl_meaning.specs.Effects.{wrote}
use Rattle.tcl_meaning.specs.State as meaning
use Rattle.tcl_meaning.specs.State.{put_bytes, Output, Channels, State, with_output}
use Rattle.tcl_meaning.proofs.Onward.{outputs_same, outputs_trans, out_more, out_same}
use Rattle.tcl_shell.specs.Session.{told_result}
use Rattle.tcl_shell.specs.Turns.{Changes}

-- ---- answers

-- all was written, whatever came of it then
pub written : {A E : Type 0} (r : Result A E) (o : Output) (t : Text) (before after : Channels) → with_output o (encode_utf8_all t) before ≡ after → Changes r (wrote o t) before after
written (Ok x) o t before after e = λ store units. ap (λ (c : Channels). over store c units) e
written (Err x) o t before after e = λ store units. subst (λ (c : Channels). OutputsBegin after c) (sym e) (outputs_same after)

-- a beginning was written
pub broken : {A E : Type 0} (r : Result A E) (x : E) (o : Output) (t : Text) (before after : Channels) → r ≡ Err x → OutputsBegin after (with_output o (encode_utf8_all t) before) → Changes r (wrote o t) before after
broken r x o t before after e h = subst (λ (q : Result _ _). Changes q (wrote o t) before after) (sym e) (λ store units. h)

-- the one or the other
pub either_way : {A E : Type 0} (r : Result A E) (o : Output) (t : Text) (before after : Channels) → OnOk r (with_output o (encode_utf8_all t) before ≡ after) → OnErr r (OutputsBegin after (with_output o (encode_utf8_all t) before)) → Changes r (wrote o t) before after
either_way (Ok x) o t before after e h = λ store units. ap (λ (c : Channels). over store c units) e
either_way (Err x) o t before after e h = λ store units. h

-- ---- two texts

bytes_twice : (o : Option (List ℕ)) (a b : List ℕ) → put_bytes (put_bytes o a) b ≡ put_bytes o (a ++ b)
bytes_twice None a b = refl
bytes_twice (Some x) a b = ap Some (append_assoc x a b)

output_twice : (o : Output) (a b : List ℕ) (c : Channels) → with_output o b (with_output o a c) ≡ with_output o (a ++ b) c
output_twice meaning.stdout a b c = let e = bytes_twice c.out a b in λ i. record { input = c.input; met_end = c.met_end; out = e i; err = c.err }
output_twice meaning.stderr a b c = let e = bytes_twice c.err a b in λ i. record { input = c.input; met_end = c.met_end; out = c.out; err = e i }

output_adds : (o : Output) (a : List ℕ) (c : Channels) → OutputsBegin c (with_output o a c)
output_adds meaning.stdout a c = record { out = out_more c.out a; err = out_same c.err }
output_adds meaning.stderr a c = record { out = out_same c.out; err = out_more c.err a }

texts_twice : (o : Output) (t u : Text) (c : Channels) → with_output o (encode_utf8_all u) (with_output o (encode_utf8_all t) c) ≡ with_output o (encode_utf8_all (t ++ u)) c
texts_twice o t u c = output_twice o (encode_utf8_all t) (encode_utf8_all u) c ∙ ap (λ (b : List ℕ). with_output o b c) (sym (encodes-append t u))

pub first_broken : (o : Output) (t u : Text) (before after : Channels) → OutputsBegin after (with_output o (encode_utf8_all t) before) → OutputsBegin after (with_output o (encode_utf8_all (t ++ u)) before)
first_broken o t u before after h =
    subst (λ (c : Channels). OutputsBegin after c) (texts_twice o t u before) (outputs_trans h (output_adds o (encode_utf8_all u) (with_output o (encode_utf8_all t) before)))

pub second_whole : (o : Output) (t u : Text) (before mid after : Channels) → with_output o (encode_utf8_all t) before ≡ mid → with_output o (encode_utf8_all u) mid ≡ after → with_output o (encode_utf8_all (t ++ u)) before ≡ after
second_whole o t u before mid after e f = sym (texts_twice o t u before) ∙ ap (λ (c : Channels). with_output o (encode_utf8_all u) c) e ∙ f

pub second_broken : (o : Output) (t u : Text) (before mid after : Channels) → with_output o (encode_utf8_all t) before ≡ mid → OutputsBegin after (with_output o (encode_utf8_all u) mid) → OutputsBegin after (with_output o (encode_utf8_all (t ++ u)) before)
second_broken o t u before mid after e h = subst (λ (c : Channels). OutputsBegin after c) (sym (second_whole o t u before mid (with_output o (encode_utf8_all u) mid) e refl)) h

pub newline_is : chars (codes "\n") ≡ newline ∷ []
newline_is = literal_chars (codes "\n") refl

-- ---- over a world

module _ {R W E : Type 0} (to_come : R → Option (List ℕ)) (outs : W → Option (List ℕ)) (errs : E → Option (List ℕ)) where
  abbrev channels : World R W E Reader → Channels
  channels w = channels_of to_come outs errs w

  pub same_channels : (old new : World R W E Reader) → SameInput to_come old new → outs (stdout new) ≡ outs (stdout old) → errs (stderr new) ≡ errs (stderr old) → channels old ≡ channels new
  same_channels old new input out err =
      let unread = ap (option_map input_chars) (sym input.unread) in
      let met = sym input.met_end in
      let wrote = sym out in
      let said = sym err in
      λ i. record { input = unread i; met_end = met i; out = wrote i; err = said i }

  -- a newline behind a text
  module _ (old mid new : World R W E Reader) (text : List ℕ) (to : Out) (first : with_output (output_at to) (encode_utf8_all (chars text)) (channels old) ≡ channels mid) where
    pub line_whole : picked to (outs (stdout new)) (errs (stderr new)) ≡ put_behind (picked to (outs (stdout mid)) (errs (stderr mid))) (codes "\n") → SameOther to mid new → SameInput to_come mid new
        → with_output (output_at to) (encode_utf8_all (chars text ++ newline ∷ [])) (channels old) ≡ channels new
    line_whole h k i =
        let e = wrote_whole to_come outs errs mid new (codes "\n") to (literal_is_utf8 (codes "\n") refl) h k i in
        second_whole (output_at to) (chars text) (newline ∷ []) (channels old) (channels mid) (channels new) first (ap (λ (t : Text). with_output (output_at to) (encode_utf8_all t) (channels mid)) (sym newline_is) ∙ e)

    pub line_front : WroteFront (picked to (outs (stdout mid)) (errs (stderr mid))) (picked to (outs (stdout new)) (errs (stderr new))) (codes "\n") → SameOther to mid new
        → OutputsBegin (channels new) (with_output (output_at to) (encode_utf8_all (chars text ++ newline ∷ [])) (channels old))
    line_front w k =
        let h = wrote_front to_come outs errs mid new (codes "\n") to (literal_is_utf8 (codes "\n") refl) w k in
        second_broken (output_at to) (chars text) (newline ∷ []) (channels old) (channels mid) (channels new) first
        (subst (λ (t : Text). OutputsBegin (channels new) (with_output (output_at to) (encode_utf8_all t) (channels mid))) newline_is h)

    pub line_changes : {A X : Type 0} (r : Result A X)
        → OnOk r (picked to (outs (stdout new)) (errs (stderr new)) ≡ put_behind (picked to (outs (stdout mid)) (errs (stderr mid))) (codes "\n"))
        → OnErr r (WroteFront (picked to (outs (stdout mid)) (errs (stderr mid))) (picked to (outs (stdout new)) (errs (stderr new))) (codes "\n"))
        → SameOther to mid new → SameInput to_come mid new → Changes r (wrote (output_at to) (chars text ++ newline ∷ [])) (channels old) (channels new)
    line_changes (Ok x) h w k i = λ store units. ap (λ (c : Channels). over store c units) (line_whole h k i)
    line_changes (Err x) h w k i = λ store units. line_front w k

-- ---- results and messages

empty_is : (text : List ℕ) → length text ≡ 0 → text ≡ []
empty_is [] h = refl
empty_is (x ∷ xs) h = absurd (omega (arith, h))

pub no_chars : (text : List ℕ) (b : Bool) → b ≡ (length text == 0) → b ≡ true → chars text ≡ []
no_chars text b e h = ap chars (empty_is text (eqb-true (length text) 0 (sym e ∙ h))) ∙ chars-nil

pub some_chars : (text : List ℕ) (b : Bool) → IsUtf8 text → b ≡ (length text == 0) → b ≡ false → chars text ≡ [] → ⊥
some_chars text b u e h none = eqb-false (length text) 0 (sym e ∙ h) (ap length (sym (encodes-chars text u) ∙ ap encode_utf8_all none))

pub nothing_told : (t : Text) (s : State) → t ≡ [] → told_result t s ≡ s
nothing_told t s e = ap (λ (x : Text). told_result x s) e

something_told : (t : Text) → (t ≡ [] → ⊥) → (s : State) → wrote meaning.stdout (t ++ newline ∷ []) s ≡ told_result t s
something_told [] h s = absurd (h refl)
something_told (c ∷ cs) h s = refl

pub result_changes : {A E : Type 0} (r : Result A E) (t : Text) (before after : Channels) → (t ≡ [] → ⊥) → Changes r (wrote meaning.stdout (t ++ newline ∷ [])) before after → Changes r (told_result t) before after
result_changes (Ok x) t before after h e = λ store units. sym (something_told t h (over store before units)) ∙ e store units
result_changes (Err x) t before after h e = λ store units. subst (λ (s : State). OutputsBegin after s.channels) (something_told t h (over store before units)) (e store units)
