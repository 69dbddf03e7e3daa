-- What calls of a world are to the definition.
use Rattle.std.proofs.Common.{◌≡◌, ℕ, List, ◌++◌, append_assoc, Option, Some, None, Result, Ok, Err, refl, sym, ap, ◌∙◌, subst}
use Rattle.std.specs.Prelude.{option_map}
use Rattle.std.specs.Str.{chars, IsUtf8, encode_utf8_all}
use Rattle.std.proofs.lemmas.Str.{encodes-chars}
use Rattle.tcl_chan.specs.Characters.{input_chars}
use Rattle.tcl_chan.specs.Devices as device
use Rattle.tcl_chan.specs.Outputs.{picked}
use Rattle.tcl_chan.specs.Worlds.{stdout, stderr, SameOther, SameInput, SameOutputs}
use Rattle.tcl_chan.specs.declared.reading.Reader.{Reader}
use Rattle.tcl_chan.specs.declared.world.World.{World}
use Rattle.tcl_chan.specs.Writing.{WroteFront}
use Rattle.tcl_chan.specs.declared.fault.Out.{Out}
use Rattle.tcl_chan.specs.declared.fault.Out.TheVariants as out
use Rattle.tcl_meaning.specs.Agreement.{IsPart}
use Rattle.tcl_meaning.specs.Beginnings.{OutBegins, OutputsBegin}
use Rattle.tcl_meaning.specs.Effects.{Plain, Give, does, nothing_runs}
use Rattle.tcl_meaning.specs.State.{put_bytes, Channels, State, Store, with_output}
use Rattle.tcl_meaning.proofs.Agreement.{bind_broken}
use Rattle.tcl_meaning.proofs.Onward.{out_same, out_more, outputs_same}
use Rattle.tcl_meaning.specs.Channels.{put_text}
use Rattle.tcl_chan.specs.declared.fault.ChanFault.{ChanFault}
use Rattle.tcl_chan.specs.declared.fault.ChanFault.TheVariants as chan
use Rattle.tcl_steps.specs.Faults.{fault_by}
use Rattle.tcl_channels.specs.Shown.{channels_of, output_at, over}
use Rattle.tcl_channels.specs.Works.{Works}

pub err_same : {A : Type 0} (a b : ChanFault) → ◌≡◌ {A = Result A ChanFault} (Err a) (Err b) → a ≡ b
err_same a b h = cc

-- ---- nothing is written

-- a program that is broken off before anything was put out
pub nothing_out : {A : Type 0} (p : Plain A) (s : State) (c : Channels) → OutputsBegin s.channels c → OutputsBegin c s.channels → IsPart c (does p s)
nothing_out p s c g h = (bind_broken nothing_runs (λ task t. absurd task) (Give (tt {0})) (λ u. p) s c (record { grew = g; part = h })).part

pub broken_at_once : {A : Type 0} (p : Plain A) (s : State) → IsPart s.channels (does p s)
broken_at_once p s = nothing_out p s s.channels (outputs_same s.channels) (outputs_same s.channels)

begins_same : {D : Type 0} (told : D → Option (List ℕ)) (x y : D) → y ≡ x → OutBegins (told x) (told y)
begins_same told x y k = subst (λ z. OutBegins (told x) (told z)) (sym k) (out_same (told x))

begun_same : {D : Type 0} (told : D → Option (List ℕ)) (x y : D) → y ≡ x → OutBegins (told y) (told x)
begun_same told x y k = subst (λ z. OutBegins (told z) (told x)) (sym k) (out_same (told x))

-- ---- a text is written

put_same : (o : Option (List ℕ)) (t : List ℕ) → device.put_behind o t ≡ put_bytes o t
put_same None t = refl
put_same (Some o) t = refl

bytes_put : {D : Type 0} (told : D → Option (List ℕ)) (text : List ℕ) (x y : D) → IsUtf8 text → told y ≡ device.put_behind (told x) text → put_bytes (told x) (encode_utf8_all (chars text)) ≡ told y
bytes_put told text x y u h = ap (put_bytes (told x)) (encodes-chars text u) ∙ sym (put_same (told x) text) ∙ sym h

out_front : (o : Option (List ℕ)) (front rest : List ℕ) → OutBegins (put_bytes o front) (put_bytes o (front ++ rest))
out_front None front rest = record { told = tt }
out_front (Some o) front rest = record { told = record { rest = rest; whole = sym (append_assoc o front rest) } }

front_is : {D : Type 0} (told : D → Option (List ℕ)) (text : List ℕ) (x y : D) → (w : WroteFront (told x) (told y) text) → put_bytes (told x) w.front ≡ told y
front_is told text x y w = sym (put_same (told x) w.front) ∙ sym w.written

front_begins : {D : Type 0} (told : D → Option (List ℕ)) (text : List ℕ) (x y : D) → IsUtf8 text → WroteFront (told x) (told y) text → OutBegins (told y) (put_bytes (told x) (encode_utf8_all (chars text)))
front_begins told text x y u w =
    subst (λ t. OutBegins (told y) (put_bytes (told x) t)) (sym w.whole ∙ sym (encodes-chars text u))
    (subst (λ o. OutBegins o (put_bytes (told x) (w.front ++ w.rest))) (front_is told text x y w) (out_front (told x) w.front w.rest))

front_grew : {D : Type 0} (told : D → Option (List ℕ)) (text : List ℕ) (x y : D) → WroteFront (told x) (told y) text → OutBegins (told x) (told y)
front_grew told text x y w = subst (OutBegins (told x)) (front_is told text x y w) (out_more (told x) w.front)

whole_grew : {D : Type 0} (told : D → Option (List ℕ)) (text : List ℕ) (x y : D) → told y ≡ device.put_behind (told x) text → OutBegins (told x) (told y)
whole_grew told text x y h = subst (OutBegins (told x)) (sym (put_same (told x) text) ∙ sym h) (out_more (told x) text)

module _ {R W E : Type 0} (to_come : R → Option (List ℕ)) (outs : W → Option (List ℕ)) (errs : E → Option (List ℕ)) (old new : World R W E Reader) where
  abbrev before : Channels
  before = channels_of to_come outs errs old

  abbrev after : Channels
  after = channels_of to_come outs errs new

  pub outputs_stay : SameOutputs old new → OutputsBegin before after
  outputs_stay s = record { out = begins_same outs (stdout old) (stdout new) s.stdout; err = begins_same errs (stderr old) (stderr new) s.stderr }

  pub outputs_stayed : SameOutputs old new → OutputsBegin after before
  outputs_stayed s = record { out = begun_same outs (stdout old) (stdout new) s.stdout; err = begun_same errs (stderr old) (stderr new) s.stderr }

  -- the whole text was written
  pub wrote_whole : (text : List ℕ) (to : Out) → IsUtf8 text → picked to (outs (stdout new)) (errs (stderr new)) ≡ device.put_behind (picked to (outs (stdout old)) (errs (stderr old))) text → SameOther to old new → SameInput to_come old new
      → with_output (output_at to) (encode_utf8_all (chars text)) before ≡ after
  wrote_whole text out.Stdout u h k i =
      let b = bytes_put outs text (stdout old) (stdout new) u h in
      λ t. record { input = ap (option_map input_chars) (sym i.unread) t; met_end = sym i.met_end t; out = b t; err = ap errs (sym k) t }
  wrote_whole text out.Stderr u h k i =
      let b = bytes_put errs text (stderr old) (stderr new) u h in
      λ t. record { input = ap (option_map input_chars) (sym i.unread) t; met_end = sym i.met_end t; out = ap outs (sym k) t; err = b t }

  -- a beginning of it was written
  pub wrote_front : (text : List ℕ) (to : Out) → IsUtf8 text → WroteFront (picked to (outs (stdout old)) (errs (stderr old))) (picked to (outs (stdout new)) (errs (stderr new))) text → SameOther to old new
      → OutputsBegin after (with_output (output_at to) (encode_utf8_all (chars text)) before)
  wrote_front text out.Stdout u w k = record { out = front_begins outs text (stdout old) (stdout new) u w; err = begun_same errs (stderr old) (stderr new) k }
  wrote_front text out.Stderr u w k = record { out = begun_same outs (stdout old) (stdout new) k; err = front_begins errs text (stderr old) (stderr new) u w }

  pub whole_adds : (text : List ℕ) (to : Out) → picked to (outs (stdout new)) (errs (stderr new)) ≡ device.put_behind (picked to (outs (stdout old)) (errs (stderr old))) text → SameOther to old new → OutputsBegin before after
  whole_adds text out.Stdout h k = record { out = whole_grew outs text (stdout old) (stdout new) h; err = begins_same errs (stderr old) (stderr new) k }
  whole_adds text out.Stderr h k = record { out = begins_same outs (stdout old) (stdout new) k; err = whole_grew errs text (stderr old) (stderr new) h }

  pub front_adds : (text : List ℕ) (to : Out) → WroteFront (picked to (outs (stdout old)) (errs (stderr old))) (picked to (outs (stdout new)) (errs (stderr new))) text → SameOther to old new → OutputsBegin before after
  front_adds text out.Stdout w k = record { out = front_grew outs text (stdout old) (stdout new) w; err = begins_same errs (stderr old) (stderr new) k }
  front_adds text out.Stderr w k = record { out = begins_same outs (stdout old) (stdout new) k; err = front_grew errs text (stderr old) (stderr new) w }

  pub write_broken : (text : List ℕ) (to : Out) (store : Store) (units : ℕ) (refused : ChanFault) → refused ≡ chan.Write → IsUtf8 text → WroteFront (picked to (outs (stdout old)) (errs (stderr old))) (picked to (outs (stdout new)) (errs (stderr new))) text → SameOther to old new
      → Works (put_text (Ok (output_at to)) (chars text)) (over store before units) (Err (fault_by refused)) (over store after units)
  write_broken text to store units refused f u w k =
      subst (λ x. Works (put_text (Ok (output_at to)) (chars text)) (over store before units) (Err (fault_by x)) (over store after units)) (sym f) (wrote_front text to u w k)
