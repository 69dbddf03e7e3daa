-- What taking of a world's input is to the definition.
use Rattle.std.proofs.Common.{◌≡◌, ℕ, Bool, ◌||◌, List, Option, Some, None, Err, refl, sym, ap, ◌∙◌, subst, IfSome}
use Rattle.std.specs.Prelude.{option_map}
use Rattle.std.proofs.Math.Seq.{take-length, drop-length}
use Rattle.std.specs.Str.{chars}
use Rattle.tcl_chan.specs.Characters.{input_chars, line_taken, or_empty, Took}
use Rattle.tcl_chan.specs.Characters as chan
use Rattle.tcl_chan.specs.Sources.{TakesLine, TakesText, taken_by}
use Rattle.tcl_chan.specs.Worlds.{unread_of, met_end, SameOutputs}
use Rattle.tcl_chan.specs.declared.reading.Reader.{Reader}
use Rattle.tcl_chan.specs.declared.world.World.{World}
use Rattle.tcl_meaning.specs.Agreement.{Agrees, IsPart}
use Rattle.tcl_meaning.specs.Asking.{Asks}
use Rattle.tcl_meaning.specs.Beginnings as onward
use Rattle.tcl_meaning.specs.Beginnings.{OutputsBegin}
use Rattle.tcl_meaning.specs.Channels.{without_newline, line_count}
use Rattle.tcl_meaning.specs.Completions.{normal}
use Rattle.tcl_meaning.specs.Effects.{Got, Gives, does, took, take_from}
use Rattle.tcl_meaning.specs.Input.{Want, a_line, input_taken, left, meets_end}
use Rattle.tcl_meaning.specs.State.{Channels, State, Store, with_input, with_channels}
use Rattle.tcl_meaning.specs.Tasks.{Step, Done}
use Rattle.tcl_pages.specs.Texts.{Text}
use Rattle.tcl_steps.specs.Ends.{first_step}
use Rattle.tcl_chan.specs.declared.fault.ChanFault.{ChanFault}
use Rattle.tcl_chan.specs.declared.fault.ChanFault.TheVariants as chan_fault
use Rattle.tcl_steps.specs.Faults.{fault_by}
use Rattle.tcl_channels.specs.Works.{Works}
use Rattle.tcl_channels.proofs.ChannelLemmas.{outputs_stay, outputs_stayed, nothing_out}
use Rattle.tcl_channels.proofs.InputLemmas.{line_left, line_text, line_says}
use Rattle.tcl_channels.specs.Orders.{line_said, want_of, text_read, read_from}
use Rattle.tcl_channels.specs.Shown.{channels_of, over}
use Rattle.std.proofs.Math.Bool.{or-true}

-- where input is told, what is done with it; else only outputs count
pub told_or_not : {A : Type 0} (want : Want) (u : Option (List ℕ)) (s : State) (f : Text → State → Got A) (real : Got A)
    → ((bytes : List ℕ) → u ≡ Some bytes → Agrees (f (input_taken want (input_chars bytes)) (took want (input_chars bytes) s)) real)
    → OutputsBegin s.channels (onward.channels_of real) → Agrees (take_from want (option_map input_chars u) s f) real
told_or_not want None s f real h o = o
told_or_not want (Some bytes) s f real h o = h bytes refl

pub taken_is : (count : Option ℕ) (cs : Text) (met : Bool)
    → taken_by count cs met ≡ record { text = input_taken (want_of count) cs; left = record { chars = left (want_of count) cs; met_end = met || meets_end (want_of count) cs } }
taken_is None cs met = λ i. record { text = sym (take-length cs) i; left = record { chars = sym (drop-length cs) i; met_end = sym (or-true met) i } }
taken_is (Some n) cs met = refl

module _ {R W E : Type 0} (to_come : R → Option (List ℕ)) (outs : W → Option (List ℕ)) (errs : E → Option (List ℕ)) (old new : World R W E Reader) (same : SameOutputs old new) where
  abbrev before : Channels
  before = channels_of to_come outs errs old

  abbrev after : Channels
  after = channels_of to_come outs errs new

  -- what was left is what is left now
  pub took_so : (want : Want) (bytes rest : List ℕ) → unread_of to_come new ≡ Some rest → left want (input_chars bytes) ≡ input_chars rest → (met_end old || meets_end want (input_chars bytes)) ≡ met_end new
      → with_input (left want (input_chars bytes)) (met_end old || meets_end want (input_chars bytes)) before ≡ after
  took_so want bytes rest e h m =
      let i : ◌≡◌ {A = Option Text} (Some (left want (input_chars bytes))) (option_map input_chars (unread_of to_come new)) = ap Some h ∙ sym (ap (option_map input_chars) e) in
      λ t. record { input = i t; met_end = m t; out = ap outs (sym same.stdout) t; err = ap errs (sym same.stderr) t }

  -- ---- read

  abbrev TookText : Option ℕ → List ℕ → Type 0
  TookText count text = IfSome (unread_of to_come old) (λ bytes. TakesText count bytes (met_end old) text (unread_of to_come new) (met_end new))

  text_took : (count : Option ℕ) (newline : Bool) (text bytes : List ℕ) (store : Store) (units : ℕ) → TakesText count bytes (met_end old) text (unread_of to_come new) (met_end new)
      → ◌≡◌ {A = Got Step} (Gives (Done (normal (text_read newline (input_taken (want_of count) (input_chars bytes))))) (took (want_of count) (input_chars bytes) (over store before units)))
      (Gives (Done (normal (text_read newline (chars text)))) (over store after units))
  text_took count newline text bytes store units t =
      let e = sym (taken_is count (input_chars bytes) (met_end old)) ∙ t.taken in
      let words = ap (λ (k : Took Text). k.text) e ∙ sym t.reads in
      let c = took_so (want_of count) bytes t.rest t.left (ap (λ (k : Took Text). k.left.chars) e) (ap (λ (k : Took Text). k.left.met_end) e) in
      λ i. Gives (Done (normal (text_read newline (words i)))) (over store (c i) units)

  pub read_works : (count : Option ℕ) (newline : Bool) (text : List ℕ) (store : Store) (units : ℕ) → TookText count text
      → Agrees (does (first_step (read_from count newline)) (over store before units)) (Gives (Done (normal (text_read newline (chars text)))) (over store after units))
  read_works count newline text store units h =
      told_or_not (want_of count) (unread_of to_come old) (over store before units) (λ t s. Gives (Done (normal (text_read newline t))) s) (Gives (Done (normal (text_read newline (chars text)))) (over store after units))
      (λ bytes e. text_took count newline text bytes store units (subst (λ u. IfSome u (λ b. TakesText count b (met_end old) text (unread_of to_come new) (met_end new))) e h))
      (outputs_stay to_come outs errs old new same)

  -- ---- gets

  abbrev TookLine : Option (List ℕ) → Type 0
  TookLine line = IfSome (unread_of to_come old) (λ bytes. TakesLine bytes (met_end old) line (unread_of to_come new) (met_end new))

  line_took : {A : Type 0} (k : Text → Text → State → Got A) (line : Option (List ℕ)) (bytes : List ℕ) (s : State) → s.channels ≡ before → TakesLine bytes (met_end old) line (unread_of to_come new) (met_end new)
      → k (without_newline (input_taken a_line (input_chars bytes))) (line_count (input_taken a_line (input_chars bytes))) (took a_line (input_chars bytes) s)
      ≡ k (or_empty (option_map chars line)) (line_said (option_map chars line)) (with_channels after s)
  line_took k line bytes s e t =
      let cs = input_chars bytes in
      let l = sym (line_left cs (met_end old)) ∙ ap (λ (g : Took (Option Text)). g.left) t.taken in
      let words = sym (line_text cs (met_end old)) ∙ ap (λ (g : Took (Option Text)). or_empty g.text) t.taken ∙ ap or_empty (sym t.reads) in
      let count = sym (line_says cs (met_end old)) ∙ ap (λ (g : Took (Option Text)). line_said g.text) t.taken ∙ ap line_said (sym t.reads) in
      let c = took_so a_line bytes t.rest t.left (ap (λ (g : chan.Left). g.chars) l) (ap (λ (g : chan.Left). g.met_end) l) in
      let d = ap (λ (x : Channels). with_input (left a_line cs) (x.met_end || meets_end a_line cs) x) e ∙ c in
      λ i. k (words i) (count i) (with_channels (d i) s)

  pub gets_works : {A : Type 0} (k : Text → Text → State → Got A) (line : Option (List ℕ)) (s : State) (real : Got A) → s.channels ≡ before → TookLine line
      → Agrees (k (or_empty (option_map chars line)) (line_said (option_map chars line)) (with_channels after s)) real → OutputsBegin before (onward.channels_of real)
      → Agrees (take_from a_line (option_map input_chars (unread_of to_come old)) s (λ t u. k (without_newline t) (line_count t) u)) real
  gets_works k line s real e h a o =
      told_or_not a_line (unread_of to_come old) s (λ t u. k (without_newline t) (line_count t) u) real
      (λ bytes q. subst (λ g. Agrees g real) (sym (line_took k line bytes s e (subst (λ u. IfSome u (λ b. TakesLine b (met_end old) line (unread_of to_come new) (met_end new))) q h))) a)
      (subst (λ c. OutputsBegin c (onward.channels_of real)) (sym e) o)

  -- ---- what was broken off

  -- memory was refused, or the input's device failed
  pub broken_works : (page : Asks) (s t : State) (refused : ChanFault) → s.channels ≡ before → t.channels ≡ after → Works page s (Err (fault_by refused)) t
  broken_works page s t refused e f = by_fault refused
    where
      part : IsPart t.channels (does page s)
      part = nothing_out page s t.channels
          (subst (λ c. OutputsBegin c t.channels) (sym e) (subst (OutputsBegin before) (sym f) (outputs_stay to_come outs errs old new same)))
          (subst (OutputsBegin t.channels) (sym e) (subst (λ c. OutputsBegin c before) (sym f) (outputs_stayed to_come outs errs old new same)))

      by_fault : (x : ChanFault) → Works page s (Err (fault_by x)) t
      by_fault chan_fault.Memory = part
      by_fault chan_fault.Read = part
      by_fault chan_fault.Write = part
