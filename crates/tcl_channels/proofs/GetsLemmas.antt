-- gets(n): its forms, and how a line is kept.
use Rattle.std.proofs.Common.{◌≡◌, ◌≢◌, ℕ, List, [], ◌∷◌, length, Option, Some, None, Result, Ok, Err, IfSome, refl, sym, ap, ◌∙◌, subst, arith}
use Rattle.std.specs.Prelude.{option_map}
use Rattle.std.specs.Rc.{rc_str_bytes}
use Rattle.std.specs.Str.{chars}
use Rattle.std.specs.declared.rc.RcStr.{RcStr}
use Rattle.tcl_arguments.specs.WordAt.{word}
use Rattle.tcl_chan.specs.Characters.{or_empty}
use Rattle.tcl_chan.specs.Sources.{TakesLine}
use Rattle.tcl_chan.specs.Worlds.{unread_of, met_end, SameOutputs}
use Rattle.tcl_chan.specs.declared.fault.ChanFault.TheVariants as chan_fault
use Rattle.tcl_chan.specs.declared.reading.Reader.{Reader}
use Rattle.tcl_chan.specs.declared.world.World.{World}
use Rattle.tcl_chars.specs.Texts.{literal, text_of}
use Rattle.tcl_frames.specs.Standing.{Standing}
use Rattle.tcl_meaning.specs.Agreement.{Agrees}
use Rattle.tcl_meaning.specs.Asking.{Asks, done, usage, value_step}
use Rattle.tcl_meaning.specs.Channels.{gets_page}
use Rattle.tcl_meaning.specs.Completions.{Completion, normal}
use Rattle.tcl_meaning.specs.Effects.{Got, Give, Gives, does}
use Rattle.tcl_meaning.specs.State.{Channels, Commands, State}
use Rattle.tcl_meaning.specs.Tasks.{Step, Done}
use Rattle.tcl_meaning.specs.Value.{Value, Has, Fails}
use Rattle.tcl_meaning.specs.Variables.{set}
use Rattle.tcl_pages.specs.Texts.{Text}
use Rattle.tcl_steps.specs.declared.fault.Fault.{Fault}
use Rattle.tcl_steps.proofs.Endings.{gives_on, has_on, fails_on}
use Rattle.tcl_steps.specs.Comes.{Comes, state_of}
use Rattle.tcl_steps.specs.Ends.{Ends, EndsDone, first_step}
use Rattle.tcl_steps.specs.declared.stop.Stop.{Stop}
use Rattle.tcl_steps.specs.declared.stop.Stop.TheVariants as stop
use Rattle.tcl_channels.proofs.ChannelLemmas.{outputs_stay}
use Rattle.tcl_channels.proofs.TakeLemmas.{gets_works, broken_works}
use Rattle.tcl_channels.specs.Orders.{from_input, gets_into, kept, line_said, Closed}
use Rattle.tcl_channels.specs.Shown.{channels_of}
use Rattle.tcl_channels.specs.Works.{Works}

pub gets_usage : (ws : List Text) → length ws ≢ 1 → length ws ≢ 2 → gets_page ws ≡ usage (literal "gets channelId ?varName?")
unfolding gets_page
gets_usage [] h k = refl
gets_usage (a ∷ []) h k = absurd (h refl)
gets_usage (a ∷ b ∷ []) h k = absurd (k refl)
gets_usage (a ∷ b ∷ c ∷ ws) h k = refl

pub gets_one : (ws : List Text) (channel : Text) → length ws ≡ 1 → channel ≡ word ws 0 → gets_page ws ≡ from_input channel (gets_into None)
unfolding gets_page
gets_one [] channel h e = absurd (omega arith)
gets_one (a ∷ []) channel h e = ap (λ x. from_input x (gets_into None)) (sym e)
gets_one (a ∷ b ∷ ws) channel h e = absurd (omega arith)

pub gets_two : (ws : List Text) (channel name : Text) → length ws ≡ 2 → channel ≡ word ws 0 → name ≡ word ws 1 → gets_page ws ≡ from_input channel (gets_into (Some name))
unfolding gets_page
gets_two [] channel name h e f = absurd (omega arith)
gets_two (a ∷ []) channel name h e f = absurd (omega arith)
gets_two (a ∷ b ∷ []) channel name h e f = ap (λ x. from_input x (gets_into (Some b))) (sym e) ∙ ap (λ y. from_input channel (gets_into (Some y))) (sym f)
gets_two (a ∷ b ∷ c ∷ ws) channel name h e f = absurd (omega arith)

-- ---- a line is kept

pub not_kept : (name name' t t' n : Text) (f g : Standing) (s : Stop) → name ≡ name' → t ≡ t' → Ends (set name t) f (Err s) g → EndsDone (kept (Some name') t' n) f (Err s) g
not_kept name name' t t' n f g stop.Memory d e h = tt
not_kept name name' t t' n f g (stop.Error c) d e h = fails_on (set name' t') (λ u. done (normal n)) f g c (subst (λ x. Comes (set x t') f (Fails c) g) d (subst (λ x. Comes (set name x) f (Fails c) g) e h))

pub is_kept : (name name' t t' n n' : Text) (f g : Standing) → name ≡ name' → t ≡ t' → n ≡ n' → Comes (set name t) f (Has tt) g → EndsDone (kept (Some name') t' n') f (Ok (normal n)) g
is_kept name name' t t' n n' f g d e i h =
    subst (λ x. EndsDone (kept (Some name') t' n') f (Ok (normal x)) g) (sym i)
    (has_on (set name' t') (λ u. done (normal n')) f g tt (subst (λ x. Comes (set x t') f (Has tt) g) d (subst (λ x. Comes (set name x) f (Has tt) g) e h)))

pub none_kept : (t t' n : Text) (f : Standing) (c : Completion) → c ≡ normal t → t ≡ t' → EndsDone (kept None t' n) f (Ok c) f
none_kept t t' n f c d e = record { same = λ cs ch k. ap (λ (x : Completion). Gives (Has (Done x)) (state_of cs ch k f)) (sym (d ∙ ap normal e)) }

pub texts_of : {Z : Type 0} (line : Option (RcStr Z)) → option_map text_of line ≡ option_map chars (option_map rc_str_bytes line)
texts_of None = refl
texts_of (Some t) = refl

agrees_is : {A : Type 0} (got : Got A) (a : A) (s : State) → got ≡ Gives a s → Agrees got (Gives a s)
agrees_is got a s e = subst (λ x. Agrees x (Gives a s)) (sym e) refl

module _ {R W E : Type 0} (to_come : R → Option (List ℕ)) (outs : W → Option (List ℕ)) (errs : E → Option (List ℕ)) (old new : World R W E Reader) (same : SameOutputs old new) where
  abbrev before : Channels
  before = channels_of to_come outs errs old

  abbrev after : Channels
  after = channels_of to_come outs errs new

  abbrev TookLine : Option (List ℕ) → Type 0
  TookLine line = IfSome (unread_of to_come old) (λ bytes. TakesLine bytes (met_end old) line (unread_of to_come new) (met_end new))

  module _ (name : Option Text) (line : Option (List ℕ)) (words : Option Text) (f g : Standing) (cs : Commands) (units : ℕ) where
    abbrev page : Asks
    page = kept name (or_empty words) (line_said words)

    said : (v : Value Step) (c : Completion) → value_step v ≡ Done c → words ≡ option_map chars line → TookLine line → Comes page f v g → Works (gets_into name) (state_of cs before units f) (Ok c) (state_of cs after units g)
    said v c d w t h =
        let e = (gives_on page (λ u. Give (value_step u)) f g v h).same cs after units ∙ ap (λ (x : Step). Gives x (state_of cs after units g)) d in
        gets_works to_come outs errs old new same (λ x n s. does (first_step (kept name x n)) s) line (state_of cs before units f) (Gives (Done c) (state_of cs after units g)) refl t
        (agrees_is (does (first_step (kept name (or_empty (option_map chars line)) (line_said (option_map chars line)))) (state_of cs after units f)) (Done c) (state_of cs after units g)
        (subst (λ x. does (first_step (kept name (or_empty x) (line_said x))) (state_of cs after units f) ≡ Gives (Done c) (state_of cs after units g)) w e))
        (outputs_stay to_come outs errs old new same)

    pub gets_kept : (r : Result Completion Stop) (q : Result Completion Fault) → words ≡ option_map chars line → TookLine line → EndsDone page f r g → Closed r q → Works (gets_into name) (state_of cs before units f) q (state_of cs after units g)
    gets_kept (Ok c) q w t h e = rw e (said (Has (Done c)) c refl w t h)
    gets_kept (Err (stop.Error c)) q w t h e = rw e (said (Fails c) c refl w t h)
    gets_kept (Err stop.Memory) q w t h e = rw e (broken_works to_come outs errs old new same (gets_into name) (state_of cs before units f) (state_of cs after units g) chan_fault.Memory refl refl)
