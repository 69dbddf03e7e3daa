-- A session, put together from its turns.
use Rattle.std.proofs.Common.{◌≡◌, ℕ, zero, suc, ◌-◌, ◌<◌, ◌≤◌, Bool, true, false, ◌⊎◌, List, [], ◌∷◌, ◌++◌, Option, Some, None, Result, Ok, Err, IfOk, refl, sym, ap, ◌∙◌, subst, inl, inr, arith}
use Rattle.std.specs.Prelude.{ℤ, pos, negsuc}
use Rattle.tcl_channels.specs.Shown.{over}
use Rattle.tcl_chars.specs.Characters.{newline}
use Rattle.tcl_chars.specs.Texts.{literal}
use Rattle.tcl_names.specs.Named.{text_of}
use Rattle.std.specs.declared.rc.RcStr.{RcStr}
use Rattle.std.specs.declared.alloc.Global.{Global}
use Rattle.tcl_chars.specs.declared.numbers.Dialect.{Dialect}
use Rattle.tcl_chan.specs.declared.fault.ChanFault.{ChanFault}
use Rattle.tcl_chan.specs.declared.fault.ChanFault.TheVariants as fault
use Rattle.tcl_pages.specs.Texts.{Text}
use Rattle.tcl_meaning.specs.Agreement.{Agrees, IsPart}
use Rattle.tcl_meaning.specs.Beginnings.{channels_of, OutBegins, OutputsBegin}
use Rattle.tcl_meaning.specs.Completions.{Completion, code_number, nothing, top}
use Rattle.tcl_meaning.specs.Effects.{Got, Gives, Broke, Exits, Untold, on_got, wrote}
use Rattle.tcl_meaning.specs.Frames.{Frame}
use Rattle.tcl_meaning.specs.Run.{run_script, args_put}
use Rattle.tcl_meaning.specs.Script.{Run, plan}
use Rattle.tcl_meaning.specs.State as meaning
use Rattle.tcl_meaning.specs.State.{Commands, Channels, Store, State, Remains}
use Rattle.tcl_meaning.specs.Tasks.{Script}
use Rattle.tcl_meaning.proofs.Onward.{outputs_same, outputs_trans, out_more, out_same}
use Rattle.tcl_meaning.proofs.Runs.{outcome_goes}
use Rattle.tcl_meaning.specs.Frames.{global_frame}
use Rattle.tcl_meaning.specs.Pages.{first_commands}
use Rattle.tcl_chan.specs.Worlds.{SameDevices, SameOutputs}
use Rattle.tcl_chan.specs.declared.reading.Reader.{Reader}
use Rattle.tcl_chan.specs.declared.world.World.{World}
use Rattle.std.specs.Str.{chars}
use Rattle.std.specs.String.{string_bytes}
use Rattle.std.specs.declared.string.String.{String}
use Rattle.tcl_interp.specs.Interp.{Shows, store_at, kept_by}
use Rattle.tcl_interp.specs.Outcome.{Ends, IsDone, state_left}
use Rattle.tcl_interp.specs.declared.host.Outcome.{Outcome}
use Rattle.tcl_interp.specs.declared.host.Outcome.TheVariants as outcome
use Rattle.tcl_shell.specs.Ends.{EndsSo, EndsGiving, Tells}
use Rattle.tcl_shell.specs.Faults.{end_by, text_by}
use Rattle.tcl_shell.specs.Session.{Taken, first_text, took_text, prompted, told_result, told_by, told, evaluated, from_input, from_channels, turn, turns, most_texts, session}
use Rattle.tcl_shell.specs.Turns.{TakenBy, Changes, Lost, LeadsTo, Asked, TurnEnds, left_over, Followed, IfGoes}
use Rattle.tcl_shell.specs.declared.end.SessionEnd.{SessionEnd}
use Rattle.tcl_shell.specs.declared.end.SessionEnd.TheVariants as end
use Rattle.tcl_shell.specs.declared.end.Turn.{Turn}
use Rattle.tcl_shell.specs.declared.end.Turn.TheVariants as the_turn

-- ---- a session only puts out

wrote_adds : (o : meaning.Output) (t : Text) (s : State) → OutputsBegin s.channels (wrote o t s).channels
wrote_adds meaning.stdout t s = record { out = out_more s.channels.out _; err = out_same s.channels.err }
wrote_adds meaning.stderr t s = record { out = out_same s.channels.out; err = out_more s.channels.err _ }

result_adds : (t : Text) (s : State) → OutputsBegin s.channels (told_result t s).channels
result_adds [] s = outputs_same s.channels
result_adds (c ∷ cs) s = wrote_adds meaning.stdout ((c ∷ cs) ++ newline ∷ []) s

told_adds : (z : ℤ) (t : Text) (s : State) → OutputsBegin s.channels (told_by z t s).channels
told_adds (pos zero) t s = result_adds t s
told_adds (pos (suc n)) t s = wrote_adds meaning.stderr (t ++ newline ∷ []) s
told_adds (negsuc n) t s = wrote_adds meaning.stderr (t ++ newline ∷ []) s

bind_adds : {A B : Type 0} (c : Channels) (got : Got A) (f : A → State → Got B) → OutputsBegin c (channels_of got) → ((a : A) (s : State) → OutputsBegin s.channels (channels_of (f a s))) → OutputsBegin c (channels_of (on_got got f))
bind_adds c (Gives a s) f h k = outputs_trans h (k a s)
bind_adds c (Broke r) f h k = h
bind_adds c (Exits n r) f h k = h
bind_adds c (Untold d) f h k = h

script_adds : (d : Dialect) (t : Text) (s : State) → OutputsBegin s.channels (channels_of (run_script d t s))
script_adds d t s = bind_adds s.channels (Run d (Script 1 nothing t) s) (λ c after. Gives (top c) after) (outcome_goes (plan d) (Script 1 nothing t) s).adds (λ c after. outputs_same after.channels)

module _ (d : Dialect) (next : State → Got (Unit {0})) (more : (s : State) → OutputsBegin s.channels (channels_of (next s))) where
  evaluated_adds : (t : Text) (s : State) → OutputsBegin s.channels (channels_of (evaluated d next t s))
  evaluated_adds [] s = outputs_same s.channels
  evaluated_adds (c ∷ cs) s =
      bind_adds s.channels (run_script d (c ∷ cs) s) (λ completion after. next (told completion after)) (script_adds d (c ∷ cs) s)
      (λ completion after. outputs_trans (told_adds (code_number completion.code) completion.result after) (more (told completion after)))

  input_adds : (o : Option Text) (s : State) → OutputsBegin s.channels (channels_of (from_input d next o s))
  input_adds None s = outputs_same s.channels
  input_adds (Some cs) s = let h = evaluated_adds (first_text cs).text (took_text cs s) in record { out = h.out; err = h.err }

  channels_add : (b : Bool) (s : State) → OutputsBegin s.channels (channels_of (from_channels d next b s))
  channels_add true s = outputs_same s.channels
  channels_add false s = input_adds s.channels.input s

  prompted_adds : (s : State) → OutputsBegin (prompted s).channels (channels_of (turn d next s))
  prompted_adds s = channels_add s.channels.met_end (prompted s)

pub turns_add : (d : Dialect) (n : ℕ) (s : State) → OutputsBegin s.channels (channels_of (turns d n s))
unfolding turns
turns_add d zero s = outputs_same s.channels
turns_add d (suc n) s = outputs_trans (wrote_adds meaning.stdout (literal "% ") s) (prompted_adds d (turns d n) (turns_add d n) s)

begun : {A : Type 0} (c : Channels) (got : Got A) → OutputsBegin c (channels_of got) → IsPart c got
begun c (Gives a s) h = h
begun c (Broke x) h = h
begun c (Exits n x) h = h
begun c (Untold d) h = inl h

pub nothing_begun : (d : Dialect) (n : ℕ) (s : State) → IsPart s.channels (turns d n s)
nothing_begun d n s = begun s.channels (turns d n s) (turns_add d n s)

pub turns_more : (d : Dialect) (n : ℕ) (s : State) → 0 < n → turns d n s ≡ turn d (turns d (n - 1)) s
unfolding turns
turns_more d zero s h = absurd (omega (arith, h))
turns_more d (suc n) s h = let e : suc n - 1 ≡ n = omega arith in ap (λ (k : ℕ). turn d (turns d k) s) (sym e)

pub turns_none : (d : Dialect) (n : ℕ) (s : State) → n ≡ 0 → turns d n s ≡ Gives tt s
unfolding turns
turns_none d zero s h = refl
turns_none d (suc n) s h = absurd (omega (arith, h))

-- ---- runs that go on

module _ {A : Type 0} where
  pub leads_agrees : (got on : Got A) (c : Channels) (real : Got A) → LeadsTo got on c → OutputsBegin c (channels_of real) → Agrees on real → Agrees got real
  leads_agrees got on c real (inl e) h a = subst (λ (g : Got A). Agrees g real) (sym e) a
  leads_agrees got on c real (inr l) h a = subst (λ (g : Got A). Agrees g real) (sym l.asks) (outputs_trans l.begins h)

  pub leads_part : (got on : Got A) (c d : Channels) → LeadsTo got on c → OutputsBegin c d → IsPart d on → IsPart d got
  leads_part got on c d (inl e) h p = subst (λ (g : Got A). IsPart d g) (sym e) p
  leads_part got on c d (inr l) h p = subst (λ (g : Got A). IsPart d g) (sym l.asks) (inr (outputs_trans l.begins h))

  pub leads_on : (got mid on : Got A) (c d : Channels) → LeadsTo got mid c → OutputsBegin c d → LeadsTo mid on d → LeadsTo got on d
  leads_on got mid on c d (inl e) h l = subst (λ (g : Got A). LeadsTo g on d) (sym e) l
  leads_on got mid on c d (inr l) h k = inr (record { channels = l.channels; asks = l.asks; begins = outputs_trans l.begins h })

pub leads_ends : (e : SessionEnd) (got on : Got (Unit {0})) (c : Channels) (r : Remains) → LeadsTo got on c → OutputsBegin c r.channels → EndsSo e on r → EndsSo e got r
leads_ends end.Ended got on c r l h p = record { left = p.left; agrees = leads_agrees got on c (Gives tt (state_left r p.left)) l h p.agrees }
leads_ends end.Budget got on c r l h p = leads_agrees got on c (Broke r) l h p
leads_ends (end.Exit n) got on c r l h p = leads_agrees got on c (Exits n r) l h p
leads_ends end.Memory got on c r l h p = leads_part got on c r.channels l h p
leads_ends end.Io got on c r l h p = leads_part got on c r.channels l h p

pub leads_turn : (d : Dialect) (n : ℕ) (t : Turn) (got on : Got (Unit {0})) (c : Channels) (r : Remains) → LeadsTo got on c → OutputsBegin c r.channels → TurnEnds d n t on r → TurnEnds d n t got r
leads_turn d n (the_turn.Goes left) got on c r l h p = leads_on got on (turns d n (state_left r left)) c r.channels l h p
leads_turn d n (the_turn.Over e) got on c r l h p = leads_ends e got on c r l h p

-- ---- a text is asked for

same_over : (store : Store) (units : ℕ) (s : State) (c : Channels) → s ≡ over store c units → s.channels ≡ c
same_over store units s c e = ap (λ (x : State). x.channels) e

module _ (d : Dialect) (n : ℕ) (store : Store) (units : ℕ) (before mid : Channels) where
  abbrev asking : Got (Unit {0})
  asking = turn d (turns d n) (over store before units)

  abbrev at_mid : State
  at_mid = over store mid units

  -- the prompt leaves the input
  met_same : prompted (over store before units) ≡ at_mid → before.met_end ≡ mid.met_end
  met_same e = ap (λ (x : State). x.channels.met_end) e

  asked_from : (b : Bool) → prompted (over store before units) ≡ at_mid → mid.met_end ≡ b → asking ≡ from_channels d (turns d n) b at_mid
  asked_from b e m = ap (λ (x : Bool). from_channels d (turns d n) x (prompted (over store before units))) (met_same e ∙ m) ∙ ap (from_channels d (turns d n) b) e

  pub asked_ended : (t : Text) → t ≡ [] → prompted (over store before units) ≡ at_mid → mid.met_end ≡ true → LeadsTo asking (evaluated d (turns d n) t at_mid) mid
  asked_ended t none e m = inl (asked_from true e m ∙ sym (ap (λ (x : Text). evaluated d (turns d n) x at_mid) none))

  took_it : (o : Option Text) (t : Text) (after : Channels) → TakenBy first_text o t after.input after.met_end → after.out ≡ mid.out → after.err ≡ mid.err
      → LeadsTo (from_input d (turns d n) o at_mid) (evaluated d (turns d n) t (over store after units)) after
  took_it None t after h out err =
      inr (record { channels = mid; asks = refl; begins = record { out = subst (λ (o : Option (List ℕ)). OutBegins mid.out o) (sym out) (out_same mid.out); err = subst (λ (o : Option (List ℕ)). OutBegins mid.err o) (sym err) (out_same mid.err) } })
  took_it (Some cs) t after h out err =
      let taken = h.2 in
      let input : ◌≡◌ {A = Option Text} (Some (first_text cs).left) after.input = ap (λ (x : Taken). Some x.left) taken ∙ sym h.1 in
      let met = ap (λ (x : Taken). x.met_end) taken in
      let words = ap (λ (x : Taken). x.text) taken in
      inl (λ i. evaluated d (turns d n) (words i) (over store (record { input = input i; met_end = met i; out = sym out i; err = sym err i }) units))

  asked_taken : (t : Text) (after : Channels) → prompted (over store before units) ≡ at_mid → mid.met_end ≡ false → TakenBy first_text mid.input t after.input after.met_end → after.out ≡ mid.out → after.err ≡ mid.err
      → LeadsTo asking (evaluated d (turns d n) t (over store after units)) after
  asked_taken t after e m h out err = subst (λ (g : Got (Unit {0})). LeadsTo g (evaluated d (turns d n) t (over store after units)) after) (sym (asked_from false e m)) (took_it mid.input t after h out err)

  -- where it was broken off
  asked_nothing : (after : Channels) → OutputsBegin after (prompted (over store before units)).channels → IsPart after asking
  asked_nothing after h = begun after asking (outputs_trans h (prompted_adds d (turns d n) (turns_add d n) (over store before units)))

pub taken_asked : {E : Type 0} (r : Result (String Global) E) (before mid after : Channels) → ((store : Store) (units : ℕ) → prompted (over store before units) ≡ over store mid units) → mid.met_end ≡ false
    → IfOk r (λ text. TakenBy first_text mid.input (chars (string_bytes text)) after.input after.met_end) → after.out ≡ mid.out → after.err ≡ mid.err → Asked (text_by r) before after
taken_asked (Ok text) before mid after e m h out err = λ d n store units. asked_taken d n store units before mid (chars (string_bytes text)) after (e store units) m h out err
taken_asked (Err x) before mid after e m h out err =
    λ d n store units.
    asked_nothing d n store units before mid after
    (subst (λ (s : State). OutputsBegin after s.channels) (sym (e store units)) (record { out = subst (λ (o : Option (List ℕ)). OutBegins o mid.out) (sym out) (out_same mid.out); err = subst (λ (o : Option (List ℕ)). OutBegins o mid.err) (sym err) (out_same mid.err) }))

pub broken_asked : {E : Type 0} (r : Result Text E) (x : E) (before after : Channels) → r ≡ Err x → ((store : Store) (units : ℕ) → OutputsBegin after (prompted (over store before units)).channels) → Asked r before after
broken_asked r x before after is h = rw is (λ d n store units. asked_nothing d n store units before before after (h store units))

-- ---- how a text ended is told

module _ (d : Dialect) (n : ℕ) (before after : Channels) (globals : Frame) (commands : Commands) where
  abbrev onward : Completion → State → Got (Unit {0})
  onward = λ c s. turns d n (told c s)

  abbrev old_left : Remains
  old_left = left_over globals commands before

  abbrev new_left : Remains
  new_left = left_over globals commands after

  abbrev was_told : ℤ → Text → ℕ → Type 0
  was_told z t units = (store : Store) (left : ℕ) → told_by z t (over store before left) ≡ over store after left

  goes_from : (got : Got Completion) (c : Completion) (left : ℕ) (z : ℤ) (t : Text) → z ≡ code_number c.code → t ≡ c.result → ((store : Store) (units : ℕ) → told_by z t (over store before units) ≡ over store after units) → OutputsBegin before after
      → Agrees got (Gives c (state_left old_left left)) → LeadsTo (on_got got onward) (turns d n (state_left new_left left)) after
  goes_from (Gives a s) c left z t code words e more h =
      let at : State = state_left old_left left in
      let said : told c at ≡ state_left new_left left = ap (λ (x : ℤ). told_by x c.result at) (sym code) ∙ ap (λ (x : Text). told_by z x at) (sym words) ∙ e at.store left in
      inl (ap (λ (g : Got Completion). on_got g onward) h ∙ ap (turns d n) said)
  goes_from (Broke x) c left z t code words e more h = absurd cc
  goes_from (Exits m x) c left z t code words e more h = absurd cc
  goes_from (Untold k) c left z t code words e more h = inr (record { channels = k; asks = refl; begins = outputs_trans h more })

  stops_from : (got : Got Completion) (c : Completion) (left : ℕ) (z : ℤ) (t : Text) → z ≡ code_number c.code → t ≡ c.result → ((store : Store) (units : ℕ) → OutputsBegin after (told_by z t (over store before units)).channels) → OutputsBegin before after
      → Agrees got (Gives c (state_left old_left left)) → IsPart after (on_got got onward)
  stops_from (Gives a s) c left z t code words e more h =
      let at : State = state_left old_left left in
      let said : told_by z t at ≡ told c at = ap (λ (x : ℤ). told_by x t at) code ∙ ap (λ (x : Text). told_by (code_number c.code) x at) words in
      subst (λ (g : Got Completion). IsPart after (on_got g onward)) (sym h)
      (begun after (turns d n (told c at)) (outputs_trans (subst (λ (x : State). OutputsBegin after x.channels) said (e at.store left)) (turns_add d n (told c at))))
  stops_from (Broke x) c left z t code words e more h = absurd cc
  stops_from (Exits m x) c left z t code words e more h = absurd cc
  stops_from (Untold k) c left z t code words e more h = inr (outputs_trans h more)

pub done_goes : (o : Outcome) (code : ℤ) (result options : RcStr Global) (left : ℕ) (t : Text) (before after : Channels) → o ≡ outcome.Done code result options left → t ≡ text_of result
    → ((store : Store) (units : ℕ) → told_by code t (over store before units) ≡ over store after units) → OutputsBegin before after → Followed o before (the_turn.Goes left) after
done_goes o code result options left t before after is words e more =
    rw is (λ d n got globals commands h.
    goes_from d n before after globals commands got h.completion left code t h.tells.0 (words ∙ h.tells.1) e more
    (subst (λ (x : ℕ). Agrees got (Gives h.completion (state_left (left_over globals commands before) x))) (sym h.tells.3) h.agrees))

pub done_stops : (o : Outcome) (code : ℤ) (result options : RcStr Global) (left : ℕ) (t : Text) (before after : Channels) → o ≡ outcome.Done code result options left → t ≡ text_of result
    → ((store : Store) (units : ℕ) → OutputsBegin after (told_by code t (over store before units)).channels) → OutputsBegin before after → Followed o before (the_turn.Over end.Io) after
done_stops o code result options left t before after is words e more =
    rw is (λ d n got globals commands h.
    stops_from d n before after globals commands got h.completion left code t h.tells.0 (words ∙ h.tells.1) e more
    (subst (λ (x : ℕ). Agrees got (Gives h.completion (state_left (left_over globals commands before) x))) (sym h.tells.3) h.agrees))

module _ {A B : Type 0} (f : A → State → Got B) where
  broke_on : (got : Got A) (r : Remains) → Agrees got (Broke r) → Agrees (on_got got f) (Broke r)
  broke_on (Gives a s) r h = absurd cc
  broke_on (Broke x) r h = ap (λ (g : Got A). on_got g f) h
  broke_on (Exits n x) r h = absurd cc
  broke_on (Untold c) r h = h

  exits_on : (got : Got A) (n : ℕ) (r : Remains) → Agrees got (Exits n r) → Agrees (on_got got f) (Exits n r)
  exits_on (Gives a s) n r h = absurd cc
  exits_on (Broke x) n r h = absurd cc
  exits_on (Exits m x) n r h = ap (λ (g : Got A). on_got g f) h
  exits_on (Untold c) n r h = h

  part_on : (got : Got A) (c : Channels) → ((a : A) (s : State) → OutputsBegin s.channels (channels_of (f a s))) → IsPart c got → IsPart c (on_got got f)
  part_on (Gives a s) c more h = begun c (f a s) (outputs_trans h (more a s))
  part_on (Broke x) c more h = h
  part_on (Exits n x) c more h = h
  part_on (Untold x) c more h = h

told_on : (d : Dialect) (n : ℕ) (c : Completion) (s : State) → OutputsBegin s.channels (channels_of (turns d n (told c s)))
told_on d n c s = outputs_trans (told_adds (code_number c.code) c.result s) (turns_add d n (told c s))

pub budget_follows : (o : Outcome) (before : Channels) → o ≡ outcome.Budget → Followed o before (the_turn.Over end.Budget) before
budget_follows o before is = rw is (λ d n got globals commands h. broke_on (λ c s. turns d n (told c s)) got (left_over globals commands before) h)

pub exit_follows : (o : Outcome) (status : ℕ) (before : Channels) → o ≡ outcome.Exit status → Followed o before (the_turn.Over (end.Exit status)) before
exit_follows o status before is = rw is (λ d n got globals commands h. exits_on (λ c s. turns d n (told c s)) got status (left_over globals commands before) h)

pub io_follows : (o : Outcome) (before : Channels) → o ≡ outcome.Io → Followed o before (the_turn.Over end.Io) before
io_follows o before is = rw is (λ d n got globals commands h. part_on (λ c s. turns d n (told c s)) got before (told_on d n) h)

memory_follows : (o : Outcome) (before : Channels) → o ≡ outcome.Memory → Followed o before (the_turn.Over end.Memory) before
memory_follows o before is = rw is (λ d n got globals commands h. part_on (λ c s. turns d n (told c s)) got before (told_on d n) h)

failed_follows : (o : Outcome) (before : Channels) (t : Turn) → o ≡ outcome.Failed → Followed o before t before
failed_follows o before t is = rw is (λ d n got globals commands h. absurd h)

over_follows : (o : Outcome) (before : Channels) (t : Turn) → o ≡ outcome.Over → Followed o before t before
over_follows o before t is = rw is (λ d n got globals commands h. absurd h)

pub refused_follows : (o : Outcome) (before : Channels) → (o ≡ outcome.Memory) ⊎ (o ≡ outcome.Failed) ⊎ (o ≡ outcome.Over) → Followed o before (the_turn.Over end.Memory) before
refused_follows o before (inl is) = memory_follows o before is
refused_follows o before (inr (inl is)) = failed_follows o before (the_turn.Over end.Memory) is
refused_follows o before (inr (inr is)) = over_follows o before (the_turn.Over end.Memory) is

-- ---- a turn

pub broken_turn : (f : ChanFault) (d : Dialect) (n : ℕ) (s : State) (r : Remains) → IsPart r.channels (turn d (turns d n) s) → TurnEnds d n (the_turn.Over (end_by f)) (turn d (turns d n) s) r
broken_turn fault.Memory d n s r h = h
broken_turn fault.Read d n s r h = h
broken_turn fault.Write d n s r h = h

pub ended_turn : (d : Dialect) (n : ℕ) (s : State) (t : Text) (store : Store) (units : ℕ) (r : Remains) → t ≡ [] → store ≡ (state_left r units).store → LeadsTo (turn d (turns d n) s) (evaluated d (turns d n) t (over store r.channels units)) r.channels
    → TurnEnds d n (the_turn.Over end.Ended) (turn d (turns d n) s) r
ended_turn d n s t store units r none kept l =
    let g = turn d (turns d n) s in
    let on : LeadsTo g (Gives tt (state_left r units)) r.channels = subst (λ (x : Store). LeadsTo g (Gives tt (over x r.channels units)) r.channels) kept (subst (λ (x : Text). LeadsTo g (evaluated d (turns d n) x (over store r.channels units)) r.channels) none l) in
    record { left = units; agrees = leads_agrees g (Gives tt (state_left r units)) r.channels (Gives tt (state_left r units)) on (outputs_same r.channels) refl }

evaluated_is : (d : Dialect) (next : State → Got (Unit {0})) (t : Text) (s : State) → (t ≡ [] → ⊥) → evaluated d next t s ≡ on_got (run_script d t s) (λ completion after. next (told completion after))
evaluated_is d next [] s h = absurd (h refl)
evaluated_is d next (c ∷ cs) s h = refl

pub evaluated_turn : (d : Dialect) (n : ℕ) (s mid : State) (t : Text) (turned : Turn) (r : Remains) → (t ≡ [] → ⊥) → LeadsTo (turn d (turns d n) s) (evaluated d (turns d n) t mid) mid.channels → OutputsBegin mid.channels r.channels
    → TurnEnds d n turned (on_got (run_script d t mid) (λ completion after. turns d n (told completion after))) r → TurnEnds d n turned (turn d (turns d n) s) r
evaluated_turn d n s mid t turned r some l more h =
    leads_turn d n turned (turn d (turns d n) s) (evaluated d (turns d n) t mid) mid.channels r l more (subst (λ (g : Got (Unit {0})). TurnEnds d n turned g r) (sym (evaluated_is d (turns d n) t mid some)) h)

-- ---- what was written

pub changes_of_ok : {A E : Type 0} (r : Result A E) (x : A) (change : State → State) (before after : Channels) → r ≡ Ok x → Changes r change before after → (store : Store) (units : ℕ) → change (over store before units) ≡ over store after units
changes_of_ok (Ok y) x change before after e h = h
changes_of_ok (Err y) x change before after e h = absurd cc

pub changes_of_err : {A E : Type 0} (r : Result A E) (x : E) (change : State → State) (before after : Channels) → r ≡ Err x → Changes r change before after → (store : Store) (units : ℕ) → OutputsBegin after (change (over store before units)).channels
changes_of_err (Ok y) x change before after e h = absurd cc
changes_of_err (Err y) x change before after e h = h

-- ---- the whole

pub still_sound : (t : Turn) (failed fails : Bool) → failed ≡ fails → IfGoes t (fails ≡ false) → IfGoes t (failed ≡ false)
still_sound (the_turn.Goes left) failed fails e h = e ∙ h
still_sound (the_turn.Over e) failed fails is h = tt

pub same_devices : {R W E : Type 0} (old mid new : World R W E Reader) → SameDevices old mid → SameDevices mid new → SameDevices old new
same_devices old mid new a b = record { stdin = b.stdin ∙ a.stdin; stdout = b.stdout ∙ a.stdout; stderr = b.stderr ∙ a.stderr }

pub same_outputs : {R W E : Type 0} (old mid new : World R W E Reader) → SameOutputs old mid → SameOutputs mid new → SameOutputs old new
same_outputs old mid new a b = record { stdout = b.stdout ∙ a.stdout; stderr = b.stderr ∙ a.stderr }

-- no text is left to be evaluated
pub spent : (d : Dialect) (n : ℕ) (s : State) (r : Remains) (got : Got (Unit {0})) → n ≤ 0 → s ≡ state_left r s.units → LeadsTo got (turns d n s) r.channels → EndsGiving got r
spent d n s r got none e l =
    let real : Got (Unit {0}) = Gives tt (state_left r s.units) in
    let gives : turns d n s ≡ real = turns_none d n s (omega (arith, none)) ∙ ap (λ (x : State). Gives tt x) e in
    record { left = s.units; agrees = leads_agrees got (turns d n s) r.channels real l (outputs_same r.channels) (subst (λ (g : Got (Unit {0})). Agrees g real) (sym gives) refl) }

-- the outputs that a session leaves
pub tells_so : (e : SessionEnd) (got : Got (Unit {0})) (globals : Frame) (commands : Commands) (c : Channels) (out err : Option (List ℕ)) → c.out ≡ out → c.err ≡ err → EndsSo e got (left_over globals commands c) → Tells e got out err
tells_so e got globals commands c out err p q h = record {
  globals = globals;
  commands = commands;
  input = c.input;
  met_end = c.met_end;
  ends = subst (λ (o : Option (List ℕ)). EndsSo e got (left_over globals commands (record c { out = out; err = o }))) q (subst (λ (o : Option (List ℕ)). EndsSo e got (left_over globals commands (record c { out = o }))) p h);
}

-- the session that an interpreter begins
pub begins_so : (dialect : Dialect) (shows : Shows) (budget : ℕ) (c c' : Channels) → shows.dialect ≡ dialect → shows.globals ≡ global_frame (args_put (literal "tclint") []) → shows.commands ≡ first_commands
    → c.input ≡ c'.input → c.met_end ≡ c'.met_end → c.out ≡ c'.out → c.err ≡ c'.err → turns shows.dialect most_texts (over (kept_by shows) c budget) ≡ session dialect c' budget
begins_so dialect shows budget c c' d g k input met out err =
    λ i. turns (d i) most_texts (over (store_at (g i) (k i)) (record { input = input i; met_end = met i; out = out i; err = err i }) budget)
