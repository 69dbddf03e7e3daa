-- What a world shows: its devices, what is left of its input, and whether a call met the input's end.
use Rattle.std.specs.Prelude.{◌≡◌, ℕ, Bool, List, Option}
use Rattle.std.specs.Borrow.{MutBor}
use Rattle.tcl_chan.specs.Readers.{left_of}
use Rattle.tcl_chan.specs.declared.fault.Out.{Out}
use Rattle.tcl_chan.specs.declared.fault.Out.TheVariants as out
use Rattle.tcl_chan.specs.declared.reading.Reader.{Reader}
use Rattle.tcl_chan.specs.declared.world.World.{World}

-- the input's device
abbrev pub stdin : {R W E : Type 0} → World R W E Reader → R
stdin w = w.input.now

-- the device of standard output
abbrev pub stdout : {R W E : Type 0} → World R W E Reader → W
stdout w = w.out.now

-- the device of standard error
abbrev pub stderr : {R W E : Type 0} → World R W E Reader → E
stderr w = w.err.now

-- The bytes of the input that no call took: those read ahead, and those still to come. Nothing is told of them where the device
-- tells nothing and has not ended.
abbrev pub unread_of : {R W E : Type 0} → (R → Option (List ℕ)) → World R W E Reader → Option (List ℕ)
unread_of to_come w = left_of to_come w.reader w.input.now

-- whether a call met the input's end (eof(n))
abbrev pub met_end : {R W E : Type 0} → World R W E Reader → Bool
met_end w = w.reader.met_end

-- The world's devices are those behind these loans.
pub record LentTo {R W E : Type 0} (w : World R W E Reader) (input : MutBor R) (first : MutBor W) (second : MutBor E) : Type 0 where
  pub stdin : w.input ≡ input
  pub stdout : w.out ≡ first
  pub stderr : w.err ≡ second

-- The loans are the same: what the devices end as is what the world leaves them as.
pub record SameDevices {R W E : Type 0} (old new : World R W E Reader) : Type 0 where
  pub stdin : new.input.ghost_name ≡ old.input.ghost_name
  pub stdout : new.out.ghost_name ≡ old.out.ghost_name
  pub stderr : new.err.ghost_name ≡ old.err.ghost_name

-- The input's side is the same: its device, what is left of it, and whether a call met its end.
pub record SameInput {R W E : Type 0} (to_come : R → Option (List ℕ)) (old new : World R W E Reader) : Type 0 where
  pub stdin : stdin new ≡ stdin old
  pub unread : unread_of to_come new ≡ unread_of to_come old
  pub met_end : met_end new ≡ met_end old

-- The outputs' devices are the same.
pub record SameOutputs {R W E : Type 0} (old new : World R W E Reader) : Type 0 where
  pub stdout : stdout new ≡ stdout old
  pub stderr : stderr new ≡ stderr old

-- The device of the other output is the same.
abbrev pub SameOther : {R W E : Type 0} → Out → World R W E Reader → World R W E Reader → Type 0
SameOther out.Stdout old new = stderr new ≡ stderr old
SameOther out.Stderr old new = stdout new ≡ stdout old
