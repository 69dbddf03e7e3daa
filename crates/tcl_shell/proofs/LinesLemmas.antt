-- Texts that go to an output one behind another.
use Rattle.std.proofs.Common.{◌≡◌, ℕ, List, ◌++◌, Option, Result, Ok, Err, OnOk, OnErr, sym, ap, ◌∙◌, append_assoc, inl, inr}
use Rattle.tcl_chan.specs.Devices.{put_behind}
use Rattle.tcl_chan.specs.Faults.{write_failures}
use Rattle.tcl_chan.specs.Writing.{WroteFront}
use Rattle.tcl_chan.specs.declared.fault.ChanFault.{ChanFault}
use Rattle.tcl_chan.specs.declared.fault.ChanFault.TheVariants.{Write}
use Rattle.tcl_chan.proofs.Puts.{put_behind-twice}
use Rattle.tcl_shell.specs.Lines.{Said}

front_here : (old new : Option (List ℕ)) (a b : List ℕ) → WroteFront old new a → WroteFront old new (a ++ b)
front_here old new a b w = record { front = w.front; rest = w.rest ++ b; whole = ap (λ t. t ++ b) w.whole ∙ append_assoc w.front w.rest b; written = w.written }

front_behind : (old mid new : Option (List ℕ)) (a b : List ℕ) → mid ≡ put_behind old a → WroteFront mid new b → WroteFront old new (a ++ b)
front_behind old mid new a b e w = record {
  front = a ++ w.front;
  rest = w.rest;
  whole = ap (λ t. a ++ t) w.whole ∙ sym (append_assoc a w.front w.rest);
  written = w.written ∙ ap (λ o. put_behind o w.front) e ∙ put_behind-twice old a w.front;
}

-- a beginning of three texts, of which the first, the second or the third met the failure

pub front_first : {A E : Type 0} (r : Result A E) (old new : Option (List ℕ)) (a b c : List ℕ) → WroteFront old new a → OnErr r (WroteFront old new (a ++ (b ++ c)))
front_first (Ok x) old new a b c w = tt
front_first (Err e) old new a b c w = front_here old new a (b ++ c) w

pub front_second : {A E : Type 0} (r : Result A E) (old mid new : Option (List ℕ)) (a b c : List ℕ) → mid ≡ put_behind old a → WroteFront mid new b → OnErr r (WroteFront old new (a ++ (b ++ c)))
front_second (Ok x) old mid new a b c e w = tt
front_second (Err f) old mid new a b c e w = front_behind old mid new a (b ++ c) e (front_here mid new b c w)

pub front_third : {A E : Type 0} (r : Result A E) (old mid last new : Option (List ℕ)) (a b c : List ℕ) → mid ≡ put_behind old a → last ≡ put_behind mid b → OnErr r (WroteFront last new c) → OnErr r (WroteFront old new (a ++ (b ++ c)))
front_third (Ok x) old mid last new a b c e f w = tt
front_third (Err x) old mid last new a b c e f w = front_behind old mid new a (b ++ c) e (front_behind mid last new b c f w)

pub said_by : {A D : Type 0} (r : Result A ChanFault) (device device' : D) (line : List ℕ) (old new : Option (List ℕ)) (failed failed' : ℕ) → OnOk r (new ≡ put_behind old line) → OnErr r (WroteFront old new line) → OnErr r (r ≡ Err Write) → failed' ≡ write_failures failed r → Said line (record { device = device; bytes = old; failed = failed }) (record { device = device'; bytes = new; failed = failed' })
said_by (Ok x) device device' line old new failed failed' whole front fault count = inl (whole, count)
said_by (Err e) device device' line old new failed failed' whole front fault count = inr (front, count ∙ ap (λ r. write_failures failed r) fault)
