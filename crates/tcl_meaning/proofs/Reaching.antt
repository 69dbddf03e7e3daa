-- What a whole run comes to, seen from a place in it: by what a part came to, it is what the rest comes to.
use Rattle.std.proofs.Common.{◌≡◌, refl, sym, ap, ◌∙◌, subst}
use Rattle.tcl_meaning.specs.Beginnings.{channels_of, OutputsBegin}
use Rattle.tcl_meaning.specs.Completions.{Completion}
use Rattle.tcl_meaning.specs.Effects.{Scope, Prog, Call, Got, Gives, Broke, Exits, Untold, on_got, exec, entered, returned, ◌>>=◌ as andthen}
use Rattle.tcl_meaning.specs.State.{State}
use Rattle.tcl_meaning.specs.Value.{Value, Has, Fails, ◌>>=◌, give, on_value}
use Rattle.tcl_meaning.proofs.Runs.{IsOnward, exec_goes, exec_bind}

pub on_got_give : {A : Type 0} (r : Got A) → on_got r (λ a t. Gives a t) ≡ r
on_got_give (Gives a s) = refl
on_got_give (Broke x) = refl
on_got_give (Exits n x) = refl
on_got_give (Untold x) = refl

pub on_got_same : {A B : Type 0} (r : Got A) (f g : A → State → Got B) → ((a : A) (t : State) → f a t ≡ g a t) → on_got r f ≡ on_got r g
on_got_same (Gives a s) f g h = h a s
on_got_same (Broke x) f g h = refl
on_got_same (Exits n x) f g h = refl
on_got_same (Untold x) f g h = refl

module _ {T : Type 0} (run : T → State → Got Completion) where
  -- What a whole run gives is what a program gives from here.
  pub record Reaches {A : Type 0} (got : Got A) (p : Prog T A) (s : State) : Type 0 where
    pub same : got ≡ exec run p s

  -- so far, the outputs are beginnings
  pub begins_here : IsOnward run → {A : Type 0} {got : Got A} {p : Prog T A} {s : State} → Reaches got p s → OutputsBegin s.channels (channels_of got)
  begins_here onward {p = p} {s = s} r = subst (λ g. OutputsBegin s.channels (channels_of g)) (sym r.same) (exec_goes run onward p s).adds

  pub reach_bind : {A B : Type 0} {got : Got B} (p : Prog T A) (f : A → Prog T B) {s t : State} (a : A) → Reaches got (andthen p f) s → exec run p s ≡ Gives a t → Reaches got (f a) t
  reach_bind p f {s} a r e = record { same = r.same ∙ exec_bind run p f s ∙ ap (λ g. on_got g (λ b u. exec run (f b) u)) e }

  pub reach_value : {A B : Type 0} {got : Got (Value B)} (p : Prog T (Value A)) (f : A → Prog T (Value B)) {s t : State} (a : A) → Reaches got (p >>= f) s → exec run p s ≡ Gives (Has a) t → Reaches got (f a) t
  reach_value p f {s} a r e = record { same = r.same ∙ exec_bind run p (on_value f) s ∙ ap (λ g. on_got g (λ b u. exec run (on_value f b) u)) e }

  pub reach_call : {A : Type 0} {got : Got A} (scope : Scope) (task : T) (f : Completion → Prog T A) {s t : State} (c : Completion) → Reaches got (Call scope task f) s → run task (entered scope s) ≡ Gives c t → Reaches got (f c) (returned scope s t)
  reach_call scope task f {s} c r e = record { same = r.same ∙ ap (λ g. on_got g (λ b u. exec run (f b) (returned scope s u))) e }

  -- a value that fails ends the whole
  pub fails_value : {A B : Type 0} {got : Got (Value B)} (p : Prog T (Value A)) (f : A → Prog T (Value B)) {s t : State} (c : Completion) → Reaches got (p >>= f) s → exec run p s ≡ Gives (Fails c) t → got ≡ Gives (Fails c) t
  fails_value p f {s} c r e = r.same ∙ exec_bind run p (on_value f) s ∙ ap (λ g. on_got g (λ b u. exec run (on_value f b) u)) e

  -- ---- values, one after another

  pub bind_bind : {A B C : Type 0} (p : Prog T (Value A)) (f : A → Prog T (Value B)) (g : B → Prog T (Value C)) (s : State) → exec run ((p >>= f) >>= g) s ≡ exec run (p >>= (λ a. f a >>= g)) s
  bind_bind {A} {B} {C} p f g s =
      exec_bind run (p >>= f) (on_value g) s
      ∙ ap (λ r. on_got r (λ v u. exec run (on_value g v) u)) (exec_bind run p (on_value f) s)
      ∙ go (exec run p s)
      ∙ sym (exec_bind run p (on_value (λ a. f a >>= g)) s)
    where
      go : (r : Got (Value A)) → on_got (on_got r (λ v u. exec run (on_value f v) u)) (λ v u. exec run (on_value g v) u) ≡ on_got r (λ v u. exec run (on_value (λ a. f a >>= g) v) u)
      go (Gives (Has a) u) = sym (exec_bind run (f a) (on_value g) u)
      go (Gives (Fails c) u) = refl
      go (Broke x) = refl
      go (Exits n x) = refl
      go (Untold x) = refl

  -- what follows is the same if it is the same for every value
  pub bind_same : {A B : Type 0} (p : Prog T (Value A)) (f g : A → Prog T (Value B)) → ((a : A) (t : State) → exec run (f a) t ≡ exec run (g a) t) → (s : State) → exec run (p >>= f) s ≡ exec run (p >>= g) s
  bind_same {A} {B} p f g h s =
      exec_bind run p (on_value f) s
      ∙ on_got_same (exec run p s) (λ v u. exec run (on_value f v) u) (λ v u. exec run (on_value g v) u) go
      ∙ sym (exec_bind run p (on_value g) s)
    where
      go : (v : Value A) (u : State) → exec run (on_value f v) u ≡ exec run (on_value g v) u
      go (Has a) u = h a u
      go (Fails c) u = refl

  -- a value that is given unchanged
  pub bind_give : {A : Type 0} (p : Prog T (Value A)) (k : A → A) → ((a : A) → k a ≡ a) → (s : State) → exec run (p >>= (λ a. give (k a))) s ≡ exec run p s
  bind_give {A} p k h s = exec_bind run p (on_value (λ a. give (k a))) s ∙ go (exec run p s)
    where
      go : (r : Got (Value A)) → on_got r (λ v u. exec run (on_value (λ a. give (k a)) v) u) ≡ r
      go (Gives (Has a) u) = ap (λ x. Gives (Has x) u) (h a)
      go (Gives (Fails c) u) = refl
      go (Broke x) = refl
      go (Exits n x) = refl
      go (Untold x) = refl
